-- `forms::end_line` meets its contract.
use Rattle.forms.proofs.Template.{end_apart}
use Rattle.forms.proofs.Fronts.{line_is}
use Rattle.forms.proofs.end_line.Goals as goal

pub returns : goal.returns
returns c = line_is _ _ _ _ end_apart _ _ _ c.read_end.ensures c.refused.ensures c.unwrap_or.ensures
