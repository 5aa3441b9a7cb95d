-- `forms::one_line` meets its contract.
use Rattle.forms.proofs.Template.{one_apart}
use Rattle.forms.proofs.Fronts.{line_is}
use Rattle.forms.proofs.one_line.Goals as goal

pub returns : goal.returns
returns c = line_is _ _ _ _ one_apart _ _ _ c.read_one.ensures c.refused.ensures c.unwrap_or.ensures
