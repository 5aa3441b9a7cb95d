-- `forms::out_line` meets its contract.
use Rattle.forms.proofs.Template.{out_apart}
use Rattle.forms.proofs.Fronts.{line_is}
use Rattle.forms.proofs.out_line.Goals as goal

pub returns : goal.returns
returns c = line_is _ _ _ _ out_apart _ _ _ c.read_out.ensures c.refused.ensures c.unwrap_or.ensures
