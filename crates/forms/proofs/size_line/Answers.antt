-- `forms::size_line` meets its contract.
use Rattle.forms.proofs.Template.{crossbar_apart}
use Rattle.forms.proofs.Fronts.{line_is}
use Rattle.forms.proofs.size_line.Goals as goal

pub returns : goal.returns
returns c = line_is _ _ _ _ crossbar_apart _ _ _ c.read_size.ensures c.refused.ensures c.unwrap_or.ensures
