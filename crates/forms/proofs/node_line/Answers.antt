-- `forms::node_line` meets its contract.
use Rattle.forms.proofs.Template.{node_apart}
use Rattle.forms.proofs.Fronts.{line_is}
use Rattle.forms.proofs.node_line.Goals as goal

pub returns : goal.returns
returns c = line_is _ _ _ _ node_apart _ _ _ c.read_node.ensures c.refused.ensures c.unwrap_or.ensures
