-- `forms::cell_line` meets its contract.
use Rattle.forms.proofs.CellLine.{cell_is}
use Rattle.forms.proofs.cell_line.Goals as goal

pub returns : goal.returns
returns c = cell_is _ _ _ _ _ c.read_cell.ensures c.refused.ensures c.unwrap_or.ensures
