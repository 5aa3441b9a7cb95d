-- `placement::Plan::node_cells` meets its contract: the entry fits, and so do the cells of its edges.
use Rattle.std.proofs.Common.{arith}
use Rattle.cells.specs.Code.{code_of}
use Rattle.placement.proofs.Plans.{node_fits}
use Rattle.placement.proofs.Plan.node_cells.Goals as goal

pub overflow_cast-x : goal.overflow_cast-x
overflow_cast-x c =
    let node = node_fits _ _ c.self.view_is c.self.invariant _ _ _ c.requires.id c.requires.room c.entry-node.ensures in record { fits = omega arith }

pub edge_cell-requires : goal.edge_cell-requires
unfolding code_of
edge_cell-requires c =
    let node = node_fits _ _ c.self.view_is c.self.invariant _ _ _ c.requires.id c.requires.room c.entry-node.ensures in
    record { ids = (c.requires.id.1, rw c.from.ensures node.low); within = rw (c.on_cell.auto.cells, c.from.ensures) node.low_cell; code = omega arith }

pub edge_cell-requires-2 : goal.edge_cell-requires-2
unfolding code_of
edge_cell-requires-2 c =
    let node = node_fits _ _ c.self.view_is c.self.invariant _ _ _ c.requires.id c.requires.room c.entry-node.ensures in
    record {
      ids = (c.requires.id.1, rw c.from-2.ensures node.high);
      within = rw (c.edge_cell.auto.cells, c.on_cell.auto.cells, c.from-2.ensures) node.high_cell;
      code = omega arith;
    }
