-- `placement::Plan::all_cells` meets its contract: before each node the cells of those before it are stored.
use Prim.Native.Nat.{◌-◌}
use Rattle.std.proofs.Common.{◌≡◌}
use Rattle.placement.specs.Filling.{with_nodes}
use Rattle.placement.proofs.Plan.all_cells.Given as goal

abbrev pub invariant-loop-id : goal.invariant-loop-id
invariant-loop-id l = l.cells ≡ with_nodes l.self (l.id - 2) l.fn.cells
