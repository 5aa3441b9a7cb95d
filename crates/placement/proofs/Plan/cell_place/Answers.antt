-- `placement::Plan::cell_place` meets its contract: the place is in range, since the column of an id is at most the id.
use mathlib.Core.Path.{◌∙◌}
use Rattle.std.proofs.Common.{arith}
use Rattle.std.proofs.lemmas.Nat.{mul-le}
use Rattle.diagram.specs.Held.{wires_of}
use Rattle.diagram.proofs.Owners.{column_most}
use Rattle.placement.proofs.Plans.{column_at, ids_most}
use Rattle.placement.proofs.Plan.cell_place.Goals as goal

pub overflow_add-result : goal.overflow_add-result
unfolding wires_of
overflow_add-result c =
    let few = ids_most _ _ c.self.view_is c.self.invariant in
    let column = c.from-3.ensures ∙ column_at _ _ c.self.view_is c.self.invariant c.args.k c.requires.1 in
    let row = mul-le c.from.result c.from-2.result 65535 65535 (omega arith) (omega arith) in
    record { fits = omega (arith, row, column, column_most c.args.self.now c.args.k, few, c.requires.1) }
