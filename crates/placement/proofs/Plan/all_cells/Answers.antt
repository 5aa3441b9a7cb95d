-- `placement::Plan::all_cells` meets its contract: before each node the cells of those before it are stored.
use Rattle.std.proofs.Common.{◌∙◌, arith}
use Rattle.placement.proofs.Plans.{all_stored, ids_are, ids_counted}
use Rattle.placement.proofs.Plan.all_cells.Goals as goal

pub node_cells-requires-clause-id : goal.node_cells-requires-clause-id
node_cells-requires-clause-id c =
    let s = c.self in
    let ids = ids_counted s.inside _ s.view_is s.invariant _ c.id_count-id-end.ensures in (
      omega arith,
      omega (arith, ids, ids_are s.inside _ s.view_is s.invariant),
    )

pub returns : goal.returns
returns c =
    let s = c.self in
    let ids = ids_counted s.inside _ s.view_is s.invariant _ c.id_count-id-end.ensures in
    c.loop-id.invariant ∙ all_stored s.inside _ s.view_is s.invariant _ _ _ (omega (arith, ids)) c.requires.room c.requires.zero
