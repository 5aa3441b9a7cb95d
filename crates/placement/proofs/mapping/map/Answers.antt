-- `placement::mapping::map` meets its contract.
use Rattle.std.proofs.Common.{rules, refl, sym}
use Rattle.jobs.proofs.Read.{job_given}
use Rattle.placement.proofs.Maps.{map_refused, map_short, is_plan, map_room, map_done}
use Rattle.placement.proofs.mapping.map.Goals as goal

pub returns-in_err-job : goal.returns-in_err-job
returns-in_err-job c = map_refused _ _ _ _ _ c.from_residual.ensures c.in_err-job.ensures.job (search rules)

pub returns-then-is_short : goal.returns-then-is_short
returns-then-is_short c =
    let g = job_given _ _ _ c.in_ok-job.ensures.job c.in_ok-job.ensures.table in
    rw c.at.ensures (map_short _ _ _ g _ _ _ c.fill.auto.self (sym c.if-is_short.ensures) (search rules))

pub diagram-diagram-requires : goal.diagram-diagram-requires
diagram-diagram-requires c =
    let g = job_given _ _ _ c.in_ok-job.ensures.job c.in_ok-job.ensures.table in record { entries = g.entries; few = g.nodes_few }

pub invariant_of-plan : goal.invariant_of-plan
invariant_of-plan c =
    let g = job_given _ _ _ c.in_ok-job.ensures.job c.in_ok-job.ensures.table in
    is_plan _ _ _ g _ refl c.diagram-diagram.ensures c.number_wires-wires.ensures

pub all_cells-requires-clause-room : goal.all_cells-requires-clause-room
all_cells-requires-clause-room c =
    let g = job_given _ _ _ c.in_ok-job.ensures.job c.in_ok-job.ensures.table in
    map_room _ _ _ g _ refl c.diagram-diagram.ensures _ (sym c.if-is_short.ensures)

pub returns : goal.returns
returns c =
    let g = job_given _ _ _ c.in_ok-job.ensures.job c.in_ok-job.ensures.table in
    map_done _ _ _ g _ refl c.diagram-diagram.ensures _ (sym c.if-is_short.ensures) _ _ _ c.fill.auto.self c.head.ensures c.all_cells.ensures
