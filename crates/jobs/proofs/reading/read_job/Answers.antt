-- `jobs::reading::read_job` meets its contract: each entry of the lent table, after an accepted job and after a refusal.
use Rattle.std.proofs.Common.{◌≡◌, ◌-◌, ◌++◌, ◌∙◌, length, take, replicate, arith}
use Rattle.diagram.specs.Diagram.{no_node}
use Rattle.jobs.proofs.Read.{table_cleared, table_none}
use Rattle.jobs.proofs.reading.read_job.Goals as goal
use Rattle.jobs.proofs.reading.read_job.Goals.{in-Ok, in-Err}

pub returns-clause-table : goal.returns-clause-table
returns-clause-table c =
    let nodes = c.read_lines-read.new.nodes in
    let from = c.match-read.filled in
    let long = c.read_lines-read.auto.nodes ∙ c.requires in
    let cleared : c.clear.new.nodes ≡ take from nodes ++ replicate (length nodes - from) no_node = grind arith in
    cleared
    ∙ elim c.match-read.branch [
      | in-Ok w ↦ table_cleared _ _ long _ _ w.in-Ok.ensures.filled (w.filled-is ∙ w.from-filled.ensures)
      | in-Err w ↦ table_none _ _ long _ _ w.in-Err.ensures.job w.filled-is
    ]
