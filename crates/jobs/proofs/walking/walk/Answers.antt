-- `jobs::walking::walk` meets its contract.
use native.Mathlib.Omega.{arith}
use Rattle.std.proofs.Common.{sym, ap, ◌∙◌, Err}
use Rattle.common.specs.Limits.{max_outputs}
use Rattle.jobs.proofs.Read.{job_given}
use Rattle.jobs.proofs.Walks.{walk_refused, walk_falls, walk_unset, walk_below, walk_found}
use Rattle.jobs.proofs.walking.walk.Goals as goal

pub returns-in_err-job : goal.returns-in_err-job
returns-in_err-job c = walk_refused _ _ _ _ _ c.from_residual.ensures c.in_err-job.ensures.job

pub returns-then-is_wrong : goal.returns-then-is_wrong
returns-then-is_wrong c =
    let g = job_given _ _ _ c.in_ok-job.ensures.job c.in_ok-job.ensures.table in
    ap (λ r. Err r) c.at.ensures ∙ walk_unset _ _ _ _ g.accepts g.is g.front _ _ (sym c.is_wrong.ensures ∙ c.if-is_wrong.true)

pub diagram-diagram-requires : goal.diagram-diagram-requires
diagram-diagram-requires c =
    let g = job_given _ _ _ c.in_ok-job.ensures.job c.in_ok-job.ensures.table in
    record { entries = g.entries; few = g.nodes_few }

pub bounds-job-output : goal.bounds-job-output
unfolding max_outputs
bounds-job-output c =
    let g = job_given _ _ _ c.in_ok-job.ensures.job c.in_ok-job.ensures.table in
    let below = walk_below _ _ _ _ g.accepts g.is g.front _ _ (sym c.is_wrong.ensures ∙ c.if-is_wrong.false) in
    omega (arith, g.outs_few, below)

pub walk_value-requires : goal.walk_value-requires
walk_value-requires c =
    let g = job_given _ _ _ c.in_ok-job.ensures.job c.in_ok-job.ensures.table in
    walk_falls _ _ _ _ g.accepts g.is g.front _ c.diagram-diagram.ensures g.accepted_facts.facts

pub returns : goal.returns
returns c =
    let g = job_given _ _ _ c.in_ok-job.ensures.job c.in_ok-job.ensures.table in
    walk_found _ _ _ _ g.accepts g.is g.front _ _ (sym c.is_wrong.ensures ∙ c.if-is_wrong.false) _ c.diagram-diagram.ensures _ c.walk_value.ensures
