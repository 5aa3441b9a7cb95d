-- `jobs::reading::read_lines` meets its contract: the lines in turn.
use Rattle.std.proofs.Common.{refl, sym, ap, ◌∙◌, Err}
use Rattle.common.specs.Limits.{max_outputs}
use Rattle.diagram.specs.Held.{held}
use Rattle.jobs.proofs.Read.{read_refused, at_nodes, at_outs, at_end, end_goes, read_large, read_job_is, read_filled}
use Rattle.jobs.proofs.reading.read_lines.Goals as goal

pub returns-in_err-head-clause-job : goal.returns-in_err-head-clause-job
returns-in_err-head-clause-job c = read_refused _ _ refl _ _ c.from_residual.ensures c.in_err-head.ensures.goes

pub returns-in_err-rest-clause-job : goal.returns-in_err-rest-clause-job
returns-in_err-rest-clause-job c =
    let head = c.in_ok-head.ensures in
    read_refused _ _ (at_nodes _ _ _ _ _ _ head.goes head.sized _ c.requires) _ _
    c.from_residual-in_err-rest.ensures
    c.in_err-rest.ensures

pub returns-in_err-rest-2-clause-job : goal.returns-in_err-rest-2-clause-job
unfolding held max_outputs
returns-in_err-rest-2-clause-job c =
    let head = c.in_ok-head.ensures in
    read_refused _ _
    (at_outs _ _ _ _ _ _ head.goes head.sized _ c.requires _ c.read_nodes.auto.nodes _ c.in_ok-rest.ensures _ refl)
    _ _ c.from_residual-in_err-rest-2.ensures c.in_err-rest-2.ensures

pub returns-in_err-last_line-clause-job : goal.returns-in_err-last_line-clause-job
unfolding held max_outputs
returns-in_err-last_line-clause-job c =
    let head = c.in_ok-head.ensures in
    read_refused _ _
    (at_end _ _ _ _ _ _ head.goes head.sized _ c.requires _ c.read_nodes.auto.nodes _ c.in_ok-rest.ensures _ refl
    _ c.read_outs.auto.outs _ c.in_ok-rest-2.ensures)
    _ _ c.from_residual-in_err-last_line.ensures (end_goes _ _ _ _ c.in_err-last_line.ensures)

pub returns-then-exceeds-clause-job : goal.returns-then-exceeds-clause-job
unfolding held max_outputs
returns-then-exceeds-clause-job c =
    let head = c.in_ok-head.ensures in
    ap (λ r. Err r) c.at.ensures
    ∙ read_large _ _ _ _ _ _ head.goes head.sized _ c.requires _ c.read_nodes.auto.nodes _ c.in_ok-rest.ensures _ refl
    _ c.read_outs.auto.outs _ c.in_ok-rest-2.ensures (λ d. end_goes d _ _ _ c.in_ok-last_line.ensures) _ c.dimensions-size.ensures
    (sym c.exceeds.ensures ∙ c.if-exceeds.true)

pub returns : goal.returns
unfolding held max_outputs
returns c =
    let head = c.in_ok-head.ensures in
    let small = sym c.exceeds.ensures ∙ c.if-exceeds.false in
    record {
      job =
          read_job_is _ _ _ _ _ _ head.goes head.sized _ c.requires _ c.read_nodes.auto.nodes _ c.in_ok-rest.ensures _ refl
          _ c.read_outs.auto.outs _ c.in_ok-rest-2.ensures (λ d. end_goes d _ _ _ c.in_ok-last_line.ensures) _ c.dimensions-size.ensures small;
      filled =
          read_filled _ _ _ _ _ _ head.goes head.sized _ c.requires _ c.read_nodes.auto.nodes _ c.in_ok-rest.ensures _ refl
          _ c.read_outs.auto.outs _ c.in_ok-rest-2.ensures (λ d. end_goes d _ _ _ c.in_ok-last_line.ensures) _ c.dimensions-size.ensures small _ refl;
    }
