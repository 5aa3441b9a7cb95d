-- `jobs::reading::first_lines` meets its contract.
use Rattle.std.proofs.Common.{rules, ap, ◌∙◌}
use Rattle.common.proofs.Faults.{tested_passed}
use Rattle.common.specs.Fault.{handed}
use Rattle.forms.proofs.Told.{job_not, job_due, one_not, one_due}
use Rattle.jobs.specs.Reading.{read_one, read_head, read_text}
use Rattle.jobs.proofs.Accepted.{head_ranges}
use Rattle.jobs.proofs.Steps.{line_not, line_stops, line_goes, goes_err}
use Rattle.jobs.proofs.reading.first_lines.Goals as goal

pub returns-in_default : goal.returns-in_default
unfolding read_text read_head
returns-in_default c =
    record { goes = line_not _ _ _ _ _ _ (job_not c.job_line-first.ensures c.in_default.not-Job) c.refusal_of.ensures; sized = tt }

pub returns-in_err-map_err-clause-goes : goal.returns-in_err-map_err-clause-goes
unfolding read_text read_head
returns-in_err-map_err-clause-goes c =
    goes_err _ _ _ _ c.from_residual.ensures
    (line_stops _ _ _ _ _ _ _ (job_due c.job_line-first.ensures c.in-Job.is) _ _ c.head_fault.ensures (search rules))

pub returns-in_default-form : goal.returns-in_default-form
unfolding read_text read_head read_one
returns-in_default-form c =
    record {
      goes =
          ap (handed (λ a. a)) (line_goes _ _ _ _ _ _ _ (job_due c.job_line-first.ensures c.in-Job.is) _ c.head_fault.ensures (search rules))
          ∙ line_not _ _ _ _ _ _ (one_not c.one_line-second.ensures c.in_default-form.not-One) c.refusal_of-in_default-form.ensures;
      sized = tt;
    }

pub returns-in_err-map_err-2-clause-goes : goal.returns-in_err-map_err-2-clause-goes
unfolding read_text read_head read_one
returns-in_err-map_err-2-clause-goes c =
    goes_err _ _ _ _ c.from_residual-in_err-map_err-2.ensures
    (ap (handed (λ a. a)) (line_goes _ _ _ _ _ _ _ (job_due c.job_line-first.ensures c.in-Job.is) _ c.head_fault.ensures (search rules))
    ∙ line_stops _ _ _ _ _ _ _ (one_due c.one_line-second.ensures c.in-One.is) _ _ c.one_fault.ensures (search rules))

pub returns-clause-goes : goal.returns-clause-goes
unfolding read_text read_head read_one
returns-clause-goes c =
    line_goes _ _ _ _ _ _ _ (job_due c.job_line-first.ensures c.in-Job.is) _ c.head_fault.ensures (search rules)
    ∙ line_goes _ _ _ _ _ _ _ (one_due c.one_line-second.ensures c.in-One.is) _ c.one_fault.ensures (search rules)

pub returns-clause-sized : goal.returns-clause-sized
returns-clause-sized c =
    let r = head_ranges _ _ _ (tested_passed _ _ c.head_fault.ensures (search rules)) in
    record { switches_most = r.0; nodes_most = r.1; outputs_most = r.3 }
