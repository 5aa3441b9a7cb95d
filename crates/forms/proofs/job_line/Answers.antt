-- `forms::job_line` meets its contract.
use Rattle.forms.proofs.Template.{job_apart}
use Rattle.forms.proofs.Fronts.{line_is}
use Rattle.forms.proofs.job_line.Goals as goal

pub returns : goal.returns
returns c = line_is _ _ _ _ job_apart _ _ _ c.read_job.ensures c.refused.ensures c.unwrap_or.ensures
