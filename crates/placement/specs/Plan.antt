-- What a plan of placement says: the diagram of an accepted job, with the ids that its outputs name.
use Rattle.std.specs.Prelude.{◌≡◌, take}
use Rattle.diagram.specs.Diagram as law
use Rattle.diagram.specs.Held.{held, WireNumbers}
use Rattle.diagram.specs.Facts.{Facts, Sizes}
use Rattle.jobs.specs.Answer.{job_of}
use Rattle.placement.specs.declared.Plan.TheInside.{Inside}

unfoldable pub planned : Inside → law.Diagram
planned p = held p.diagram (take p.job.now.outputs p.job.now.outs)

-- the job is accepted, and the wires are numbered
pub record IsPlan (p : Inside) : Type 0 where
  pub is : p.job.now ≡ job_of (planned p)
  pub facts : Facts (planned p)
  pub sizes : Sizes (planned p)
  pub numbers : WireNumbers (planned p) p.wires.now
