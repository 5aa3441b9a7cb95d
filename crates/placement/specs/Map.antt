-- Document 01, "The services": map's outcome, job text in and crossbar out.
use Rattle.std.specs.Prelude.{ℕ, List, [], ◌∷◌, ltb}
use Rattle.common.specs.Outcome.{Outcome, done, ◌then◌, ◌when◌, lowest, unless}
use Rattle.cells.specs.Record.{Whole, size}
use Rattle.jobs.specs.Job.{accepted}
use Rattle.placement.specs.Placement.{cells, crossbar}

-- job text and the length of the output buffer in. Grounds 1 to 11, then 14: "The output buffer is shorter than the R·C cells", line
-- 0.
unfoldable pub map_job : List ℕ → ℕ → Outcome Whole
map_job s room =
    accepted s
    then λ d.
    unless (lowest ((14 when ltb room (size (crossbar d))) ∷ [])) 0 (done (record { head = crossbar d; codes = cells d }))
