-- Map's answer: the refusal of the job, ground 14, or the placement of its diagram.
use Prim.Native.Nat.{ℕ, ◌*◌, ◌≤◌}
use mathlib.Core.Path.{◌≡◌, refl, sym, ap, ◌∙◌}
use mathlib.Core.List.{List, []}
use native.Mathlib.Omega.{arith}
use lib.ListN.{length, take}
use borrow.Author.Tests.{ltb-false}
use Rattle.std.specs.Prelude.{true, false, ltb, Result, Ok, Err, IsErr}
use Rattle.std.specs.Result.{IsErrAnd}
use Rattle.common.specs.declared.Fault.TheVariants.{NoRoom}
use Rattle.common.specs.declared.Refusal.{Refusal}
use Rattle.common.specs.Fault.{handed, fault_of, faults}
use Rattle.common.specs.Limits.{max_outputs}
use Rattle.common.specs.Lists.{zeros, padded}
use Rattle.common.specs.Outcome.{Outcome, ◌then◌, lowest, most_number, unless, buffer_of, Answered}
use Rattle.common.proofs.Faults.{answered_on}
use Rattle.common.proofs.Lists.{take-padded}
use Rattle.common.proofs.Within.{EndsWithin, ends_done, then_ends, unless_ends, within, most_line}
use Rattle.cells.specs.declared.Crossbar.{Crossbar}
use Rattle.cells.specs.Record.{Whole, size}
use Rattle.cells.proofs.Sizes.{CellsMost}
use Rattle.diagram.specs.Diagram.{Diagram, id_count, entry, entries}
use Rattle.diagram.specs.Wires.{has_row, has_column, row_of, column_of, row_count, column_count}
use Rattle.diagram.specs.declared.Node.{Node}
use Rattle.diagram.specs.declared.Diagram.{Diagram as Holder}
use Rattle.diagram.specs.declared.IdWires.{IdWires}
use Rattle.diagram.specs.Held.{held, wires_of, WireNumbers}
use Rattle.jobs.specs.declared.Job.{Job}
use Rattle.jobs.specs.Answer.{job_of}
use Rattle.jobs.specs.Job.{accepted}
use Rattle.jobs.proofs.Read.{JobGiven, Drawn}
use Rattle.jobs.proofs.Refusals.{accepted_ends}
use Rattle.jobs.proofs.Steps.{passed_on}
use Rattle.placement.specs.Placement.{cells, crossbar}
use Rattle.placement.specs.Map.{map_job}
use Rattle.placement.specs.declared.Plan.TheInside.{Inside}
use Rattle.placement.specs.Plan.{planned, IsPlan}

-- what map and its part promise of an outcome
abbrev pub Gives : Outcome Whole → ℕ → Result Crossbar Refusal → List ℕ → Type 0
Gives o room r after = Answered o (handed (λ (w : Whole). w.head)) (λ (w : Whole). w.codes) room r after

-- a refused job
pub map_refused :
    (s : List ℕ) (room : ℕ) (e : Refusal) (r : Result Crossbar Refusal) (after : List ℕ)
    → IsErr r × IsErrAnd r (λ x. x ≡ e)
    → Err e ≡ handed job_of (accepted s)
    → after ≡ zeros room
    → Gives (map_job s room) room r after
unfolding map_job
map_refused s room e r after returned read none =
    rw (passed_on r e returned) (answered_on job_of _ _ (accepted s) _ room e after (sym read) none)

-- the numbers of the wires don't depend on the outputs
pub same_numbers : (h : Holder) (outs : List ℕ) (w : List IdWires) → WireNumbers (held h []) w → WireNumbers (held h outs) w
unfolding held id_count entry entries row_of column_of has_row has_column wires_of
same_numbers h outs w numbers = record { number = numbers.number }

-- the job that was read, and its node table
module _ (s : List ℕ) (job : Job) (nodes : List Node) (g : JobGiven s job nodes) where
  size_is : job.rows * job.columns ≡ size (crossbar g.diagram)
  unfolding job_of size crossbar
  size_is = rw g.is

  -- ground 14
  pub map_short :
      (room held : ℕ) (after : List ℕ)
      → held ≡ room
      → ltb held (job.rows * job.columns) ≡ true
      → after ≡ zeros room
      → Gives (map_job s room) room (Err (record { fault = NoRoom; line = 0 })) after
  unfolding map_job ◌then◌ lowest unless buffer_of handed fault_of faults
  map_short room held after same short none =
      rw g.accepts (rw (rw (same, size_is) at short) (record { answer = refl; buffer = none }))

  -- a plan that is made of them is one of its diagram
  module _ (p : Inside) (same : p.job.now ≡ job) (drawn : Drawn p.diagram job nodes) where
    outs_are : take job.outputs job.outs ≡ g.diagram.outs
    unfolding job_of
    outs_are = rw g.is (take-padded max_outputs (length g.diagram.outs) g.diagram.outs refl)

    planned_is : planned p ≡ g.diagram
    unfolding planned held job_of
    planned_is = rw (drawn.0, drawn.1, drawn.2) (rw (same, outs_are, g.front, g.is))

    pub is_plan : WireNumbers (held p.diagram []) p.wires.now → IsPlan p
    unfolding planned
    is_plan numbers =
        record {
          is = same ∙ g.is ∙ ap job_of (sym planned_is);
          facts = rw planned_is g.accepted_facts.facts;
          sizes = rw planned_is g.accepted_facts.sizes;
          numbers = same_numbers p.diagram _ p.wires.now numbers;
        }

    module _ (room : ℕ) (fits : ltb room (job.rows * job.columns) ≡ false) where
      pub map_room : row_count (planned p) * column_count (planned p) ≤ room
      unfolding size crossbar
      map_room = rw planned_is (ltb-false room (size (crossbar g.diagram)) (rw size_is at fits))

      -- and what is placed is map's answer
      pub map_done :
          (all : ℕ) (x : Crossbar) (after : List ℕ)
          → room ≡ all
          → x ≡ crossbar (planned p)
          → after ≡ padded room (cells (planned p))
          → Gives (map_job s all) all (Ok x) after
      unfolding map_job ◌then◌ lowest unless buffer_of handed
      map_done all x after same is filled =
          rw g.accepts (
          rw (← same, rw size_is at fits) (record { answer = rw (is, planned_is); buffer = filled ∙ ap (λ (d : Diagram). padded room (cells d)) planned_is }))

-- how map ends
pub mapped_ends : (s : List ℕ) (m : ℕ) → EndsWithin CellsMost most_line (map_job s m)
unfolding map_job crossbar size within most_number
mapped_ends s m =
    then_ends (accepted s) _ (accepted_ends s)
    (λ d most. unless_ends _ 0 _ refl (omega arith) (λ z. ends_done most))
