-- Walk's answer, from the job that was read.
use Prim.Native.Nat.{ℕ, zero, suc, ◌<◌}
use mathlib.Core.Path.{◌≡◌, refl, sym, ap, ◌∙◌}
use mathlib.Core.Bool.{Bool, false, true, not, ◌&&◌}
use mathlib.Core.List.{List, []}
use lib.ListN.{length, get_or, take}
use lib.Dec.{ltb}
use borrow.Author.Tests.{ltb-true, not-false}
use Rattle.std.specs.Prelude.{Result, Ok, Err, IsErr}
use Rattle.std.specs.Result.{IsErrAnd}
use Rattle.common.specs.declared.Fault.TheVariants as fault
use Rattle.common.specs.declared.Refusal.{Refusal}
use Rattle.common.specs.Fault.{handed, fault_of, faults}
use Rattle.common.specs.Limits.{max_outputs}
use Rattle.common.specs.Outcome.{done, ◌then◌, lowest, unless}
use Rattle.common.proofs.Faults.{handed_on}
use Rattle.common.proofs.Lists.{get_or-padded, and_right}
use Rattle.cells.specs.Setting.{is_setting}
use Rattle.diagram.specs.declared.Diagram.{Diagram as Holder}
use Rattle.diagram.specs.declared.Node.{Node}
use Rattle.diagram.specs.Held.{held}
use Rattle.diagram.specs.Diagram.{Diagram, entry, entries, id_count}
use Rattle.diagram.specs.Walk.{step, steps, walk_end, walk_value, Falls}
use Rattle.diagram.specs.Facts.{Facts}
use Rattle.diagram.proofs.Walk.{facts_fall}
use Rattle.jobs.specs.declared.Job.{Job}
use Rattle.jobs.specs.Answer.{job_of}
use Rattle.jobs.specs.Job.{accepted, walk}
use Rattle.jobs.specs.Steps.{given}
use Rattle.jobs.proofs.Read.{Drawn}
use Rattle.jobs.proofs.Steps.{passed_on}

-- the walk and its steps do not look at the outputs
module _ (d : Diagram) where
  abbrev bare_of : Diagram
  bare_of = given d.switches d.one d.nodes []

  same_steps : (setting : List ℕ) (m i : ℕ) → steps bare_of setting m i ≡ steps d setting m i
  unfolding steps step entry entries
  same_steps setting zero i = refl
  same_steps setting (suc m) i = same_steps setting m (step d setting i)

  same_walk : (setting : List ℕ) (i : ℕ) → walk_value bare_of setting i ≡ walk_value d setting i
  unfolding walk_value walk_end
  same_walk setting i = rw (same_steps setting (length d.nodes) i)

  same_falls : Falls d → Falls bare_of
  unfolding entry entries id_count
  same_falls f = record { low_falls = f.low_falls; high_falls = f.high_falls }

-- a refusal of the job is walk's
pub walk_refused :
    (s setting : List ℕ) (j : ℕ) (r : Result ℕ Refusal) (e : Refusal)
    → IsErr r × IsErrAnd r (λ x. x ≡ e)
    → Err e ≡ handed job_of (accepted s)
    → r ≡ handed (λ v. v) (walk s setting j)
unfolding walk
walk_refused s setting j r e h q = passed_on r e h ∙ sym (handed_on job_of (λ v. v) (accepted s) _ e (sym q))

-- the job that was read, and its node table
module _ (s : List ℕ) (job : Job) (ns : List Node) (d : Diagram) (accepts : accepted s ≡ done d) (is : job ≡ job_of d) (front : take job.nodes ns ≡ d.nodes) where
  -- the diagram that the job gives with them
  module _ (h : Holder) (drawn : Drawn h job ns) where
    held_is : held h [] ≡ bare_of d
    unfolding held job_of
    held_is = rw (drawn.0, drawn.1, drawn.2) (rw (front, is))

    pub walk_falls : Facts d → Falls (held h [])
    walk_falls facts = rw held_is (same_falls d (facts_fall d facts))

  module _ (setting : List ℕ) (j : ℕ) where
    abbrev wrong : Bool
    wrong = not (is_setting job.switches setting && ltb j job.outputs)

    wrong_is : wrong ≡ not (is_setting d.switches setting && ltb j (length d.outs))
    unfolding job_of
    wrong_is = rw is

    -- ground 13
    pub walk_unset : wrong ≡ true → Err (record { fault = fault.WrongSetting; line = 0 }) ≡ handed (λ v. v) (walk s setting j)
    unfolding walk ◌then◌ lowest unless handed fault_of faults
    walk_unset h =
        let met : not (is_setting d.switches setting && ltb j (length d.outs)) ≡ true = rw wrong_is at h in
        rw accepts (rw met)

    module _ (passed : wrong ≡ false) where
      pub walk_below : j < job.outputs
      walk_below = ltb-true j job.outputs (and_right (is_setting job.switches setting) (ltb j job.outputs) (not-false _ passed))

      pub walk_found :
          (h : Holder)
          → Drawn h job ns
          → (value : ℕ)
          → value ≡ walk_value (held h []) setting (get_or job.outs j 0)
          → Ok value ≡ handed (λ v. v) (walk s setting j)
      unfolding walk job_of ◌then◌ lowest unless handed
      walk_found h drawn value e =
          let unmet : not (is_setting d.switches setting && ltb j (length d.outs)) ≡ false = rw wrong_is at passed in
          let within : j < length d.outs = rw is at walk_below in
          let target : get_or job.outs j 0 ≡ get_or d.outs j 0 = rw is (get_or-padded max_outputs d.outs j 0 within) in
          let v : value ≡ walk_value d setting (get_or d.outs j 0) = e ∙ rw (held_is h drawn, target) (same_walk d setting (get_or d.outs j 0)) in
          rw accepts (rw unmet (ap Ok v))
