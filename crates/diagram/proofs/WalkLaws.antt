-- The walk as it is made: a step takes the child that the setting selects, and the walk ends at the id whose child is not below it, which
-- is where the diagram's walk ends.
use Prim.Native.Nat.{ℕ, zero, suc, ◌≤◌, ◌<◌}
use mathlib.Core.Path.{◌≡◌, sym, ap, ◌∙◌}
use mathlib.Core.Logic.{⊎_elim}
use mathlib.Core.Bool.{true, false}
use mathlib.Core.List.{List}
use native.Mathlib.Omega.{arith}
use mir.Val.{bool_byte}
use lib.ListN.{length, get_or, get_or-eq_default}
use lib.Dec.{eqb}
use borrow.Author.Tests.{ne_eqb}
use Rattle.std.proofs.lemmas.Bool.{cases_Bool, cases_lt}
use Rattle.common.specs.Lists.{bit}
use Rattle.diagram.specs.declared.Node.{Node}
use Rattle.diagram.specs.Diagram.{Diagram, terminal, entries, entry, id_count, switch_at}
use Rattle.diagram.specs.Walk.{step, steps, walk_end, walk_value, Falls}
use Rattle.diagram.specs.Held.{child_of, Ends, stays, goes}
use Rattle.diagram.proofs.Owners.{byte_bit}
use Rattle.diagram.proofs.Walk.{step_cases, step-high, step_low, step_zero, steps_stay, walk_zero, walk_falls, walk_stops}

-- a step takes the child that the setting selects
pub step_child : (d : Diagram) (s : List ℕ) (i : ℕ) → step d s i ≡ child_of (eqb (get_or s (entry d i).x 0) 1) (entry d i)
unfolding child_of
step_child d s i =
    ⊎_elim
    (λ (e : eqb (get_or s (switch_at d i) 0) 1 ≡ true). rw e (step-high d s i e))
    (λ (e : eqb (get_or s (switch_at d i) 0) 1 ≡ false). rw e (step_low d s i e))
    (cases_Bool (eqb (get_or s (switch_at d i) 0) 1))

-- an id past the last has terminal 0's entry, so the walk from it goes to 0
past_entry : (d : Diagram) (i : ℕ) → id_count d ≤ i → entry d i ≡ terminal d.switches 0 0
unfolding entry entries id_count
past_entry d i past =
    let over : length (entries d) ≤ i = omega arith in get_or-eq_default (entries d) (terminal d.switches 0 0) over

past_step : (d : Diagram) (s : List ℕ) (i : ℕ) → id_count d ≤ i → step d s i ≡ 0
unfolding terminal
past_step d s i past =
    let e = past_entry d i past in
    step_cases (λ k. k ≡ 0) d s i (ap (λ (n : Node). n.l) e) (ap (λ (n : Node). n.h) e)

past_steps : (d : Diagram) (s : List ℕ) (n i : ℕ) → id_count d ≤ i → eqb (steps d s n i) 1 ≡ false
unfolding steps id_count
past_steps d s zero i past = ne_eqb i 1 (λ e. omega arith)
past_steps d s (suc n) i past = rw (past_step d s i past, steps_stay d s n 0 (step_zero d s))

pub past_value : (d : Diagram) (s : List ℕ) (i : ℕ) → id_count d ≤ i → 0 ≡ walk_value d s i
unfolding walk_value walk_end bit
past_value d s i past = rw (past_steps d s (length d.nodes) i past)

module _ (d : Diagram) (s : List ℕ) (falls : Falls d) where
  walk_ends_at : {i e : ℕ} → i < id_count d → Ends (step d s) i e → e ≡ walk_end d s i
  walk_ends_at below (stays i up) = sym (walk_stops d s falls i below up)
  walk_ends_at below (goes i e down rest) = walk_ends_at (omega arith) rest ∙ walk_falls d s falls i below

  past_ends_at : {i e : ℕ} → id_count d ≤ i → Ends (step d s) i e → eqb e 1 ≡ eqb (walk_end d s i) 1
  unfolding id_count walk_end
  past_ends_at past (stays i up) = absurd (omega (arith, past_step d s i past))
  past_ends_at past (goes i e down rest) =
      let start = past_step d s i past in
      let end : e ≡ 0 = walk_ends_at (omega arith) rest ∙ ap (walk_end d s) start ∙ walk_zero d s in
      rw (end, past_steps d s (length d.nodes) i past)

  -- an id past the last has the value 0
  pub walk_value_ends : (i e : ℕ) → Ends (step d s) i e → bool_byte (eqb e 1) ≡ walk_value d s i
  unfolding walk_value
  walk_value_ends i e ends =
      byte_bit (eqb e 1)
      ∙ ap bit
      (⊎_elim
      (λ (below : i < id_count d). ap (λ (k : ℕ). eqb k 1) (walk_ends_at below ends))
      (λ (past : id_count d ≤ i). past_ends_at past ends)
      (cases_lt i (id_count d)))
