-- Laws of the walk of a diagram: a step takes the child that the switch selects, falls from every node, and stays at the terminals;
-- so the walk from an id ends at a terminal, and a step does not change where it ends.
use Prim.Native.Nat.{ℕ, zero, suc, ◌≤◌, ◌<◌}
use mathlib.Core.Path.{◌≡◌, refl, sym, ap, ◌∙◌}
use mathlib.Core.Logic.{◌⊎◌, inl, inr, ⊎_elim}
use mathlib.Core.Bool.{true, false}
use mathlib.Core.List.{List}
use native.Mathlib.Omega.{arith}
use lib.ListN.{length, get_or}
use lib.Dec.{eqb}
use Rattle.std.proofs.lemmas.Bool.{cases_Bool}
use Rattle.diagram.specs.Diagram.{Diagram, terminal, entries, entry, id_count, switch_at, low_at, high_at}
use Rattle.diagram.specs.Walk.{step, steps, walk_end, Falls}
use Rattle.diagram.specs.Facts.{Facts}

-- an id is 0, 1 or a node's
pub by_id : (P : ℕ → Type 0) (i : ℕ) → P 0 → P 1 → (2 ≤ i → P i) → P i
by_id P zero zeroth first node = zeroth
by_id P (suc zero) zeroth first node = first
by_id P (suc (suc i)) zeroth first node = node (omega arith)

-- the step by the switch's value
pub step-high : (d : Diagram) (s : List ℕ) (i : ℕ) → eqb (get_or s (switch_at d i) 0) 1 ≡ true → step d s i ≡ high_at d i
unfolding step
step-high d s i e = rw (e, step)

pub step_low : (d : Diagram) (s : List ℕ) (i : ℕ) → eqb (get_or s (switch_at d i) 0) 1 ≡ false → step d s i ≡ low_at d i
unfolding step
step_low d s i e = rw (e, step)

pub step_same :
    (d : Diagram) (s t : List ℕ) (i : ℕ)
    → get_or s (switch_at d i) 0 ≡ get_or t (switch_at d i) 0
    → step d s i ≡ step d t i
unfolding step
step_same d s t i e = rw (e, step)

-- what holds of both children holds of the step
pub step_cases :
    (P : ℕ → Type 0) (d : Diagram) (s : List ℕ) (i : ℕ) → P (low_at d i) → P (high_at d i) → P (step d s i)
step_cases P d s i low high =
    ⊎_elim
    (λ (e : eqb (get_or s (switch_at d i) 0) 1 ≡ true). rw (step-high d s i e) high)
    (λ (e : eqb (get_or s (switch_at d i) 0) 1 ≡ false). rw (step_low d s i e) low)
    (cases_Bool (eqb (get_or s (switch_at d i) 0) 1))

-- a terminal is its own child
pub step_zero : (d : Diagram) (s : List ℕ) → step d s 0 ≡ 0
unfolding entry entries terminal
step_zero d s = step_cases (λ k. k ≡ 0) d s 0 refl refl

pub step_one : (d : Diagram) (s : List ℕ) → step d s 1 ≡ 1
unfolding entry entries terminal
step_one d s = step_cases (λ k. k ≡ 1) d s 1 refl refl

-- a node's step falls
pub facts_fall : (d : Diagram) → Facts d → Falls d
facts_fall d facts =
    record {
      low_falls = λ i node within. (facts.node i node within).low_below;
      high_falls = λ i node within. (facts.node i node within).high_below;
    }

pub step_falls : (d : Diagram) (s : List ℕ) → Falls d → (i : ℕ) → 2 ≤ i → i < id_count d → step d s i < i
step_falls d s falls i node within =
    step_cases (λ k. k < i) d s i (falls.low_falls i node within) (falls.high_falls i node within)

-- no number of steps leaves an id that is its own step
pub steps_stay : (d : Diagram) (s : List ℕ) (n i : ℕ) → step d s i ≡ i → steps d s n i ≡ i
unfolding steps
steps_stay d s zero i e = refl
steps_stay d s (suc n) i e = rw e (steps_stay d s n i e)

pub walk_zero : (d : Diagram) (s : List ℕ) → walk_end d s 0 ≡ 0
unfolding walk_end
walk_zero d s = steps_stay d s (length d.nodes) 0 (step_zero d s)

pub walk_one : (d : Diagram) (s : List ℕ) → walk_end d s 1 ≡ 1
unfolding walk_end
walk_one d s = steps_stay d s (length d.nodes) 1 (step_one d s)

-- a terminal tests no switch of the job, and its walk stays there
pub switch_terminal : (d : Diagram) (k : ℕ) → k < 2 → switch_at d k ≡ d.switches
unfolding entry entries terminal
switch_terminal d k end = by_id (λ k. switch_at d k ≡ d.switches) k refl refl (λ (node : 2 ≤ k). absurd (omega arith))

pub walk-terminal : (d : Diagram) (s : List ℕ) (k : ℕ) → k < 2 → walk_end d s k ≡ k
walk-terminal d s k end =
    by_id (λ k. walk_end d s k ≡ k) k (walk_zero d s) (walk_one d s) (λ (node : 2 ≤ k). absurd (omega arith))

-- n steps come to a terminal from any id up to n + 1, and one step more does not move from there
module _ (d : Diagram) (s : List ℕ) (falls : Falls d) where
  pub steps_end : (n i : ℕ) → i < id_count d → i ≤ suc n → (steps d s n i ≡ 0) ⊎ (steps d s n i ≡ 1)
  unfolding steps
  steps_end zero i within near =
      by_id
      (λ k. (steps d s 0 k ≡ 0) ⊎ (steps d s 0 k ≡ 1))
      i
      (inl refl)
      (inr refl)
      (λ (node : 2 ≤ i). absurd (omega arith))
  steps_end (suc n) i within near =
      by_id
      (λ k. (steps d s (suc n) k ≡ 0) ⊎ (steps d s (suc n) k ≡ 1))
      i
      (inl (steps_stay d s (suc n) 0 (step_zero d s)))
      (inr (steps_stay d s (suc n) 1 (step_one d s)))
      (λ (node : 2 ≤ i).
      let below = step_falls d s falls i node within in steps_end n (step d s i) (omega arith) (omega arith))

  pub steps_more : (n i : ℕ) → i < id_count d → i ≤ suc n → steps d s (suc n) i ≡ steps d s n i
  unfolding steps
  steps_more zero i within near =
      by_id
      (λ k. steps d s 1 k ≡ steps d s 0 k)
      i
      (step_zero d s)
      (step_one d s)
      (λ (node : 2 ≤ i). absurd (omega arith))
  steps_more (suc n) i within near =
      by_id
      (λ k. steps d s (suc (suc n)) k ≡ steps d s (suc n) k)
      i
      (rw (step_zero d s) (rw (step_zero d s) refl))
      (rw (step_one d s) (rw (step_one d s) refl))
      (λ (node : 2 ≤ i).
      let below = step_falls d s falls i node within in steps_more n (step d s i) (omega arith) (omega arith))

  pub walk_falls : (i : ℕ) → i < id_count d → walk_end d s (step d s i) ≡ walk_end d s i
  unfolding walk_end id_count steps
  walk_falls i within = steps_more (length d.nodes) i within (omega arith)

  -- an id whose step does not fall is a terminal, and the walk ends there
  pub walk_stops : (i : ℕ) → i < id_count d → i ≤ step d s i → walk_end d s i ≡ i
  walk_stops i within stays =
      by_id
      (λ k. walk_end d s k ≡ k)
      i
      (walk_zero d s)
      (walk_one d s)
      (λ (node : 2 ≤ i). absurd (omega (arith, step_falls d s falls i node within)))

module _ (d : Diagram) (s : List ℕ) (facts : Facts d) where
  pub walk_ends : (i : ℕ) → i < id_count d → (walk_end d s i ≡ 0) ⊎ (walk_end d s i ≡ 1)
  unfolding walk_end id_count
  walk_ends i within = steps_end d s (facts_fall d facts) (length d.nodes) i within (omega arith)

  pub walk_step : (i : ℕ) → i < id_count d → walk_end d s (step d s i) ≡ walk_end d s i
  walk_step = walk_falls d s (facts_fall d facts)

  -- so the walk from an id ends where the walk from the child that its switch selects does
  pub walk_high : (i : ℕ) → i < id_count d → eqb (get_or s (switch_at d i) 0) 1 ≡ true → walk_end d s i ≡ walk_end d s (high_at d i)
  walk_high i within e = sym (walk_step i within) ∙ ap (walk_end d s) (step-high d s i e)

  pub walk_low : (i : ℕ) → i < id_count d → eqb (get_or s (switch_at d i) 0) 1 ≡ false → walk_end d s i ≡ walk_end d s (low_at d i)
  walk_low i within e = sym (walk_step i within) ∙ ap (walk_end d s) (step_low d s i e)
