-- The numbering of wires: the ids that have a wire are numbered in rising order, so number and id give each other. Over any test of
-- ids, so that it holds of rows and of columns.
use Prim.Native.Nat.{ℕ, zero, suc, ◌+◌, ◌<◌}
use mathlib.Core.Path.{◌≡◌, refl, sym, ◌∙◌}
use mathlib.Core.Logic.{inl, inr}
use mathlib.Core.Bool.{Bool, true, false}
use mathlib.Core.List.{[], ◌∷◌, ◌++◌}
use native.Mathlib.Omega.{arith}
use lib.ListN.{length, get_or, length-append, get_or-append}
use Rattle.std.proofs.lemmas.List.{get_or_push}
use Rattle.std.proofs.lemmas.Bool.{cases_Bool}
use Rattle.common.proofs.Lists.{at_or_below}
use Rattle.diagram.specs.Wires.{owners}
use Rattle.diagram.proofs.Owners.{owners_more}

-- an id is the last of the list, or not in it
grown : (has : ℕ → Bool) (n : ℕ) → has n ≡ true → owners has (suc n) ≡ owners has n ++ (n ∷ [])
unfolding owners
grown has n h = rw (h, owners)

kept : (has : ℕ → Bool) (n : ℕ) → has n ≡ false → owners has (suc n) ≡ owners has n
unfolding owners
kept has n h = rw (h, owners)

-- the number of an id that has a wire is the number of a wire
pub number_below : (has : ℕ → Bool) (n i : ℕ) → has i ≡ true → i < n → length (owners has i) < length (owners has n)
number_below has zero i h k = absurd (omega arith)
number_below has (suc n) i h k =
    elim (at_or_below i n k) [
      | inl e ↦ rw (← e, grown has i h, length-append) (omega arith)
      | inr below ↦ omega (arith, number_below has n i h below, owners_more has n)
    ]

-- and the wire with that number is its own
pub owner_at : (has : ℕ → Bool) (n i : ℕ) → has i ≡ true → i < n → get_or (owners has n) (length (owners has i)) 0 ≡ i
owner_at has zero i h k = absurd (omega arith)
owner_at has (suc n) i h k =
    elim (at_or_below i n k) [
      | inl e ↦ rw (← e, grown has i h) (get_or_push (owners has i) i 0 (length (owners has i)) refl)
      | inr below ↦
          elim (cases_Bool (has n)) [
            | inl last ↦ rw (grown has n last) (get_or-append (owners has n) (n ∷ []) 0 (length (owners has i)) (number_below has n i h below) ∙ owner_at has n i h below)
            | inr none ↦ rw (kept has n none) (owner_at has n i h below)
          ]
    ]

-- the id with the wire numbered r, of those below n
record Owner (has : ℕ → Bool) (n r id : ℕ) : Type 0 where
  holds : has id ≡ true
  below : id < n
  numbered : length (owners has id) ≡ r

owner : (has : ℕ → Bool) (n r : ℕ) → r < length (owners has n) → Owner has n r (get_or (owners has n) r 0)
unfolding owners
owner has zero r k = absurd (omega arith)
owner has (suc n) r k =
    elim (cases_Bool (has n)) [
      | inl last ↦
          rw (grown has n last)
          (elim (at_or_below r (length (owners has n)) (let b = rw (grown has n last, length-append) at k in omega arith)) [
            | inl e ↦
                rw (get_or_push (owners has n) n 0 r (sym e)) (record { holds = last; below = omega arith; numbered = sym e })
            | inr earlier ↦ rw (get_or-append (owners has n) (n ∷ []) 0 r earlier) (longer (owner has n r earlier))
          ])
      | inr none ↦ rw (kept has n none) (longer (owner has n r (rw (kept has n none) at k)))
    ]
  where
    longer : {id : ℕ} → Owner has n r id → Owner has (suc n) r id
    longer o = record { holds = o.holds; below = omega arith; numbered = o.numbered }

pub owner_has : (has : ℕ → Bool) (n r : ℕ) → r < length (owners has n) → has (get_or (owners has n) r 0) ≡ true
owner_has has n r k = (owner has n r k).holds

pub owner_below : (has : ℕ → Bool) (n r : ℕ) → r < length (owners has n) → get_or (owners has n) r 0 < n
owner_below has n r k = (owner has n r k).below

pub owner_number : (has : ℕ → Bool) (n r : ℕ) → r < length (owners has n) → length (owners has (get_or (owners has n) r 0)) ≡ r
owner_number has n r k = (owner has n r k).numbered

-- two ids with one number are one
pub number_injective :
    (has : ℕ → Bool) (i k : ℕ) → has i ≡ true → has k ≡ true → length (owners has i) ≡ length (owners has k) → i ≡ k
number_injective has i k p q e =
    sym (owner_at has (suc (i + k)) i p (omega arith)) ∙ rw e (owner_at has (suc (i + k)) k q (omega arith))
