-- Stores into a buffer of zeros, each of what is to stand at its place: in any order, once each place that is not to be 0 has its
-- store, the buffer is as it is to be.
use Prim.Native.Nat.{ℕ, ◌<◌}
use mathlib.Core.Path.{◌≡◌, refl, sym, ◌∙◌}
use mathlib.Core.Logic.{◌⊎◌, inl, inr}
use mathlib.Core.Bool.{Bool, true, false}
use mathlib.Core.List.{List, []}
use native.Mathlib.Omega.{arith}
use lib.ListN.{length, get_or, set, length-set, length-replicate}
use lib.Seq.{get_or-set_same, get_or-set_other, ext_get_or}
use Rattle.std.proofs.lemmas.Bool.{cases_eq}
use Rattle.common.specs.Lists.{zeros}
use Rattle.common.proofs.Lists.{get_or_before_zeros}
use Rattle.placement.specs.Filling.{store_if}

-- what stands at a place is what is to stand there
abbrev pub FilledAs : List ℕ → List ℕ → ℕ → Type 0
FilledAs target s p = get_or s p 0 ≡ get_or target p 0

-- at each place stands 0 or what is to stand there
pub record Partly (target s : List ℕ) : Type 0 where
  pub long : length s ≡ length target
  pub right : (p : ℕ) → (get_or s p 0 ≡ 0) ⊎ FilledAs target s p

pub partly_zeros : (target : List ℕ) → Partly target (zeros (length target))
partly_zeros target = record { long = length-replicate (length target) 0; right = λ p. inl (get_or_before_zeros [] (length target) p) }

-- once each place that is not to be 0 is filled
pub all_filled : (target s : List ℕ) → Partly target s → ((p : ℕ) → p < length target → (get_or target p 0 ≡ 0 → ⊥) → FilledAs target s p) → s ≡ target
all_filled target s partly filled =
    ext_get_or 0 s target partly.long
    (λ p within.
    elim (cases_eq (get_or target p 0) 0) [
      | inl none ↦ elim (partly.right p) [ inl e ↦ e ∙ sym none | inr e ↦ e ]
      | inr some ↦ filled p (omega (arith, partly.long)) some
    ])

module _ (target : List ℕ) where
  -- a store fills its place, and keeps those that are filled
  store_new : (s : List ℕ) (p a : ℕ) → Partly target s → p < length target → get_or target p 0 ≡ a → FilledAs target (set s p a) p
  store_new s p a partly within e = get_or-set_same s p a 0 (omega (arith, partly.long)) ∙ sym e

  -- what stands at a place after a store
  store_at : (s : List ℕ) (p a q : ℕ) → Partly target s → p < length target → get_or target p 0 ≡ a → FilledAs target (set s p a) q ⊎ (get_or (set s p a) q 0 ≡ get_or s q 0)
  store_at s p a q partly within e =
      elim (cases_eq q p) [
        | inl same ↦ inl (rw same (store_new s p a partly within e))
        | inr other ↦ inr (get_or-set_other s p q a 0 other)
      ]

  store_kept : (s : List ℕ) (p a q : ℕ) → Partly target s → p < length target → get_or target p 0 ≡ a → FilledAs target s q → FilledAs target (set s p a) q
  store_kept s p a q partly within e filled =
      elim (store_at s p a q partly within e) [ inl f ↦ f | inr f ↦ f ∙ filled ]

  store_partly : (s : List ℕ) (p a : ℕ) → Partly target s → p < length target → get_or target p 0 ≡ a → Partly target (set s p a)
  store_partly s p a partly within e =
      record {
        long = length-set s p a ∙ partly.long;
        right = λ q.
            elim (store_at s p a q partly within e) [
              | inl f ↦ inr f
              | inr f ↦
                  elim (partly.right q) [ inl none ↦ inl (f ∙ none) | inr filled ↦ inr (f ∙ filled) ]
            ];
      }

  -- a buffer after one store, or none: what was filled is kept, and the place of the store is filled
  pub record Stored (test : Bool) (place : ℕ) (before after : List ℕ) : Type 0 where
    pub partly : Partly target after
    pub kept : (q : ℕ) → FilledAs target before q → FilledAs target after q
    pub filled : test ≡ true → FilledAs target after place

  pub one_store :
      (test : Bool) (place code : ℕ) (s : List ℕ)
      → Partly target s
      → (test ≡ true → (place < length target) × (get_or target place 0 ≡ code))
      → Stored test place s (store_if test place code s)
  unfolding store_if
  one_store true place code s partly right =
      let to = right refl in
      record {
        partly = store_partly s place code partly to.0 to.1;
        kept = λ q f. store_kept s place code q partly to.0 to.1 f;
        filled = λ e. store_new s place code partly to.0 to.1;
      }
  one_store false place code s partly right =
      record { partly = partly; kept = λ q f. f; filled = λ e. absurd cc }
