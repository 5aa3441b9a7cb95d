-- Words at the front of a text, and what follows them.
use Prim.Native.Nat.{ℕ, ◌+◌}
use mathlib.Core.Path.{◌≡◌, refl, sym, ap, ◌∙◌}
use mathlib.Core.Bool.{true, false}
use mathlib.Core.Option.{Option, some, none}
use mathlib.Core.Logic.{inl, inr}
use mathlib.Core.List.{List, [], ◌∷◌, ◌++◌}
use lib.ListN.{length, take, drop}
use lib.Dec.{eqb}
use borrow.Author.Tests.{eqb-true, eq-eqb}
use Rattle.std.specs.Prelude.{Some, None, MatchOption}
use Rattle.std.specs.Cmp.Lexicographic.{pointwise}
use Rattle.std.specs.Prelude as Option
use Rattle.std.specs.Borrow.{Bor}
use Rattle.std.proofs.lemmas.Slice.Eq.{strip_prefix_is}
use Rattle.std.proofs.lemmas.Bool.Decides.{Decides-eqb}
use Rattle.std.proofs.lemmas.Bool.{cases_Bool}
use Rattle.figures.specs.Bytes.{after}
use Rattle.figures.specs.Reading.{Given}

-- the two cases of a word's first byte
pub after_same : (a b : ℕ) (w s : List ℕ) → eqb a b ≡ true → after (a ∷ w) (b ∷ s) ≡ after w s
unfolding after
after_same a b w s e = rw (e, after)

pub after_other : (a b : ℕ) (w s : List ℕ) → eqb a b ≡ false → after (a ∷ w) (b ∷ s) ≡ none
unfolding after
after_other a b w s e = rw (e, after)

-- a word is taken from the front of a text just where it stands there, and what follows it is the rest
pub after_front : (w s : List ℕ) → after w (w ++ s) ≡ some s
after_front [] s = unfold after in refl
after_front (a ∷ w) s = after_same a a w (w ++ s) (eq-eqb a a refl) ∙ after_front w s

pub after_taken : (w s r : List ℕ) → after w s ≡ some r → s ≡ w ++ r
after_taken [] s r h = unfold after in cc
after_taken (a ∷ w) [] r h = unfold after in absurd cc
after_taken (a ∷ w) (b ∷ s) r h =
    elim (cases_Bool (eqb a b)) [
      | inl e ↦
          let p = after_taken w s r (sym (after_same a b w s e) ∙ h) in
          let q = eqb-true a b e in
          cc
      | inr e ↦
          let g = after_other a b w s e in
          absurd cc
    ]

-- a text that does not begin with a word
pub after_absent : (w s : List ℕ) → ((r : List ℕ) → s ≡ w ++ r → ⊥) → after w s ≡ none
after_absent w s h = by (after w s) refl
  where
    by : (o : Option (List ℕ)) → after w s ≡ o → after w s ≡ none
    by none e = e
    by (some r) e = absurd (h r (after_taken w s r e))

-- what the library hands over for a prefix is what follows the word
pub after_given :
    (w s : List ℕ) (r : Option.Option (Bor (List ℕ)))
    → MatchOption r (pointwise eqb (take (length w) s) w ≡ false)
    (λ x. (pointwise eqb (take (length w) s) w ≡ true) × (x.now ≡ drop (length w) s) × (length x.now + length w ≡ length s))
    → Given (after w s) (λ x. x.now) r
after_given w s r h = by r (strip_prefix_is Decides-eqb s w r h)
  where
    by : (o : Option.Option (Bor (List ℕ))) → MatchOption o ((rest : List ℕ) → s ≡ w ++ rest → ⊥) (λ x. s ≡ w ++ x.now) → Given (after w s) (λ x. x.now) o
    by None k = after_absent w s k
    by (Some x) k = ap (after w) k ∙ after_front w x.now
