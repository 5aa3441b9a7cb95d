-- Whether bytes are left of a text.
use Prim.Native.Nat.{ℕ, ◌<◌, ◌≤◌}
use mathlib.Core.Path.{◌≡◌, refl, ◌∙◌}
use mathlib.Core.Bool.{true, not, false}
use mathlib.Core.Logic.{inl, inr}
use mathlib.Core.List.{List, [], ◌∷◌}
use lib.ListN.{length, drop, length-drop}
use lib.Dec.{eqb, eqb-suc-zero}
use Rattle.std.proofs.lemmas.Bool.{cases_Bool}
use Rattle.figures.specs.Line.{Lines, left, ◌⏎◌, onto, lines_of, follows}
use Rattle.figures.proofs.Line.{lines_feed, lines_byte}
use borrow.Author.Tests.{eq-eqb, ne_eqb}
use native.Mathlib.Omega.{arith}

follows-onto : (b : ℕ) (ls : Lines) → follows (onto b ls) ≡ true
unfolding onto follows
follows-onto b (left s) = refl
follows-onto b (l ⏎ ls) = refl

follows_byte : (b : ℕ) (s : List ℕ) → follows (lines_of (b ∷ s)) ≡ true
unfolding follows
follows_byte b s =
    elim (cases_Bool (eqb b 10)) [ inl e ↦ rw (lines_feed b s e) | inr e ↦ rw (lines_byte b s e) (follows-onto b (lines_of s)) ]

-- bytes are left just where the text is not empty
pub follows_is : (s : List ℕ) → follows (lines_of s) ≡ not (eqb (length s) 0)
unfolding lines_of follows
follows_is [] = refl
follows_is (b ∷ s) = rw (eqb-suc-zero (length s)) (follows_byte b s)

-- so bytes are left just where a position lies within the text
pub follows_yes : (s : List ℕ) (at : ℕ) → at < length s → follows (lines_of (drop at s)) ≡ true
follows_yes s at h = follows_is (drop at s) ∙ rw (ne_eqb (length (drop at s)) 0 (λ e. omega (arith, length-drop at s)))

pub follows_no : (s : List ℕ) (at : ℕ) → length s ≤ at → follows (lines_of (drop at s)) ≡ false
follows_no s at h = follows_is (drop at s) ∙ rw (eq-eqb (length (drop at s)) 0 (omega (arith, length-drop at s)))
