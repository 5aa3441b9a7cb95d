-- How outcomes end: what is done is as some predicate says, a refusal has one of the numbers 1 to 15, and its line has a bound.
use Prim.Native.Nat.{ℕ, zero, suc, ◌+◌, ◌*◌, ◌≤◌}
use mathlib.Core.Path.{◌≡◌, refl}
use mathlib.Core.Bool.{Bool, true, false, ◌&&◌}
use mathlib.Core.List.{List, [], ◌∷◌}
use native.Mathlib.Omega.{arith}
use lib.Dec.{leb}
use borrow.Author.Tests.{leb-true}
use Rattle.common.specs.Limits.{max_rows, max_columns, max_nodes, max_outputs}
use Rattle.common.specs.Outcome.{Outcome, done, refused, ◌then◌, Ground, ◌when◌, lowest, most_number, unless, number_of}
use Rattle.common.proofs.Lists.{and_left, and_right}

-- what is done is as P says; a refusal has one of the numbers 1 to 15, and its line is at most b
pub data EndsWithin {A : Type 0} (P : A → Type 0) (b : ℕ) : Outcome A → Type 0 where
  ends_done : {a : A} → P a → EndsWithin P b (done a)
  ends_refused : {k n : ℕ} → 1 ≤ k → k ≤ most_number → n ≤ b → EndsWithin P b (refused k n)

-- a line above the last one that a job or a listing can have: a listing has no more cell lines than cells
unfoldable pub most_line : ℕ
most_line = max_rows * max_columns + max_nodes + max_outputs + 4

-- no refusal has number 0, so an outcome with number 0 is done
pub zero_done : {A : Type 0} {P : A → Type 0} {b : ℕ} (o : Outcome A) → EndsWithin P b o → number_of o ≡ 0 → (a : A) × (o ≡ done a) × P a
unfolding number_of
zero_done (done a) (ends_done p) e = (a, refl, p)
zero_done (refused k l) (ends_refused low high n) e = absurd (omega arith)

-- steps in turn
pub then_ends :
    {A B : Type 0} {P : A → Type 0} {Q : B → Type 0} {b : ℕ} (o : Outcome A) (f : A → Outcome B)
    → EndsWithin P b o
    → ((a : A) → P a → EndsWithin Q b (f a))
    → EndsWithin Q b (o then f)
unfolding ◌then◌
then_ends (done a) f (ends_done p) h = h a p
then_ends (refused k n) f (ends_refused low high l) h = ends_refused low high l

-- whether every number of some grounds is at most 15
unfoldable pub within : List Ground → Bool
within [] = true
within ((k when met) ∷ gs) = leb k most_number && within gs

lowest_within : (gs : List Ground) → within gs ≡ true → lowest gs ≤ most_number
unfolding lowest within
lowest_within [] h = omega arith
lowest_within ((k when true) ∷ gs) h = leb-true k most_number (and_left (leb k most_number) (within gs) h)
lowest_within ((k when false) ∷ gs) h = lowest_within gs (and_right (leb k most_number) (within gs) h)

pub unless_ends :
    {A : Type 0} {P : A → Type 0} {b : ℕ} (gs : List Ground) (n : ℕ) (rest : Outcome A)
    → within gs ≡ true
    → n ≤ b
    → (lowest gs ≡ 0 → EndsWithin P b rest)
    → EndsWithin P b (unless (lowest gs) n rest)
unfolding unless
unless_ends {A} {P} {b} gs n rest numbers l h = by_number (lowest gs) (lowest_within gs numbers) h
  where
    by_number : (k : ℕ) → k ≤ most_number → (k ≡ 0 → EndsWithin P b rest) → EndsWithin P b (unless k n rest)
    by_number zero most h = h refl
    by_number (suc k) most h = let low : 1 ≤ suc k = omega arith in ends_refused low most l

-- ground 1
pub not_the_form : {A : Type 0} {P : A → Type 0} {b n : ℕ} → n ≤ b → EndsWithin {A = A} P b (refused 1 n)
unfolding most_number
not_the_form {n} l = ends_refused {k = 1} {n = n} (omega arith) (omega arith) l
