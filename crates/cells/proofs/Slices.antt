-- A crossbar in a slice longer than its cells: zeros past the R-as-C codes change nothing of ground 12.
use Prim.Native.Nat.{ℕ, ◌≤◌}
use mathlib.Core.Path.{◌≡◌, refl}
use mathlib.Core.Bool.{Bool, true}
use mathlib.Core.List.{List, [], ◌∷◌, ◌++◌}
use native.Mathlib.Omega.{arith}
use lib.ListN.{length, length-append, drop}
use lib.Dec.{eqb, leb}
use lib.Seq.{take-append-le, drop-append-le}
use borrow.Author.Tests.{le-leb}
use Rattle.common.specs.Lists.{zeros, all_of}
use Rattle.common.proofs.Lists.{all_of_zeros}
use Rattle.cells.specs.declared.Crossbar.{Crossbar}
use Rattle.cells.specs.Record.{size, sound}

-- what holds of 0 holds of a list with zeros after it just where it holds of the list
all_of_more : (f : ℕ → Bool) (s : List ℕ) (n : ℕ) → f 0 ≡ true → all_of f (s ++ zeros n) ≡ all_of f s
unfolding all_of
all_of_more f [] n h = all_of_zeros f n h
all_of_more f (a ∷ s) n h = rw (all_of_more f s n h)

module _ (x : Crossbar) (cells : List ℕ) (n : ℕ) (h : size x ≤ length cells) where
  pub sound-zeros : sound x (cells ++ zeros n) ≡ sound x cells
  unfolding sound
  sound-zeros =
      let more : leb (size x) (length (cells ++ zeros n)) ≡ true = le-leb (size x) (length (cells ++ zeros n)) (rw length-append (omega arith)) in
      let most : leb (size x) (length cells) ≡ true = le-leb (size x) (length cells) h in
      rw (more, most, take-append-le (size x) cells (zeros n) h, drop-append-le (size x) cells (zeros n) h, all_of_more (λ b. eqb b 0) (drop (size x) cells) n refl)
