-- The library's word for a test of every entry, and ours.
use Prim.Native.Nat.{ℕ}
use mathlib.Core.Path.{◌≡◌, refl, sym, ◌∙◌}
use mathlib.Core.Bool.{Bool, ◌&&◌, true, false, not}
use mathlib.Core.List.{List}
use Rattle.std.specs.List.{list_all}
use Rattle.std.proofs.lemmas.List.Recursion.{same_from_clauses}
use Rattle.common.specs.Lists.{all_of}
use borrow.Author.Tests.{not-true, not-false}

pub list_all_is : (f : ℕ → Bool) (l : List ℕ) → list_all f l ≡ all_of f l
unfolding all_of
list_all_is f = same_from_clauses (list_all f) (all_of f) (λ a b. f a && b) refl (λ _ _. refl) (λ _ _. refl)

-- what a test that was asked for says of its definition
pub held : {r x : Bool} → r ≡ x → not r ≡ false → x ≡ true
held {r} e h = sym e ∙ not-false r h

pub broken : {r x : Bool} → r ≡ x → not r ≡ true → x ≡ false
broken {r} e h = sym e ∙ not-true r h
