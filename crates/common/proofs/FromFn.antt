-- An array made by a closure that answers a value for each place.
use Prim.Native.Nat.{ℕ, zero, suc, ◌+◌, ◌≤◌, ◌<◌}
use mathlib.Core.Path.{◌≡◌, sym, ◌∙◌}
use mathlib.Core.Logic.{⊎_elim}
use mathlib.Core.List.{List}
use native.Mathlib.Omega.{arith}
use lib.ListN.{get_or}
use lib.Seq.{ext_get_or}
use Rattle.std.specs.Fn.{Mut, Called}
use Rattle.std.specs.Array.{IsFromFnResult, IsFromFnResultFrom}
use Rattle.std.proofs.lemmas.Bool.{cases_eq}
use Rattle.common.specs.Lists.{tab}
use Rattle.common.proofs.Lists.{length-tab, get_or-tab}

-- where each call of f answers h at its place and leaves f as it is, the array is the table of h
module _ {F A : Type 0} (d : A) (g : Mut F (ℕ × Unit {0}) A) (h : ℕ → A) (f : F) (answers : (q : F) (i : ℕ) (y : A) → Called g f (i, tt) y q → (y ≡ h i) × (q ≡ f)) where
  made_at : (ys : List A) (i n j : ℕ) → IsFromFnResultFrom g f ys i n → i ≤ j → j < i + n → get_or ys j d ≡ h j
  made_at ys i zero j made from below = absurd (omega arith)
  made_at ys i (suc n) j made from below =
      let step = answers made.0 i made.1 made.3 in
      let others : IsFromFnResultFrom g f ys (i + 1) n = rw step.1 at made.4 in
      ⊎_elim
      (λ (first : i ≡ j). let e : get_or ys i d ≡ made.1 = made.2.1 d in rw first at (e ∙ step.0))
      (λ (later : i ≡ j → ⊥). made_at ys (i + 1) n j others (omega arith) (omega arith))
      (cases_eq i j)

  pub made_tab : (ys : List A) (n : ℕ) → IsFromFnResult g f ys n → ys ≡ tab n h
  made_tab ys n made =
      ext_get_or d ys (tab n h) (made.long ∙ sym (length-tab n h))
      (λ i below. made_at ys 0 n i made.each (omega arith) (omega (arith, made.long)) ∙ sym (get_or-tab n h i d (omega (arith, made.long))))
