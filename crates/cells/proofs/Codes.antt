-- Codes and cells: the cell of a code by cases, that each code has one cell and each cell one code, and when the cell of a code conducts.
use Prim.Native.Nat.{ℕ, ◌+◌, ◌-◌, ◌*◌, ◌/◌, ◌%◌, ◌≤◌, ◌<◌}
use mathlib.Core.Path.{◌≡◌, refl, ap, ◌∙◌}
use mathlib.Core.Logic.{⊎_elim}
use native.Mathlib.Omega.{arith}
use native.Mathlib.Nat.{pos_of_ne-zero}
use borrow.Author.Tests.{eq-eqb, ne_eqb}
use Rattle.std.proofs.lemmas.Bool.{cases_eq}
use Rattle.cells.specs.declared.Cell.{Cell}
use Rattle.cells.specs.declared.Cell.TheVariants.{Off, On, Yes, No}
use Rattle.cells.specs.Code.{code_of, cell_of}
use lib.Dec.{eqb}
use lib.ListN.{get_or}
use mathlib.Core.List.{List}
use Rattle.cells.specs.Conducts.{conducts}

pub cell_off : (k : ℕ) → k ≡ 0 → cell_of k ≡ Off
unfolding cell_of
cell_off k h = rw (eq-eqb k 0 h, cell_of)

pub cell_on : (k : ℕ) → k ≡ 1 → cell_of k ≡ On
unfolding cell_of
cell_on k h = rw (ne_eqb k 0 (λ (e : k ≡ 0). omega arith), eq-eqb k 1 h, cell_of)

pub cell_yes : (k : ℕ) → (k ≡ 0 → ⊥) → k % 2 ≡ 0 → cell_of k ≡ Yes ((k - 2) / 2)
unfolding cell_of
cell_yes k h e = rw (ne_eqb k 0 h, ne_eqb k 1 (λ (f : k ≡ 1). omega arith), eq-eqb (k % 2) 0 e, cell_of)

pub cell_no : (k : ℕ) → (k ≡ 1 → ⊥) → (k % 2 ≡ 0 → ⊥) → cell_of k ≡ No ((k - 3) / 2)
unfolding cell_of
cell_no k h e = rw (ne_eqb k 0 (λ (f : k ≡ 0). e (omega arith)), ne_eqb k 1 h, ne_eqb (k % 2) 0 e, cell_of)

pub code_cell : (c : Cell) → cell_of (code_of c) ≡ c
unfolding code_of
code_cell Off = cell_off 0 refl
code_cell On = cell_on 1 refl
code_cell (Yes x) = cell_yes (2 + 2 * x) (λ (e : 2 + 2 * x ≡ 0). omega arith) (omega arith) ∙ ap Yes (omega arith)
code_cell (No x) = cell_no (3 + 2 * x) (λ (e : 3 + 2 * x ≡ 1). omega arith) (λ (e : (3 + 2 * x) % 2 ≡ 0). omega arith) ∙ ap No (omega arith)

pub cell_code : (k : ℕ) → code_of (cell_of k) ≡ k
unfolding code_of
cell_code k =
    ⊎_elim (λ (h : k ≡ 0). ap code_of (cell_off k h) ∙ omega arith)
    (λ (h : k ≡ 0 → ⊥).
    ⊎_elim (λ (h1 : k ≡ 1). ap code_of (cell_on k h1) ∙ omega arith)
    (λ (h1 : k ≡ 1 → ⊥).
    ⊎_elim (λ (e : k % 2 ≡ 0). ap code_of (cell_yes k h e) ∙ omega arith)
    (λ (e : k % 2 ≡ 0 → ⊥). ap code_of (cell_no k h1 e) ∙ omega arith)
    (cases_eq (k % 2) 0))
    (cases_eq k 1))
    (cases_eq k 0)

-- when the cell of a code conducts: a code below 2 where it is that of on, and a code of switch k / 2 − 1 by that switch's value
module _ (setting : List ℕ) (k : ℕ) where
  pub conducts_constant : k < 2 → eqb k 1 ≡ conducts setting (cell_of k)
  unfolding conducts
  conducts_constant h =
      ⊎_elim
      (λ (e : k ≡ 0). rw (cell_off k e) (ne_eqb k 1 (λ (z : k ≡ 1). omega arith)))
      (λ (e : k ≡ 0 → ⊥). let one : k ≡ 1 = omega (arith, pos_of_ne-zero e) in rw (cell_on k one) (eq-eqb k 1 one))
      (cases_eq k 0)

  pub conducts_even : (x : ℕ) → 2 ≤ k → x ≡ get_or setting (k / 2 - 1) 0 → k % 2 ≡ 0 → eqb x 1 ≡ conducts setting (cell_of k)
  unfolding conducts
  conducts_even x h e even =
      let at : (k - 2) / 2 ≡ k / 2 - 1 = omega arith in
      rw (cell_yes k (λ (z : k ≡ 0). omega arith) even, at, e)

  pub conducts_odd : (x : ℕ) → 2 ≤ k → x ≡ get_or setting (k / 2 - 1) 0 → (k % 2 ≡ 0 → ⊥) → eqb x 0 ≡ conducts setting (cell_of k)
  unfolding conducts
  conducts_odd x h e odd =
      let one : k % 2 ≡ 1 = ⊎_elim (λ (z : k % 2 ≡ 0). absurd (odd z)) (λ z. omega arith) (cases_eq (k % 2) 0) in
      let at : (k - 3) / 2 ≡ k / 2 - 1 = omega arith in
      rw (cell_no k (λ (z : k ≡ 1). omega arith) odd, at, e)
