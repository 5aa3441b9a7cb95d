-- The reader's steps by the form of a line: what the definition does with the line due, told from the form that the reader holds.
use Prim.Native.Nat.{ℕ, zero, suc, ◌+◌, ◌≤◌, ◌<◌}
use mathlib.Core.Path.{◌≡◌, refl, sym, ap, ◌∙◌}
use mathlib.Core.Logic.{⊎_elim}
use mathlib.Core.Bool.{true, false}
use mathlib.Core.Option.{none}
use mathlib.Core.List.{List, ◌∷◌, ◌++◌}
use native.Mathlib.Omega.{arith}
use lib.ListN.{length, length-append}
use lib.Dec.{ltb, leb}
use borrow.Author.Tests.{le-ltb, ltb-true, leb-false, le-leb}
use Rattle.std.proofs.lemmas.Bool.{cases_Bool}
use Rattle.common.specs.Limits.{max_switches}
use Rattle.common.specs.Outcome.{Outcome, refused, ◌then◌, unless}
use Rattle.figures.specs.Line.{Lines, left, ◌⏎◌, lines_of}
use Rattle.figures.proofs.Line.{text_of, text_lines}
use Rattle.cells.specs.declared.Cell.{Cell}
use Rattle.cells.specs.declared.Cell.TheVariants.{Off, On, Yes, No}
use Rattle.cells.proofs.Sizes.{SizesInRange, in_range_lem}
use Rattle.forms.specs.declared.CellForm.{CellForm}
use Rattle.forms.specs.declared.Form.{Form}
use Rattle.forms.specs.declared.Form.TheVariants as form
use Rattle.forms.specs.Form.{Placed, switch_of}
use Rattle.forms.specs.Read.{capped_cell, placed_in, CellIs}
use Rattle.forms.specs.Due.{due}
use Rattle.forms.proofs.Told.{capped, cell_found, cell_not}
use Rattle.listings.specs.Loading.{Listed, switch_below, cell_fault, with_cell, load_outs, load_cells}
use Rattle.listings.specs.declared.sizes.ListingSizes.{ListingSizes}
use Rattle.listings.specs.Loader.{placed_by}
use Rattle.listings.proofs.Loaded.{cell_facts}

-- what follows matters only without a number
unless-same : {A : Type 0} (k n : ℕ) (o p : Outcome A) → (k ≡ 0 → o ≡ p) → unless k n o ≡ unless k n p
unfolding unless
unless-same zero n o p h = h refl
unless-same (suc k) n o p h = refl

-- a switch taken as a byte is below v just where it is, v being at most 64
switch_same : (x v : ℕ) → v ≤ max_switches → ltb (switch_of x) v ≡ ltb x v
unfolding switch_of max_switches
switch_same x v h =
    ⊎_elim (λ (e : leb x 255 ≡ true). rw (e, switch_of))
    (λ (e : leb x 255 ≡ false).
    let large = leb-false x 255 e in rw (e, switch_of, le-ltb 255 v (omega arith), le-ltb x v (omega arith)))
    (cases_Bool (leb x 255))

switch_exact : (x v : ℕ) → v ≤ max_switches → ltb (switch_of x) v ≡ true → switch_of x ≡ x
unfolding switch_of max_switches
switch_exact x v h below =
    let small = ltb-true x v (sym (switch_same x v h) ∙ below) in rw (le-leb x 255 (omega arith), switch_of)

capped_below : (v : ℕ) (x : Cell) → v ≤ max_switches → switch_below v (capped_cell x) ≡ switch_below v x
unfolding switch_below capped_cell
capped_below v Off h = refl
capped_below v On h = refl
capped_below v (Yes x) h = switch_same x v h
capped_below v (No x) h = switch_same x v h

capped_exact : (v : ℕ) (x : Cell) → v ≤ max_switches → switch_below v (capped_cell x) ≡ true → capped_cell x ≡ x
unfolding switch_below capped_cell
capped_exact v Off h b = refl
capped_exact v On h b = refl
capped_exact v (Yes x) h b = ap Yes (switch_exact x v h b)
capped_exact v (No x) h b = ap No (switch_exact x v h b)

capped_fault : (x : Listed) (p : Placed) → x.switches ≤ max_switches → cell_fault x (capped p) ≡ cell_fault x p
unfolding cell_fault capped
capped_fault x p h = rw (capped_below x.switches p.cell h)

capped_right : (x : Listed) (p : Placed) → x.switches ≤ max_switches → cell_fault x (capped p) ≡ 0 → capped p ≡ p
capped_right x p h f =
    let names = (cell_facts x (capped p) f).switch_in in
    unfold capped in ap (λ (c : Cell). record { row = p.row; column = p.column; cell = c }) (capped_exact x.switches p.cell h names)

missing_out : (k : ℕ) (x : Listed) (n : ℕ) (s : List ℕ) → 1 ≤ k → refused 1 n ≡ load_outs k x n (left s)
unfolding load_outs ◌then◌ due
missing_out zero x n s h = absurd (omega arith)
missing_out (suc k) x n s h = refl

-- a line read as a cell line
module _ {n : ℕ} {s rest : List ℕ} {g : Form} (is : CellIs n s g rest) where
  -- it is one
  module _ {f : CellForm} (e : g ≡ form.Cell f) where
    -- the line is in front of what is left
    pub cell_shorter : length rest < length s
    unfolding text_of
    cell_shorter =
        let d = cell_found is e in
        let k : s ≡ d.bytes ++ (10 ∷ rest) = sym (text_lines s) ∙ ap text_of d.lines ∙ ap (λ r. d.bytes ++ (10 ∷ r)) (text_lines rest) in
        omega (arith, simp length-append at (ap length k))

    pub cell_step :
        (x : Listed)
        → x.switches ≤ max_switches
        → load_cells x n (lines_of s) ≡ unless (cell_fault x (placed_by f)) n (load_cells (with_cell x (placed_by f)) (n + 1) (lines_of rest))
    unfolding load_cells
    cell_step x most =
        let d = cell_found is e in
        let same : capped d.place ≡ placed_by f = d.same in
        let k = cell_fault x (placed_by f) in
        let fault : cell_fault x d.place ≡ k = sym (capped_fault x d.place most) ∙ ap (cell_fault x) same in
        rw (d.lines, load_cells)
        (rw (d.placed, fault)
        (unless-same k n (load_cells (with_cell x d.place) (n + 1) (lines_of rest)) (load_cells (with_cell x (placed_by f)) (n + 1) (lines_of rest))
        (λ (z : k ≡ 0).
        let exact : capped d.place ≡ d.place = capped_right x d.place most (ap (cell_fault x) same ∙ z) in
        ap (λ (v : Placed). load_cells (with_cell x v) (n + 1) (lines_of rest)) (sym exact ∙ same))))

  -- it is none: the outputs begin
  pub other_step :
      (x : Listed)
      → ((f : CellForm) → g ≡ form.Cell f → ⊥)
      → 1 ≤ x.outputs
      → load_cells x n (lines_of s) ≡ load_outs x.outputs x n (lines_of s)
  unfolding load_cells placed_in
  other_step x other least = by (lines_of s) (cell_not is other)
    where
      by : (ls : Lines) → placed_in ls ≡ none → load_cells x n ls ≡ load_outs x.outputs x n ls
      by (left t) p = missing_out x.outputs x n t least
      by (l ⏎ ls) p = rw (p, load_cells)

-- the sizes of a listing, as plain facts
abbrev pub Ranged : ListingSizes → Type 0
Ranged s = SizesInRange s.form.rows s.form.columns s.form.switches s.form.outputs

pub ranged : (s : ListingSizes) → Ranged s
ranged s = in_range_lem s.form.rows s.form.columns s.form.switches s.form.outputs s.ranged
