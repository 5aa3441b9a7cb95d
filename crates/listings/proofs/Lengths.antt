-- How long a listing is: the text of a sound crossbar has at most 393,728 bytes.
use Prim.Native.Nat.{ℕ, suc, ◌+◌, ◌*◌, ◌/◌, ◌%◌, ◌≤◌, ◌<◌}
use mathlib.Core.Path.{◌≡◌}
use mathlib.Core.Logic.{⊎_elim}
use mathlib.Core.Bool.{true}
use mathlib.Core.List.{List, [], ◌∷◌}
use native.Mathlib.Omega.{arith}
use lib.ListN.{length, take, length-append, length-take}
use lib.Seq.{length-take-le}
use lib.Dec.{leb, ltb}
use borrow.Author.Tests.{leb-true, ltb-true}
use Rattle.std.proofs.lemmas.Bool.{cases_lt}
use Rattle.common.specs.Limits.{max_rows, max_columns, max_switches, max_outputs, max_text}
use Rattle.common.specs.Lists.{all_of}
use Rattle.common.proofs.Lists.{and_left, and_right}
use Rattle.figures.specs.Bytes.{bytes}
use Rattle.figures.specs.Figure.{decimal}
use Rattle.figures.proofs.Writing.{length_most, length_one, length_two, length_three}
use Rattle.cells.specs.declared.Cell.{Cell}
use Rattle.cells.specs.declared.Cell.TheVariants.{Off, On, Yes, No}
use Rattle.cells.specs.declared.Crossbar.{Crossbar}
use Rattle.cells.specs.Code.{code_of, cell_of}
use Rattle.cells.specs.Record.{codes_low, size, sound}
use Rattle.cells.proofs.Codes.{cell_code}
use Rattle.cells.proofs.Sizes.{sound_facts}
use Rattle.forms.specs.Template.{written, line}
use Rattle.forms.specs.Forms.{end_form, crossbar_form, on_form, yes_form, no_form, out_form, out_lines}
use Rattle.listings.specs.Listing.{cell_line, cell_lines, listing}
use Rattle.listings.proofs.Printed.{placing}

-- the digits of a figure
module _ (n : ℕ) where
  pub two_most : n < 100 → length (decimal n) ≤ 2
  two_most h =
      ⊎_elim
      (λ (k : n < 10). omega (arith, length_one n k))
      (λ (k : 10 ≤ n). omega (arith, length_two n k h))
      (cases_lt n 10)

  pub three_most : n < 1000 → length (decimal n) ≤ 3
  three_most h =
      ⊎_elim
      (λ (k : n < 100). omega (arith, two_most k))
      (λ (k : 100 ≤ n). omega (arith, length_three n k h))
      (cases_lt n 100)

-- the bytes of each line
pub end_most : length (line end_form []) ≤ 6
unfolding line written end_form bytes
end_most = omega arith

crossbar_most : (r c v k : ℕ) → length (line crossbar_form (r ∷ c ∷ v ∷ k ∷ [])) ≤ 35
unfolding line written crossbar_form bytes
crossbar_most r c v k = simp length-append (omega (arith, length_most r, length_most c, length_most v, length_most k))

out_most : (j r : ℕ) → j < 100 → r < 1000 → length (line out_form (j ∷ r ∷ [])) ≤ 13
unfolding line written out_form bytes
out_most j r h k = simp length-append (omega (arith, two_most j h, three_most r k))

cell_most : (r c : ℕ) (x : Cell) → r < 1000 → c < 1000 → code_of x < 200 → length (cell_line r c x) ≤ 24
unfolding cell_line line written on_form yes_form no_form bytes code_of
cell_most r c Off h k l = omega arith
cell_most r c On h k l = simp length-append (omega (arith, three_most r h, three_most c k))
cell_most r c (Yes x) h k l =
    let small : x < 100 = omega arith in
    simp length-append (omega (arith, three_most r h, three_most c k, two_most x small))
cell_most r c (No x) h k l =
    let small : x < 100 = omega arith in
    simp length-append (omega (arith, three_most r h, three_most c k, two_most x small))

-- the lines of the cells from place p on, of m rows and n columns
cells_most :
    (m n v p : ℕ) (codes : List ℕ)
    → m < 1000
    → n < 1000
    → v ≤ max_switches
    → p + length codes ≤ m * n
    → codes_low v codes ≡ true
    → length (cell_lines n p codes) ≤ 24 * length codes
unfolding cell_lines all_of max_switches
cells_most m n v p [] hm hn hv h a = omega arith
cells_most m n v p (k ∷ codes) hm hn hv h a =
    let low : k ≤ 1 + 2 * v = leb-true k (1 + 2 * v) (and_left (leb k (1 + 2 * v)) (codes_low v codes) a) in
    let at = placing m n p (omega arith) in
    let code : code_of (cell_of k) < 200 = rw (cell_code k) (omega arith) in
    let row : p / n < 1000 = omega (arith, at.row_in) in
    let column : p % n < 1000 = omega (arith, at.column_in) in
    let first = cell_most (p / n) (p % n) (cell_of k) row column code in
    let others = cells_most m n v (suc p) codes hm hn hv (omega arith) (and_right (leb k (1 + 2 * v)) (codes_low v codes) a) in
    simp length-append (omega arith)

-- the lines of the outputs from output j on
outs_most :
    (m j : ℕ) (outs : List ℕ)
    → m < 1000
    → j + length outs ≤ max_outputs
    → all_of (λ r. ltb r m) outs ≡ true
    → length (out_lines j outs) ≤ 13 * length outs
unfolding out_lines all_of max_outputs
outs_most m j [] hm h a = omega arith
outs_most m j (r ∷ outs) hm h a =
    let below : r < m = ltb-true r m (and_left (ltb r m) (all_of (λ r. ltb r m) outs) a) in
    let first = out_most j r (omega arith) (omega arith) in
    let others = outs_most m (suc j) outs hm (omega arith) (and_right (ltb r m) (all_of (λ r. ltb r m) outs) a) in
    simp length-append (omega arith)

-- the text of a sound crossbar
pub listing_most : (x : Crossbar) (codes : List ℕ) → sound x codes ≡ true → length (listing x codes) ≤ max_text
unfolding listing size max_text max_rows max_columns max_outputs
listing_most x codes h =
    let f = sound_facts x codes h in
    let rows : x.rows ≤ 128 = f.sizes.rows_most in
    let columns : x.columns ≤ 128 = f.sizes.columns_most in
    let outputs : x.outputs ≤ 32 = f.sizes.outputs_most in
    let cells : x.rows * x.columns ≤ 128 * 128 = f.sizes.cells_most in
    let full : length (take (x.rows * x.columns) codes) ≡ x.rows * x.columns = length-take-le (x.rows * x.columns) codes f.enough in
    let few : length (take x.outputs x.outs) ≤ x.outputs = simp length-take (omega arith) in
    let head = crossbar_most x.rows x.columns x.switches x.outputs in
    let body =
    cells_most x.rows x.columns x.switches 0 (take (x.rows * x.columns) codes) (omega arith) (omega arith)
    f.sizes.switches_most
    (omega arith)
    f.codes_low_lem
    in
    let tail = outs_most x.rows 0 (take x.outputs x.outs) (omega arith) (omega arith) f.rows_low in
    simp length-append (omega (arith, end_most))
