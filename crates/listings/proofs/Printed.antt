-- A printed text is loaded: each line of a listing is taken as the form due, with the values that were printed.
use Prim.Native.Nat.{ℕ, zero, suc, ◌+◌, ◌-◌, ◌*◌, ◌/◌, ◌%◌, ◌≤◌, ◌<◌}
use mathlib.Core.Path.{◌≡◌, refl, sym, ap, ◌∙◌}
use mathlib.Core.Logic.{⊎_elim}
use mathlib.Core.Bool.{true}
use mathlib.Core.Option.{some}
use mathlib.Core.List.{List, [], ◌∷◌, ◌++◌, append_assoc, append-nil}
use native.Mathlib.Omega.{arith}
use native.Mathlib.Nat.{mod-lt, div-add-mod', div-lt_iff_lt-mul, mul-zero}
use lib.ListN.{length, length-append, take, drop, length-drop, take-append-drop}
use lib.Dec.{eqb, leb, ltb}
use lib.Seq.{length-take-le}
use borrow.Author.Tests.{ltb-true, le-ltb, leb-true, eqb-true}
use Rattle.common.specs.Lists.{zeros, padded, all_of}
use Rattle.common.specs.Limits.{max_rows, max_columns, max_switches, max_outputs}
use Rattle.common.specs.Outcome.{done, lowest}
use Rattle.common.proofs.Lists.{and_left, and_right, length-padded, padded_more, padded_full}
use Rattle.common.proofs.Outcome.{then_is, unless_none}
use Rattle.figures.specs.Line.{Lines, ◌⏎◌, lines_of, follows}
use Rattle.cells.specs.declared.Cell.TheVariants.{Off}
use Rattle.cells.specs.Code.{cell_of, code_of}
use Rattle.cells.specs.Record.{codes_low, in_range, size, sound}
use Rattle.cells.specs.declared.Crossbar.{Crossbar}
use Rattle.cells.proofs.Codes.{cell_code}
use Rattle.cells.proofs.Sizes.{SizesInRange, in_range_lem, Sound, sound_facts}
use Rattle.forms.specs.Template.{written, line}
use Rattle.forms.specs.Forms.{out_form, crossbar_form, end_form, out_lines}
use Rattle.forms.specs.Due.{due}
use Rattle.forms.proofs.Template.{due-written, out_apart, out_fits, end_apart, end_fits, crossbar_apart, crossbar_fits}
use Rattle.listings.specs.Listing.{cell_line, cell_lines, listing}
use Rattle.forms.specs.Form.{Placed, placed}
use Rattle.listings.specs.Loading.{switch_below, Listed, cell_fault, with_cell, with_out_row, load_end, load_outs, load_cells, sized, size_fault, load_from, record_of, cells_of, load}
use Rattle.listings.proofs.Faults.{cell_named, stand_in}
use Rattle.listings.proofs.Cells.{out_not_placed, line_first, Read, cell_read_lem, code_below}

-- every limit of a listing has a figure
pub limits_fit : (max_rows < 100000) × (max_columns < 100000) × (max_switches < 100000) × (max_outputs < 100000)
unfolding max_rows max_columns max_switches max_outputs
limits_fit = (omega arith, omega arith, omega arith, omega arith)

-- a listing so far
abbrev pub so_far : (r c v k : ℕ) (codes outs : List ℕ) → Listed
so_far r c v k codes outs = record { rows = r; columns = c; switches = v; outputs = k; codes = codes; outs = outs }

-- the last line
end_read : (x : Listed) (n : ℕ) → load_end x n (lines_of (line end_form [])) ≡ done x
unfolding load_end lines_of follows lowest
end_read x n =
    then_is (due end_form n (lines_of (line end_form []))) (record { vals = []; later = lines_of [] }) _
    (rw append-nil at (due-written end_form [] n [] end_apart end_fits))
    ∙ unless_none _ _ (done x) refl

-- the lines of the outputs and the last line
pub outs_read :
    (r c v k : ℕ) (codes : List ℕ)
    → SizesInRange r c v k
    → (rs outs : List ℕ) (n : ℕ)
    → length outs + length rs ≤ k
    → all_of (λ q. ltb q r) rs ≡ true
    → load_outs (length rs) (so_far r c v k codes outs) n (lines_of (out_lines (length outs) rs ++ line end_form []))
    ≡ done (so_far r c v k codes (outs ++ rs))
unfolding load_outs out_lines all_of with_out_row
outs_read r c v k codes z [] outs n room rows = rw (append-nil outs) (end_read (so_far r c v k codes outs) n)
outs_read r c v k codes z (q ∷ rs) outs n room rows =
    let below : q < r = ltb-true q r (and_left (ltb q r) (all_of (λ q. ltb q r) rs) rows) in
    let others = and_right (ltb q r) (all_of (λ q. ltb q r) rs) rows in
    let longer : length (outs ++ (q ∷ [])) ≡ suc (length outs) = simp length-append (omega arith) in
    let moved : (outs ++ (q ∷ [])) ++ rs ≡ outs ++ (q ∷ rs) = append_assoc outs (q ∷ []) rs in
    let fits = out_fits (length outs) q (omega (arith, limits_fit)) (omega (arith, limits_fit)) in
    rw (append_assoc (line out_form (length outs ∷ q ∷ [])) (out_lines (suc (length outs)) rs) (line end_form []))
    (then_is _ _ _ (due-written out_form (length outs ∷ q ∷ []) n (out_lines (suc (length outs)) rs ++ line end_form []) out_apart fits)
    ∙ unless_none _ n _ (stand_in (so_far r c v k codes outs) (length outs) q refl below)
    ∙ (rw (longer, moved) at (outs_read r c v k codes z rs (outs ++ (q ∷ [])) (n + 1) (rw longer (omega arith)) others)))

-- the same after cell lines: the first line of an output is no cell line
pub stands_read :
    (r c v k : ℕ) (codes : List ℕ)
    → SizesInRange r c v k
    → (rs : List ℕ) (n : ℕ)
    → length rs ≡ k
    → all_of (λ q. ltb q r) rs ≡ true
    → load_cells (so_far r c v k codes []) n (lines_of (out_lines 0 rs ++ line end_form [])) ≡ done (so_far r c v k codes rs)
unfolding load_cells out_lines all_of
stands_read r c v k codes z [] n e rows = absurd (omega arith)
stands_read r c v k codes z (q ∷ rs) n e rows =
    let below : q < r = ltb-true q r (and_left (ltb q r) (all_of (λ q. ltb q r) rs) rows) in
    let fits = out_fits 0 q (omega (arith, limits_fit)) (omega (arith, limits_fit)) in
    let first = line_first out_form (0 ∷ q ∷ []) (out_lines 1 rs ++ line end_form []) out_apart fits in
    let loaded = outs_read r c v k codes z (q ∷ rs) [] n (omega arith) rows in
    let first' :
    lines_of (out_lines 0 (q ∷ rs) ++ line end_form [])
    ≡ written out_form (0 ∷ q ∷ []) ⏎ lines_of (out_lines 1 rs ++ line end_form []) =
    rw (append_assoc (line out_form (0 ∷ q ∷ [])) (out_lines 1 rs) (line end_form [])) first in
    rw (first', load_cells) (rw (out_not_placed 0 q) (rw (first', e) at loaded))

-- the row and the column of a place in a crossbar
pub record Placing (r c p : ℕ) : Type 0 where
  pub row_in : p / c < r
  pub column_in : p % c < c
  pub place_is : p / c * c + p % c ≡ p

pub placing : (r c p : ℕ) → p < r * c → Placing r c p
placing r zero p h = absurd (let e : r * 0 ≡ 0 = mul-zero r in omega arith)
placing r (suc c) p h =
    let positive : 0 < suc c = omega arith in
    record {
      row_in = (div-lt_iff_lt-mul {k = suc c} {x = p} {y = r} positive).1 h;
      column_in = mod-lt p positive;
      place_is = div-add-mod' p (suc c);
    }

-- a cell line taken
cell_step :
    (x : Listed) (n : ℕ) (l : List ℕ) (ls : Lines) (p : Placed)
    → placed l ≡ some p
    → cell_fault x p ≡ 0
    → load_cells x n (l ⏎ ls) ≡ load_cells (with_cell x p) (n + 1) ls
unfolding load_cells
cell_step x n l ls p e f = rw (e, load_cells) (unless_none (cell_fault x p) n (load_cells (with_cell x p) (n + 1) ls) f)

-- the cell of code q at place p
with_code :
    (r c v k p q : ℕ) (codes : List ℕ)
    → p / c * c + p % c ≡ p
    → with_cell (so_far r c v k codes []) (record { row = p / c; column = p % c; cell = cell_of q })
    ≡ so_far r c v k (padded p codes ++ (q ∷ [])) []
unfolding with_cell
with_code r c v k p q codes e = rw (e, cell_code q)

code_off : (q : ℕ) → cell_of q ≡ Off → 0 ≡ q
unfolding code_of
code_off q e = ap code_of (sym e) ∙ cell_code q

-- the codes that the lines of cells name are padded to those that were printed
pub cells_read :
    (r c v k : ℕ)
    → SizesInRange r c v k
    → (s rs : List ℕ)
    → ((codes : List ℕ) (n : ℕ) → load_cells (so_far r c v k codes []) n (lines_of s) ≡ done (so_far r c v k codes rs))
    → (ks codes : List ℕ) (p n : ℕ)
    → length codes ≤ p
    → p + length ks ≡ r * c
    → codes_low v ks ≡ true
    → (more : List ℕ)
    × (padded (r * c) more ≡ padded p codes ++ ks)
    × (load_cells (so_far r c v k codes []) n (lines_of (cell_lines c p ks ++ s)) ≡ done (so_far r c v k more rs))
unfolding cell_lines all_of cell_line lowest
cells_read r c v k z s rs rest [] codes p n short e small =
    let e' : p ≡ r * c = omega arith in
    (codes, rw (append-nil, e'), rest codes n)
cells_read r c v k z s rs rest (q ∷ ks) codes p n short e small =
    let low : q ≤ 1 + 2 * v = leb-true q (1 + 2 * v) (and_left (leb q (1 + 2 * v)) _ small) in
    let others = and_right (leb q (1 + 2 * v)) (codes_low v ks) small in
    let w = placing r c p (omega arith) in
    let e' : suc p + length ks ≡ r * c = omega arith in
    let names : switch_below v (cell_of q) ≡ true = code_below v (cell_of q) (rw (cell_code q) low) in
    let split = append_assoc (cell_line (p / c) (p % c) (cell_of q)) (cell_lines c (suc p) ks) s in
    ⊎_elim
    (λ (off : cell_of q ≡ Off).
    let later = cells_read r c v k z s rs rest ks codes (suc p) n (omega arith) e' others in (
      later.0,
      later.1
          ∙ ap (λ (l : List ℕ). l ++ ks) (padded_more p codes short)
          ∙ append_assoc (padded p codes) (0 ∷ []) ks
          ∙ ap (λ (a : ℕ). padded p codes ++ (a ∷ ks)) (code_off q off),
      rw off later.2,
    ))
    (λ (d : Read (p / c) (p % c) (cell_of q) (cell_lines c (suc p) ks ++ s)).
    let full : length (padded p codes ++ (q ∷ [])) ≡ suc p = simp (length-append, length-padded p codes short) (omega arith) in
    let later = cells_read r c v k z s rs rest ks (padded p codes ++ (q ∷ [])) (suc p) (n + 1) (omega arith) e' others in
    let right =
    cell_named (so_far r c v k codes []) (record { row = p / c; column = p % c; cell = cell_of q }) true w.row_in w.column_in
    (rw w.place_is short) names in (
      later.0,
      later.1
          ∙ ap (λ (l : List ℕ). l ++ ks) (padded_full (suc p) (padded p codes ++ (q ∷ [])) full)
          ∙ append_assoc (padded p codes) (q ∷ []) ks,
      rw (split, d.first)
          (cell_step (so_far r c v k codes []) n d.bytes_of _ _ d.back right
          ∙ ap (λ (x : Listed). load_cells x (n + 1) (lines_of (cell_lines c (suc p) ks ++ s))) (with_code r c v k p q codes w.place_is)
          ∙ later.2),
    ))
    (cell_read_lem (p / c) (p % c) v (cell_of q) (cell_lines c (suc p) ks ++ s) (omega (arith, limits_fit, w.row_in)) (omega (arith, limits_fit, w.column_in)) (omega (arith, limits_fit)) names)

-- the first line in front of a text: its sizes, before the first cell
sizes_read :
    (r c v k n : ℕ) (s : List ℕ)
    → in_range r c v k ≡ true
    → load_from n (lines_of (line crossbar_form (r ∷ c ∷ v ∷ k ∷ []) ++ s)) ≡ load_cells (so_far r c v k [] []) (n + 1) (lines_of s)
unfolding load_from sized size_fault lowest
sizes_read r c v k n s h =
    let z = in_range_lem r c v k h in
    then_is _ _ _
    (due-written crossbar_form (r ∷ c ∷ v ∷ k ∷ []) n s crossbar_apart (crossbar_fits r c v k (omega (arith, limits_fit)) (omega (arith, limits_fit)) (omega (arith, limits_fit)) (omega (arith, limits_fit))))
    ∙ unless_none _ n _ (rw h)

-- a list that holds zeros only
zeros_only : (l : List ℕ) → all_of (λ b. eqb b 0) l ≡ true → l ≡ zeros (length l)
unfolding all_of
zeros_only [] h = refl
zeros_only (a ∷ l) h =
    let first : a ≡ 0 = eqb-true a 0 (and_left (eqb a 0) _ h) in
    let later = zeros_only l (and_right (eqb a 0) (all_of (λ b. eqb b 0) l) h) in
    ap (λ (b : ℕ). b ∷ l) first ∙ ap (λ (m : List ℕ). 0 ∷ m) later

-- a list that holds zeros only past its first k entries is these entries, padded
pub taken_padded :
    (k n : ℕ) (l : List ℕ)
    → length l ≡ n
    → k ≤ n
    → all_of (λ b. eqb b 0) (drop k l) ≡ true
    → padded n (take k l) ≡ l
unfolding padded
taken_padded k n l e h past =
    let front : length (take k l) ≡ k = length-take-le k l (omega arith) in
    let spare : length (drop k l) ≡ n - k = simp (length-drop, e) in
    let nil : drop k l ≡ zeros (n - k) = zeros_only (drop k l) past ∙ ap (λ (m : ℕ). zeros m) spare in
    rw (front, ← nil) (take-append-drop k l)

-- the listing of a sound crossbar is read
pub listing_read :
    (x : Crossbar) (cells : List ℕ) (n : ℕ)
    → length x.outs ≡ max_outputs
    → Sound x cells
    → (y : Listed)
    × (load_from n (lines_of (listing x cells)) ≡ done y)
    × (record_of y ≡ x)
    × (cells_of y ≡ take (size x) cells)
unfolding listing record_of cells_of size padded
listing_read x cells n wide f =
    let z = f.sizes in
    let ks = take (x.rows * x.columns) cells in
    let rs = take x.outputs x.outs in
    let named : length ks ≡ x.rows * x.columns = length-take-le (x.rows * x.columns) cells f.enough in
    let stood : length rs ≡ x.outputs = length-take-le x.outputs x.outs (omega arith) in
    let head = line crossbar_form (x.rows ∷ x.columns ∷ x.switches ∷ x.outputs ∷ []) in
    let tail = out_lines 0 rs ++ line end_form [] in
    let whole : head ++ cell_lines x.columns 0 ks ++ out_lines 0 rs ++ line end_form [] ≡ head ++ (cell_lines x.columns 0 ks ++ tail) =
    append_assoc (head ++ cell_lines x.columns 0 ks) (out_lines 0 rs) (line end_form [])
    ∙ append_assoc head (cell_lines x.columns 0 ks) tail in
    let d =
    cells_read x.rows x.columns x.switches x.outputs z tail rs
    (λ codes m. stands_read x.rows x.columns x.switches x.outputs codes z rs m stood f.rows_low)
    ks [] 0 (n + 1) (omega arith) (omega arith) f.codes_low_lem in (
      so_far x.rows x.columns x.switches x.outputs d.0 rs,
      ap (λ (t : List ℕ). load_from n (lines_of t)) whole
          ∙ sizes_read x.rows x.columns x.switches x.outputs n (cell_lines x.columns 0 ks ++ tail) f.range
          ∙ d.2,
      ap
          (λ (outs : List ℕ).
          record { rows = x.rows; columns = x.columns; switches = x.switches; outputs = x.outputs; outs = outs })
          (taken_padded x.outputs max_outputs x.outs wide z.outputs_most f.unused),
      d.1,
    )

-- the text of a sound crossbar is loaded into any buffer that holds its cells, and gives that crossbar
pub load-listing :
    (x : Crossbar) (cells : List ℕ) (room : ℕ)
    → length x.outs ≡ max_outputs
    → sound x cells ≡ true
    → size x ≤ room
    → load (listing x cells) room ≡ done (record { head = x; codes = take (size x) cells })
unfolding load lowest
load-listing x cells room wide h fits =
    let d = listing_read x cells 1 wide (sound_facts x cells h) in
    then_is _ d.0 _ d.1
    ∙ unless_none _ 0 _ (rw (d.2, le-ltb room (size x) fits))
    ∙ rw (d.2, d.3)
