-- A text that is loaded: it is the text of the lines that its values write, and what it gives is in range.
use Prim.Native.Nat.{ℕ, zero, suc, ◌+◌, ◌-◌, ◌*◌, ◌≤◌, ◌<◌}
use mathlib.Core.Path.{◌≡◌, refl, sym, ap, ◌∙◌}
use mathlib.Core.Bool.{Bool, true, not, ◌&&◌}
use mathlib.Core.Option.{Option, some, none}
use mathlib.Core.List.{List, [], ◌∷◌, ◌++◌, append_assoc, append-nil}
use native.Mathlib.Omega.{arith}
use lib.Arith.{digits_lt}
use lib.ListN.{length, get_or, length-append, length-replicate, take, drop, drop_of_length-le}
use lib.Dec.{eqb, leb, ltb}
use lib.Seq.{take_all, drop_at}
use borrow.Author.Tests.{ltb-true, ltb-false, le-leb, eqb-true, not-true, not-false}
use Rattle.std.proofs.lemmas.Bool.{and_from}
use Rattle.std.proofs.lemmas.Nat.{div-mul-add, mod-mul-add}
use Rattle.common.specs.Lists.{zeros, padded, all_of}
use Rattle.common.specs.Limits.{max_outputs}
use Rattle.common.specs.Outcome.{done}
use Rattle.common.proofs.Lists.{and_left, and_right, length-padded, all_of_append, all_of_zeros, take-padded}
use Rattle.common.proofs.Outcome.{then_done, unless_done, not_met, others}
use Rattle.figures.specs.Line.{Lines, left, ◌⏎◌, lines_of, follows}
use Rattle.figures.proofs.Line.{text_of, follows_none, text_lines}
use Rattle.cells.specs.declared.Cell.{Cell}
use Rattle.cells.specs.Code.{code_of}
use Rattle.cells.specs.Record.{codes_low, in_range, Whole, size, sound}
use Rattle.cells.proofs.Codes.{code_cell}
use Rattle.cells.proofs.Sizes.{in_range_lem}
use Rattle.forms.specs.Template.{Template, written, line}
use Rattle.forms.specs.Forms.{out_form, crossbar_form, end_form, out_lines}
use Rattle.forms.specs.Due.{Taken, due}
use Rattle.forms.proofs.Template.{FitsTemplate, written-values, due-line, out_values, end_values, crossbar-values}
use Rattle.listings.specs.Listing.{cell_line, cell_lines, listing}
use Rattle.forms.specs.Form.{Placed, placed}
use Rattle.listings.specs.Loading.{switch_below, Listed, cell_fault, with_cell, out_row_fault, with_out_row, load_end, load_outs, load_cells, sized, size_fault, load_from, record_of, cells_of, load}
use Rattle.listings.proofs.Cells.{cell_lines_append, cell_lines_zeros, below_code, cell_written}
use Rattle.listings.proofs.Printed.{so_far}

-- a line that was taken: the text is the line of its values and then the text of the later lines
pub line_taken :
    (t : Template) (n : ℕ) (ls : Lines) (o : Taken)
    → due t n ls ≡ done o
    → (text_of ls ≡ line t o.vals ++ text_of o.later) × FitsTemplate t o.vals
unfolding line text_of
line_taken t n ls o h =
    let d = due-line t n ls o h in
    let w = written-values t d.0 o.vals d.2 in (
      ap text_of d.1
          ∙ ap (λ (l : List ℕ). l ++ (10 ∷ text_of o.later)) w.0
          ∙ sym (append_assoc (written t o.vals) (10 ∷ []) (text_of o.later)),
      w.1,
    )

-- the last line
end_told : (x : Listed) (n : ℕ) (ls : Lines) (y : Listed) → load_end x n ls ≡ done y → (text_of ls ≡ line end_form []) × (x ≡ y)
unfolding load_end text_of
end_told x n ls y h =
    let t = then_done (due end_form n ls) _ y h in
    let u = unless_done _ (n + 1) (done x) y t.2 in
    let e : done x ≡ done y = u.1 in
    let k = line_taken end_form n ls t.0 t.1 in
    let none_left = follows_none t.0.later (not_met 9 (follows t.0.later) [] u.0) in
    let right : line end_form t.0.vals ++ text_of t.0.later ≡ line end_form [] =
    rw (end_values t.0.vals k.1, none_left) (append-nil (line end_form [])) in
    (k.0 ∙ right, cc)

-- an output without a fault is in turn and on a row of the crossbar
pub stand_facts : (x : Listed) (j r : ℕ) → out_row_fault x j r ≡ 0 → (j ≡ length x.outs) × (ltb r x.rows ≡ true)
unfolding out_row_fault
stand_facts x j r h =
    let first = not_met 2 (not (eqb j (length x.outs))) _ h in
    let second = others 2 (not (eqb j (length x.outs))) _ h in
    (eqb-true j (length x.outs) (not-false _ first), not-false (ltb r x.rows) (not_met 11 (not (ltb r x.rows)) [] second))

-- k output lines and the last line: the rows, and the text that they write
pub record OutsTold (k : ℕ) (x : Listed) (s : List ℕ) (y : Listed) : Type 0 where
  pub stands : List ℕ
  pub result : so_far x.rows x.columns x.switches x.outputs x.codes (x.outs ++ stands) ≡ y
  pub text : s ≡ out_lines (length x.outs) stands ++ line end_form []
  pub low : all_of (λ r. ltb r x.rows) stands ≡ true
  pub count : length stands ≡ k

pub outs_told : (k : ℕ) (x : Listed) (n : ℕ) (ls : Lines) (y : Listed) → load_outs k x n ls ≡ done y → OutsTold k x (text_of ls) y
unfolding load_outs out_lines all_of with_out_row
outs_told zero x n ls y h =
    let e = end_told x n ls y h in
    record { stands = []; result = rw (append-nil x.outs) e.1; text = e.0; low = refl; count = refl }
outs_told (suc k) x n ls y h =
    let t = then_done (due out_form n ls) _ y h in
    let j = get_or t.0.vals 0 0 in
    let r = get_or t.0.vals 1 0 in
    let u = unless_done (out_row_fault x j r) n _ y t.2 in
    let f = stand_facts x j r u.0 in
    let d = outs_told k (with_out_row x r) (n + 1) t.0.later y u.1 in
    let g = line_taken out_form n ls t.0 t.1 in
    let longer : length (x.outs ++ (r ∷ [])) ≡ suc (length x.outs) = simp length-append (omega arith) in
    let shape : t.0.vals ≡ length x.outs ∷ r ∷ [] = (out_values t.0.vals g.1).0 ∙ ap (λ (i : ℕ). i ∷ r ∷ []) f.0 in
    record {
      stands = r ∷ d.stands;
      result = rw (append_assoc x.outs (r ∷ []) d.stands) at d.result;
      text =
          g.0
          ∙ ap (λ (vs : List ℕ). line out_form vs ++ text_of t.0.later) shape
          ∙ ap (λ (s : List ℕ). line out_form (length x.outs ∷ r ∷ []) ++ s) (rw longer at d.text)
          ∙ sym (append_assoc (line out_form (length x.outs ∷ r ∷ [])) (out_lines (suc (length x.outs)) d.stands) (line end_form []));
      low = and_from (ltb r x.rows) (all_of (λ r. ltb r x.rows) d.stands) f.1 d.low;
      count = ap suc d.count;
    }

-- a cell without a fault is in the crossbar, after those named, and of a switch of the crossbar
pub record CellFacts (x : Listed) (p : Placed) : Type 0 where
  pub row_in : p.row < x.rows
  pub column_in : p.column < x.columns
  pub later : length x.codes ≤ p.row * x.columns + p.column
  pub switch_in : switch_below x.switches p.cell ≡ true

pub cell_facts : (x : Listed) (p : Placed) → cell_fault x p ≡ 0 → CellFacts x p
unfolding cell_fault
cell_facts x p h =
    let a = ltb p.row x.rows in
    let b = ltb p.column x.columns in
    let c = ltb (p.row * x.columns + p.column) (length x.codes) in
    let d = switch_below x.switches p.cell in
    let all = not-false (a && b && not c && d) (not_met 11 (not (a && b && not c && d)) [] h) in
    let three = and_left (a && b && not c) d all in
    let two = and_left (a && b) (not c) three in
    record {
      row_in = ltb-true p.row x.rows (and_left a b two);
      column_in = ltb-true p.column x.columns (and_right a b two);
      later = ltb-false (p.row * x.columns + p.column) (length x.codes) (not-true c (and_right (a && b) (not c) three));
      switch_in = and_right (a && b && not c) d all;
    }

-- the codes that a cell at place q adds to m codes: off up to its place, and its own
abbrev added : (m q : ℕ) → Cell → List ℕ
added m q x = zeros (q - m) ++ (code_of x ∷ [])

length_added : (m q : ℕ) (x : Cell) → m ≤ q → m + length (added m q x) ≡ suc q
length_added m q x h = simp (length-append, length-replicate) (omega arith)

-- they have one line
one_line_lem : (r c n : ℕ) (x : Cell) → c < n → cell_lines n (r * n + c) (code_of x ∷ []) ≡ cell_line r c x
unfolding cell_lines
one_line_lem r c n x h = rw (append-nil, div-mul-add r n c h, mod-mul-add r n c h, code_cell x)

added_lines :
    (m r c n : ℕ) (x : Cell) (more : List ℕ)
    → c < n
    → m ≤ r * n + c
    → cell_lines n m (added m (r * n + c) x ++ more) ≡ cell_line r c x ++ cell_lines n (suc (r * n + c)) more
added_lines m r c n x more h k =
    let q = r * n + c in
    let e : m + length (zeros (q - m)) ≡ q = simp length-replicate (omega arith) in
    let alone : cell_lines n m (added m q x) ≡ cell_line r c x =
    cell_lines_append n m (zeros (q - m)) (code_of x ∷ []) ∙ rw (cell_lines_zeros, e) (one_line_lem r c n x h) in
    cell_lines_append n m (added m q x) more ∙ rw (length_added m q x k, alone)

-- with one cell more
codes_with :
    (x : Listed) (p : Placed)
    → (with_cell x p).codes ≡ x.codes ++ added (length x.codes) (p.row * x.columns + p.column) p.cell
unfolding with_cell padded
codes_with x p = append_assoc x.codes (zeros (p.row * x.columns + p.column - length x.codes)) (code_of p.cell ∷ [])

pub length_with :
    (x : Listed) (p : Placed)
    → length x.codes ≤ p.row * x.columns + p.column
    → length (with_cell x p).codes ≡ suc (p.row * x.columns + p.column)
length_with x p h =
    rw (codes_with x p)
    (length-append x.codes (added (length x.codes) (p.row * x.columns + p.column) p.cell)
    ∙ length_added (length x.codes) (p.row * x.columns + p.column) p.cell h)

-- the codes that a cell adds are not above 1 + 2·v
added_low :
    (m q v : ℕ) (x : Cell) → switch_below v x ≡ true → codes_low v (added m q x) ≡ true
unfolding all_of
added_low m q v x h =
    let f : ℕ → Bool = λ k. leb k (1 + 2 * v) in
    all_of_append f (zeros (q - m)) (code_of x ∷ []) (all_of_zeros f (q - m) (le-leb 0 (1 + 2 * v) (omega arith)))
    (and_from (f (code_of x)) true (le-leb (code_of x) (1 + 2 * v) (below_code v x h)) refl)

-- cell lines, output lines and the last line: the codes and the rows, and the text that they write
pub record CellsTold (x : Listed) (s : List ℕ) (y : Listed) : Type 0 where
  pub more : List ℕ
  pub stands : List ℕ
  pub result : so_far x.rows x.columns x.switches x.outputs (x.codes ++ more) (x.outs ++ stands) ≡ y
  pub text : s ≡ cell_lines x.columns (length x.codes) more ++ (out_lines (length x.outs) stands ++ line end_form [])
  pub room : length x.codes + length more ≤ x.rows * x.columns
  pub codes_low_lem : codes_low x.switches more ≡ true
  pub rows_low : all_of (λ r. ltb r x.rows) stands ≡ true
  pub count : length stands ≡ x.outputs

-- one cell line more
cell_told :
    (x : Listed) (l : List ℕ) (s : List ℕ) (p : Placed) (y : Listed)
    → placed l ≡ some p
    → CellFacts x p
    → CellsTold (with_cell x p) s y
    → CellsTold x (l ++ (10 ∷ s)) y
unfolding with_cell
cell_told x l s p y e f d =
    let q = p.row * x.columns + p.column in
    let m = length x.codes in
    let own = added m q p.cell in
    let tail = out_lines (length x.outs) d.stands ++ line end_form [] in
    let full = length_with x p f.later in
    let counts : length x.codes + length (own ++ d.more) ≡ suc q + length d.more =
    rw (length-append own d.more) (omega (arith, length_added m q p.cell f.later)) in
    record {
      more = own ++ d.more;
      stands = d.stands;
      result =
          ap
          (λ (codes : List ℕ). so_far x.rows x.columns x.switches x.outputs codes (x.outs ++ d.stands))
          (sym (append_assoc x.codes own d.more) ∙ ap (λ (codes : List ℕ). codes ++ d.more) (sym (codes_with x p)))
          ∙ d.result;
      text =
          sym (append_assoc l (10 ∷ []) s)
          ∙ ap (λ (b : List ℕ). b ++ s) (cell_written l p e)
          ∙ ap (λ (b : List ℕ). cell_line p.row p.column p.cell ++ b) (rw full at d.text)
          ∙ sym (append_assoc (cell_line p.row p.column p.cell) (cell_lines x.columns (suc q) d.more) tail)
          ∙ ap (λ (b : List ℕ). b ++ tail)
          (sym (added_lines m p.row p.column x.columns p.cell d.more f.column_in f.later));
      room = rw counts (rw full at d.room);
      codes_low_lem =
          all_of_append (λ k. leb k (1 + 2 * x.switches)) own d.more (added_low m q x.switches p.cell f.switch_in)
          d.codes_low_lem;
      rows_low = d.rows_low;
      count = d.count;
    }

-- no cell line more
no_cell_told :
    (x : Listed) (s : List ℕ) (y : Listed)
    → length x.codes ≤ x.rows * x.columns
    → OutsTold x.outputs x s y
    → CellsTold x s y
unfolding cell_lines all_of
no_cell_told x s y h d =
    record {
      more = [];
      stands = d.stands;
      result = rw append-nil d.result;
      text = d.text;
      room = omega arith;
      codes_low_lem = refl;
      rows_low = d.low;
      count = d.count;
    }

-- the codes up to a cell in the crossbar are not more than its cells
pub cell_room : (x : Listed) (p : Placed) → CellFacts x p → length (with_cell x p).codes ≤ (with_cell x p).rows * (with_cell x p).columns
cell_room x p f =
    let most : suc (p.row * x.columns + p.column) ≤ x.rows * x.columns =
    digits_lt f.row_in f.column_in in
    rw (length_with x p f.later) (unfold with_cell in most)

-- a line that is a cell's or is not
line_told :
    (x : Listed) (n : ℕ) (l : List ℕ) (ls : Lines) (y : Listed) (o : Option Placed)
    → placed l ≡ o
    → length x.codes ≤ x.rows * x.columns
    → ((z : Listed) → load_cells z (n + 1) ls ≡ done y → length z.codes ≤ z.rows * z.columns → CellsTold z (text_of ls) y)
    → load_cells x n (l ⏎ ls) ≡ done y
    → CellsTold x (text_of (l ⏎ ls)) y
unfolding load_cells text_of
line_told x n l ls y none e room later h = no_cell_told x (text_of (l ⏎ ls)) y room (outs_told x.outputs x n (l ⏎ ls) y (rw (e, load_cells) at h))
line_told x n l ls y (some p) e room later h =
    let u = unless_done (cell_fault x p) n (load_cells (with_cell x p) (n + 1) ls) y (rw (e, load_cells) at h) in
    let f = cell_facts x p u.0 in
    cell_told x l (text_of ls) p y e f (later (with_cell x p) u.1 (cell_room x p f))

-- the lines after the first line
pub cells_told :
    (ls : Lines) (x : Listed) (n : ℕ) (y : Listed)
    → load_cells x n ls ≡ done y
    → length x.codes ≤ x.rows * x.columns
    → CellsTold x (text_of ls) y
cells_told (left s) x n y h room = unfold load_cells in absurd (let z : ◌≡◌ {A = ℕ} 0 1 = cc in omega arith)
cells_told (l ⏎ ls) x n y h room =
    line_told x n l ls y (placed l) refl room
    (λ (z : Listed) (g : load_cells z (n + 1) ls ≡ done y) (r : length z.codes ≤ z.rows * z.columns). cells_told ls z (n + 1) y g r) h

-- what a listing says, within its sizes
pub record CellsWithin (r c v k : ℕ) (codes stands : List ℕ) : Type 0 where
  pub range : in_range r c v k ≡ true
  pub room : length codes ≤ r * c
  pub codes_low_lem : codes_low v codes ≡ true
  pub rows_low : all_of (λ q. ltb q r) stands ≡ true
  pub count : length stands ≡ k

-- the cells and the output rows of it, taken from the padded lists
cells_taken : (n : ℕ) (codes : List ℕ) → length codes ≤ n → take n (padded n codes) ≡ codes ++ zeros (n - length codes)
cells_taken n codes h =
    let full = length-padded n codes h in
    take_all n (padded n codes) (omega arith) ∙ unfold padded in refl

stands_left : (n k : ℕ) (stands : List ℕ) → length stands ≡ k → drop k (padded n stands) ≡ zeros (n - length stands)
unfolding padded
stands_left n k stands e = drop_at stands (zeros (n - length stands)) k e

-- ground 12 is not met by it
listed-sound :
    (r c v k : ℕ) (codes stands : List ℕ)
    → CellsWithin r c v k codes stands
    → sound (record_of (so_far r c v k codes stands)) (cells_of (so_far r c v k codes stands)) ≡ true
unfolding sound record_of cells_of size
listed-sound r c v k codes stands w =
    let full = length-padded (r * c) codes w.room in
    let enough : leb (r * c) (length (padded (r * c) codes)) ≡ true = le-leb (r * c) (length (padded (r * c) codes)) (omega arith) in
    let past : all_of (λ b. eqb b 0) (drop (r * c) (padded (r * c) codes)) ≡ true =
    rw (drop_of_length-le (padded (r * c) codes) {i = r * c} (omega arith)) (unfold all_of in refl) in
    let low : codes_low v (take (r * c) (padded (r * c) codes)) ≡ true =
    rw (cells_taken (r * c) codes w.room)
    (all_of_append (λ q. leb q (1 + 2 * v)) codes (zeros (r * c - length codes)) w.codes_low_lem
    (all_of_zeros (λ q. leb q (1 + 2 * v)) (r * c - length codes) (le-leb 0 (1 + 2 * v) (omega arith)))) in
    let stand : all_of (λ q. ltb q r) (take k (padded max_outputs stands)) ≡ true =
    rw (take-padded max_outputs k stands w.count) w.rows_low in
    let unused : all_of (λ q. eqb q 0) (drop k (padded max_outputs stands)) ≡ true =
    rw (stands_left max_outputs k stands w.count) (all_of_zeros (λ q. eqb q 0) (max_outputs - length stands) refl) in
    rw (w.range, enough, past, low, stand, unused)

-- and its text is that of its lines
listed_text :
    (r c v k : ℕ) (codes stands : List ℕ)
    → CellsWithin r c v k codes stands
    → listing (record_of (so_far r c v k codes stands)) (cells_of (so_far r c v k codes stands))
    ≡ line crossbar_form (r ∷ c ∷ v ∷ k ∷ []) ++ (cell_lines c 0 codes ++ (out_lines 0 stands ++ line end_form []))
unfolding listing record_of cells_of size
listed_text r c v k codes stands w =
    let head = line crossbar_form (r ∷ c ∷ v ∷ k ∷ []) in
    let cut : cell_lines c 0 (take (r * c) (padded (r * c) codes)) ≡ cell_lines c 0 codes =
    rw (cells_taken (r * c) codes w.room, cell_lines_append c 0 codes, cell_lines_zeros) (append-nil (cell_lines c 0 codes)) in
    rw (cut, take-padded max_outputs k stands w.count)
    (append_assoc (head ++ cell_lines c 0 codes) (out_lines 0 stands) (line end_form [])
    ∙ append_assoc head (cell_lines c 0 codes) (out_lines 0 stands ++ line end_form []))

-- what a text that is loaded says
pub record Told (s : List ℕ) (y : Listed) : Type 0 where
  pub rows : ℕ
  pub columns : ℕ
  pub switches : ℕ
  pub outputs : ℕ
  pub codes : List ℕ
  pub stands : List ℕ
  pub within : CellsWithin rows columns switches outputs codes stands
  pub result : so_far rows columns switches outputs codes stands ≡ y
  pub text :
      line crossbar_form (rows ∷ columns ∷ switches ∷ outputs ∷ [])
      ++ (cell_lines columns 0 codes ++ (out_lines 0 stands ++ line end_form []))
      ≡ s

told_from :
    (s t : List ℕ) (r c v k : ℕ) (y : Listed)
    → in_range r c v k ≡ true
    → CellsTold (so_far r c v k [] []) t y
    → line crossbar_form (r ∷ c ∷ v ∷ k ∷ []) ++ t ≡ s
    → Told s y
told_from s t r c v k y range d e =
    record {
      rows = r;
      columns = c;
      switches = v;
      outputs = k;
      codes = d.more;
      stands = d.stands;
      within =
          record {
            range = range;
            room = omega (arith, d.room);
            codes_low_lem = d.codes_low_lem;
            rows_low = d.rows_low;
            count = d.count;
          };
      result = d.result;
      text = ap (λ (b : List ℕ). line crossbar_form (r ∷ c ∷ v ∷ k ∷ []) ++ b) (sym d.text) ∙ e;
    }

first_told :
    (s : List ℕ) (n : ℕ) (o : Taken) (y : Listed)
    → due crossbar_form n (lines_of s) ≡ done o
    → size_fault (sized o.vals) ≡ 0
    → load_cells (sized o.vals) (n + 1) o.later ≡ done y
    → Told s y
unfolding size_fault sized
first_told s n o y e f h =
    let r = get_or o.vals 0 0 in
    let c = get_or o.vals 1 0 in
    let v = get_or o.vals 2 0 in
    let k = get_or o.vals 3 0 in
    let g = line_taken crossbar_form n (lines_of s) o e in
    told_from s (text_of o.later) r c v k y (not-false (in_range r c v k) (not_met 1 (not (in_range r c v k)) [] f))
    (cells_told o.later (so_far r c v k [] []) (n + 1) y h (omega arith))
    (ap (λ (vs : List ℕ). line crossbar_form vs ++ text_of o.later) (sym (crossbar-values o.vals g.1).0)
    ∙ sym g.0
    ∙ text_lines s)

-- the listing from line n on
pub told : (s : List ℕ) (n : ℕ) (y : Listed) → load_from n (lines_of s) ≡ done y → Told s y
unfolding load_from
told s n y h =
    let t = then_done (due crossbar_form n (lines_of s)) _ y h in
    let u = unless_done _ n _ y t.2 in
    first_told s n t.0 y t.1 u.0 u.1

-- what load gives is what the lines of the text say, and it fits into the buffer
pub load_done :
    (s : List ℕ) (room : ℕ) (w : Whole)
    → load s room ≡ done w
    → (y : Listed)
    × (load_from 1 (lines_of s) ≡ done y)
    × (record_of y ≡ w.head)
    × (cells_of y ≡ w.codes)
    × (size (record_of y) ≤ room)
unfolding load
load_done s room w h =
    let t = then_done (load_from 1 (lines_of s)) _ w h in
    let u = unless_done _ 0 _ w t.2 in
    let e : done (record { head = record_of t.0; codes = cells_of t.0 }) ≡ done w = u.1 in
    let same : record { head = record_of t.0; codes = cells_of t.0 } ≡ w = cc in (
      t.0,
      t.1,
      ap (λ (w : Whole). w.head) same,
      ap (λ (w : Whole). w.codes) same,
      ltb-false room (size (record_of t.0)) (not_met 13 (ltb room (size (record_of t.0))) [] u.0),
    )

-- an accepted listing is the text of its crossbar, which is sound
pub loaded_text :
    (s : List ℕ) (room : ℕ) (w : Whole)
    → load s room ≡ done w
    → (sound w.head w.codes ≡ true) × (listing w.head w.codes ≡ s)
loaded_text s room w h =
    let l = load_done s room w h in
    let d = told s 1 l.0 l.1 in
    let is_sound = listed-sound d.rows d.columns d.switches d.outputs d.codes d.stands d.within in
    let is-text =
    listed_text d.rows d.columns d.switches d.outputs d.codes d.stands d.within ∙ d.text in
    (rw (d.result, l.2, l.3) at is_sound, rw (d.result, l.2, l.3) at is-text)

-- a loaded record has all its output rows, used and unused
record_outs : (x : Listed) → length x.outs ≤ max_outputs → length (record_of x).outs ≡ max_outputs
unfolding record_of
record_outs x h = length-padded max_outputs x.outs h

pub loaded_outs : (s : List ℕ) (room : ℕ) (w : Whole) → load s room ≡ done w → length w.head.outs ≡ max_outputs
loaded_outs s room w h =
    let l = load_done s room w h in
    let d = told s 1 l.0 l.1 in
    let sizes = in_range_lem d.rows d.columns d.switches d.outputs d.within.range in
    let few : length d.stands ≤ max_outputs = omega (arith, sizes.outputs_most, d.within.count) in
    let rows : length l.0.outs ≤ max_outputs = rw (← d.result) few in
    rw l.2 at (record_outs l.0 rows)
