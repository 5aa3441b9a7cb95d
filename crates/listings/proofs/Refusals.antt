-- How the reading of a listing ends, and print: with a number of 1 to 15 and a line below a bound, or with sizes in range.
use Prim.Native.Nat.{ℕ, zero, suc, ◌+◌, ◌*◌, ◌≤◌}
use mathlib.Core.Path.{◌≡◌, refl}
use mathlib.Core.Bool.{not}
use mathlib.Core.Option.{Option, some, none}
use mathlib.Core.List.{List, []}
use native.Mathlib.Omega.{arith}
use lib.ListN.{length, get_or}
use borrow.Author.Tests.{not-false}
use Rattle.common.specs.Limits.{max_rows, max_columns, max_outputs, max_text}
use Rattle.common.specs.Outcome.{most_number, unless}
use Rattle.common.proofs.Outcome.{not_met}
use Rattle.common.proofs.Within.{EndsWithin, ends_done, then_ends, unless_ends, within, not_the_form, most_line}
use Rattle.figures.specs.Line.{Lines, left, ◌⏎◌, lines_of}
use Rattle.cells.specs.declared.Crossbar.{Crossbar}
use Rattle.cells.specs.Record.{in_range, size, sound}
use Rattle.cells.proofs.Sizes.{in_range_lem, CellsMost}
use Rattle.forms.specs.Due.{due}
use Rattle.forms.specs.Form.{Placed, placed}
use Rattle.forms.specs.Forms.{out_form, end_form, crossbar_form}
use Rattle.forms.proofs.Template.{due_ends}
use Rattle.listings.specs.Listing.{print}
use Rattle.listings.specs.Loading.{Listed, cell_fault, with_cell, with_out_row, load_end, load_outs, load_cells, sized, size_fault, load_from, record_of, load, out_row_fault}
use Rattle.listings.proofs.Loaded.{cell_facts, cell_room, length_with}
use Rattle.listings.proofs.Lengths.{listing_most}

-- the lines of a listing, from line n on: there are no more cell lines than cells
abbrev pub FewCells : Listed → Type 0
FewCells x = x.rows * x.columns ≤ max_rows * max_columns

module _ (b first : ℕ) where
  last_ends : (x : Listed) (n : ℕ) (ls : Lines) → FewCells x → n + 1 ≤ b → EndsWithin FewCells b (load_end x n ls)
  unfolding load_end within most_number
  last_ends x n ls few h =
      let here : n ≤ b = omega arith in
      then_ends (due end_form n ls) _ (due_ends end_form n ls here) (λ o g. unless_ends _ (n + 1) _ refl h (λ z. ends_done few))

  stands_end :
      (k : ℕ) (x : Listed) (n : ℕ) (ls : Lines) → FewCells x → n + k + 1 ≤ b → EndsWithin FewCells b (load_outs k x n ls)
  unfolding load_outs with_out_row out_row_fault within most_number
  stands_end zero x n ls few h = last_ends x n ls few (omega arith)
  stands_end (suc k) x n ls few h =
      let here : n ≤ b = omega arith in
      let rest : (n + 1) + k + 1 ≤ b = omega arith in
      then_ends (due out_form n ls) _ (due_ends out_form n ls here)
      (λ o g. unless_ends _ n _ refl here (λ z. stands_end k _ (n + 1) o.later few rest))

  -- a listing up to a cell line, number n of the text
  record LinesWithin (x : Listed) (n : ℕ) : Type 0 where
    sizes : FewCells x
    number : n ≤ first + 1 + length x.codes
    room : length x.codes ≤ x.rows * x.columns
    bound : first + 1 + x.rows * x.columns + x.outputs + 1 ≤ b

  lines_next : (x : Listed) (p : Placed) (n : ℕ) → LinesWithin x n → cell_fault x p ≡ 0 → LinesWithin (with_cell x p) (n + 1)
  unfolding with_cell
  lines_next x p n c z =
      let f = cell_facts x p z in
      record {
        sizes = c.sizes;
        number = rw (length_with x p f.later) (omega (arith, c.number, f.later));
        room = cell_room x p f;
        bound = c.bound;
      }

  cells_end : (x : Listed) (n : ℕ) (ls : Lines) → LinesWithin x n → EndsWithin FewCells b (load_cells x n ls)
  unfolding load_cells cell_fault within most_number
  cells_end x n (left s) c = let here : n ≤ b = omega arith in not_the_form here
  cells_end x n (l ⏎ ls) c = by_placed (placed l) (λ p z. cells_end (with_cell x p) (n + 1) ls (lines_next x p n c z))
    where
      by_placed :
          (o : Option Placed)
          → ((p : Placed) → cell_fault x p ≡ 0 → EndsWithin FewCells b (load_cells (with_cell x p) (n + 1) ls))
          → EndsWithin FewCells b
          (elim o [ some p ↦ unless (cell_fault x p) n (load_cells (with_cell x p) (n + 1) ls) | none ↦ load_outs x.outputs x n (l ⏎ ls) ])
      by_placed (some p) h = unless_ends _ n _ refl (omega arith) (h p)
      by_placed none h = stands_end x.outputs x n (l ⏎ ls) c.sizes (omega arith)

module _ (b first : ℕ) (enough : first + max_rows * max_columns + max_outputs + 2 ≤ b) where
  sizes_lines : (vs : List ℕ) → size_fault (sized vs) ≡ 0 → LinesWithin b first (sized vs) (first + 1)
  unfolding size_fault sized
  sizes_lines vs z =
      let r = get_or vs 0 0 in
      let c = get_or vs 1 0 in
      let k = get_or vs 3 0 in
      let ranges =
      in_range_lem r c (get_or vs 2 0) k
      (not-false (in_range r c (get_or vs 2 0) k) (not_met 1 (not (in_range r c (get_or vs 2 0) k)) [] z)) in
      let cells : r * c ≤ max_rows * max_columns = ranges.cells_most in
      let few : k ≤ max_outputs = ranges.outputs_most in
      record {
        sizes = ranges.cells_most;
        number = omega arith;
        room = omega arith;
        bound = omega arith;
      }

  pub listing_ends : (ls : Lines) → EndsWithin FewCells b (load_from first ls)
  unfolding load_from size_fault within most_number
  listing_ends ls =
      then_ends (due crossbar_form first ls) _ (due_ends crossbar_form first ls (omega arith))
      (λ o g. unless_ends _ first _ refl g (λ z. cells_end b first (sized o.vals) (first + 1) o.later (sizes_lines o.vals z)))

-- the call load, and print
pub loaded_ends : (s : List ℕ) (m : ℕ) → EndsWithin CellsMost most_line (load s m)
unfolding load record_of size within most_number most_line
loaded_ends s m =
    then_ends (load_from 1 (lines_of s)) _ (listing_ends most_line 1 (omega arith) (lines_of s))
    (λ x few. unless_ends _ 0 _ refl (omega arith) (λ z. ends_done few))

pub printed_ends : (x : Crossbar) (cells : List ℕ) (room : ℕ) → EndsWithin (λ t. length t ≤ max_text) most_line (print x cells room)
unfolding print within most_number
printed_ends x cells room =
    unless_ends _ 0 _ refl (omega arith)
    (λ z. ends_done (listing_most x cells (not-false (sound x cells) (not_met 11 (not (sound x cells)) _ z))))
