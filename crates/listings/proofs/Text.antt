-- The text of a listing in parts, as print writes it: a cell, an output or a row more, and cells that are off.
use Prim.Native.Nat.{ℕ, zero, suc, min, max, ◌+◌, ◌*◌, ◌/◌, ◌≤◌, ◌<◌}
use mathlib.Core.Path.{◌≡◌, refl, sym, ap, ◌∙◌}
use mathlib.Core.Logic.{⊎_elim}
use mathlib.Core.Bool.{Bool, false, not}
use mathlib.Core.List.{List, [], ◌∷◌, ◌++◌, append_assoc}
use native.Mathlib.Omega.{arith}
use native.Mathlib.Numerals.{add-one}
use native.Mathlib.Nat.{mul-le-mul_left, mul-le-mul, mul-le-mul_right}
use lib.ListN.{length, get_or, take, drop, length-append, length-drop, drop_of_length-le, take-append-drop}
use lib.Seq.{drop-cons, drop-drop}
use borrow.Author.Tests.{not-false}
use lib.Dec.{eqb}
use Rattle.std.specs.Simd.{first_chunks}
use Rattle.std.specs.Cmp.Lexicographic.{pointwise}
use Rattle.std.proofs.lemmas.List.{nil_from_length}
use Rattle.std.proofs.lemmas.Slice.Eq.{slice_eq-Decides}
use Rattle.std.proofs.lemmas.Bool.Decides.{Decides-eqb}
use Rattle.std.proofs.lemmas.Bool.{cases_lt}
use Rattle.std.proofs.lemmas.Nat.{div-mul-add, mod-mul-add}
use Rattle.common.specs.Lists.{zeros}
use Rattle.cells.specs.declared.Cell.{Cell}
use Rattle.cells.specs.declared.Cell.TheVariants.{Off}
use Rattle.cells.specs.Code.{cell_of}
use Rattle.forms.specs.Template.{line}
use Rattle.forms.specs.Forms.{out_form, out_lines}
use Rattle.listings.specs.Listing.{cell_line, cell_lines}
use Rattle.listings.specs.Printing.{row_lines}
use Rattle.listings.proofs.Cells.{cell_lines_append}
use Rattle.common.specs.Limits.{max_rows, max_columns}

-- a row below m rows lies among their cells
pub row_inside : (r m n : ℕ) → r < m → r * n + n ≤ m * n
row_inside r m n h = let k : r + 1 ≤ m = omega arith in omega (arith, mul-le-mul_right n k)

-- a row's first place, within the limits
pub place_small : (r n : ℕ) → r < max_rows → n ≤ max_columns → r * n ≤ max_rows * max_columns
place_small r n h k = let h' : r ≤ max_rows = omega arith in mul-le-mul h' k

-- one output more, and none
pub out_more :
    (outs : List ℕ) (j d : ℕ)
    → j < length outs
    → out_lines j (drop j outs) ≡ line out_form (j ∷ get_or outs j d ∷ []) ++ out_lines (j + 1) (drop (j + 1) outs)
unfolding out_lines
out_more outs j d h = rw (drop-cons outs j d h, add-one j, out_lines) refl

pub outs_none : (outs : List ℕ) (j : ℕ) → length outs ≤ j → out_lines j (drop j outs) ≡ []
unfolding out_lines
outs_none outs j h = rw (drop_of_length-le outs h) refl

-- the cells of a row from column c on
pub row_at : (r c c' : ℕ) (cells : List ℕ) → c ≡ c' → row_lines r c cells ≡ row_lines r c' cells
row_at r c c' cells e = rw e

-- one cell more, and none
pub cell_more :
    (r c : ℕ) (cells : List ℕ) (i d : ℕ) (x : Cell)
    → i < length cells
    → x ≡ cell_of (get_or cells i d)
    → row_lines r (c + i) (drop i cells) ≡ cell_line r (c + i) x ++ row_lines r (c + (i + 1)) (drop (i + 1) cells)
unfolding row_lines
cell_more r c cells i d x h k =
    let e : c + suc i ≡ suc (c + i) = omega arith in
    rw (drop-cons cells i d h, add-one i, e, k, row_lines) refl

-- a cell that is off has no line
pub cell_none :
    (r c : ℕ) (cells : List ℕ) (i d : ℕ)
    → i < length cells
    → get_or cells i d ≡ 0
    → row_lines r (c + i) (drop i cells) ≡ row_lines r (c + (i + 1)) (drop (i + 1) cells)
unfolding cell_of cell_line
cell_none r c cells i d h z = cell_more r c cells i d Off h (rw z refl)

pub cells_nothing : (n p : ℕ) (cells : List ℕ) → length cells ≡ 0 → cell_lines n p cells ≡ []
unfolding cell_lines
cells_nothing n p cells h = rw (nil_from_length cells h) refl

-- rows of no cells are no rows, so they may be cut into pieces of one cell
pub rows_of : (n : ℕ) (cells : List ℕ) (m : ℕ) → length cells ≤ m * n → cell_lines n 0 cells ≡ cell_lines (max n 1) 0 cells
rows_of zero cells m h =
    let z : length cells ≡ 0 = omega arith in
    cells_nothing 0 0 cells z ∙ sym (cells_nothing (max 0 1) 0 cells z)
rows_of (suc n) cells m h = let e : max (suc n) 1 ≡ suc n = omega arith in rw e refl

-- a row's number, within the limits
pub row_small : (r n a whole m w : ℕ) → r * max n 1 + a ≤ whole → whole ≤ m * n → n ≤ w → r ≤ m * w
row_small r n a whole m w h k l =
    let one : 1 ≤ max n 1 = omega arith in
    omega (arith, mul-le-mul_left r one, mul-le-mul_left m l)

pub rows_start : (n k : ℕ) (cells xs : List ℕ) → k ≡ 0 → xs ≡ cells → cell_lines n 0 cells ≡ cell_lines n (k * n) xs
rows_start n k cells xs e f = let z : 0 * n ≡ 0 = omega arith in rw (e, f, z)

-- what is equal to zeros
pub zeros_of : (x y : List ℕ) (r : Bool) → r ≡ not (pointwise eqb x y) → r ≡ false → x ≡ y
zeros_of x y r e f = (slice_eq-Decides Decides-eqb x y (pointwise eqb x y) refl).0 (not-false _ (sym e ∙ f))

pub row_none : (r c : ℕ) (cells : List ℕ) (i : ℕ) → length cells ≤ i → row_lines r c (drop i cells) ≡ []
unfolding row_lines
row_none r c cells i h = rw (drop_of_length-le cells h) refl

-- a part of a row more
pub part_more : (r c : ℕ) (a b : List ℕ) → row_lines r c (a ++ b) ≡ row_lines r c a ++ row_lines r (c + length a) b
unfolding row_lines
part_more r c [] b = let e : c + 0 ≡ c = omega arith in rw e
part_more r c (k ∷ a) b =
    let e : suc c + length a ≡ c + suc (length a) = omega arith in
    rw (part_more r (suc c) a b, e) (sym (append_assoc (cell_line r c (cell_of k)) (row_lines r (suc c) a) _))

-- cells that are off have no line
pub part_off : (r c m : ℕ) → row_lines r c (zeros m) ≡ []
unfolding row_lines cell_line cell_of
part_off r c zero = refl
part_off r c (suc m) = part_off r (suc c) m

-- n cells of a row, and those after them; and n cells that are off
module _ (r c n : ℕ) (left : List ℕ) {front after : List ℕ} (parts : (front ≡ take n left) × (after ≡ drop n left) × (length after + n ≡ length left)) where
  pub row_parts : row_lines r c left ≡ row_lines r c front ++ row_lines r (c + n) after
  row_parts =
      let whole : left ≡ front ++ after = sym (take-append-drop n left) ∙ rw (← parts.0, ← parts.1) refl in
      let long : length front ≡ n = omega (arith, parts, length-append front after, ap length whole) in
      ap (row_lines r c) whole ∙ part_more r c front after ∙ ap (λ m. row_lines r c front ++ row_lines r (c + m) after) long

  pub row_parts_off : front ≡ zeros n → row_lines r c left ≡ row_lines r (c + n) after
  row_parts_off z = row_parts ∙ ap (λ f. row_lines r c f ++ row_lines r (c + n) after) z ∙ rw (part_off r c n) refl

-- a row in eights: one of them, and the cells that are left
eight : (k : ℕ) (row : List ℕ) (i : ℕ) → i < k → get_or (first_chunks 8 k row) i [] ≡ take 8 (drop (8 * i) row)
eight zero row i h = absurd (omega arith)
eight (suc k) row zero h = refl
eight (suc k) row (suc i) h =
    let e : 8 + 8 * i ≡ 8 * suc i = omega arith in
    eight k (drop 8 row) i (omega arith) ∙ ap (take 8) (drop-drop (8 * i) 8 row ∙ ap (λ m. drop m row) e)

pub eight_at :
    (row : List ℕ) (eights : List (List ℕ)) (i : ℕ)
    → eights ≡ first_chunks 8 (length row / 8) row
    → i < length row / 8
    → (get_or eights i [] ≡ take 8 (drop (8 * i) row))
    × (drop (8 * i + 8) row ≡ drop 8 (drop (8 * i) row))
    × (length (drop (8 * i + 8) row) + 8 ≡ length (drop (8 * i) row))
eight_at row eights i e h = (
  rw e (eight (length row / 8) row i h),
  sym (drop-drop 8 (8 * i) row),
  omega (arith, length-drop (8 * i + 8) row, length-drop (8 * i) row),
)

pub eights_left :
    (r : ℕ) (row left : List ℕ) (i n : ℕ)
    → i ≡ length row / 8
    → n ≡ length row / 8
    → left ≡ drop (length row / 8 * 8) row
    → row_lines r (8 * i) (drop (8 * i) row) ≡ row_lines r (8 * n) left
eights_left r row left i n e f back =
    let m : length row / 8 * 8 ≡ 8 * i = omega arith in
    let k : 8 * n ≡ 8 * i = omega arith in
    rw (back, m, k) refl

-- a row of n columns
row_from : (n r c : ℕ) (a : List ℕ) → c + length a ≤ n → cell_lines n (r * n + c) a ≡ row_lines r c a
unfolding cell_lines row_lines
row_from n r c [] h = refl
row_from n r c (k ∷ a) h =
    let next : suc (r * n + c) ≡ r * n + suc c = omega arith in
    rw (div-mul-add r n c (omega arith), mod-mul-add r n c (omega arith), next, row_from n r (suc c) a (omega arith))

-- pieces of n cells: k of them are past, xs are the cells that are left of `whole` cells, and m is the size that the iterator has
pub record Pieces (n whole k : ℕ) (xs : List ℕ) (m : ℕ) : Type 0 where
  pub sized : m ≡ n
  pub placed : 0 < length xs → k * n + length xs ≡ whole

-- the piece x is at the front of what is left, and ys follow it
pub record Piece (n : ℕ) (xs x ys : List ℕ) : Type 0 where
  pub parts : xs ≡ x ++ ys
  pub long : length x ≡ min n (length xs)
  pub more : 0 < length xs

pub pieces_start : (n m k : ℕ) (xs all : List ℕ) → xs ≡ all → k ≡ 0 → m ≡ n → Pieces n (length all) k xs m
pieces_start n m k xs all e z s = record { sized = s; placed = λ h. rw (e, z) (omega arith) }

pub piece : {n whole k m : ℕ} {xs x ys : List ℕ} → Pieces n whole k xs m → xs ≡ x ++ ys → length x ≡ min m (length xs) → 0 < length xs → Piece n xs x ys
piece {xs = xs} p parts long more = record { parts = parts; long = long ∙ ap (λ n. min n (length xs)) p.sized; more = more }

module _ {n : ℕ} {xs x ys : List ℕ} (p : Piece n xs x ys) where
  both : length xs ≡ length x + length ys
  both = ap length p.parts ∙ length-append x ys

  -- it has n cells where any follow
  whole_piece : 0 < length ys → length x ≡ n
  whole_piece h = omega (arith, both, p.long)

  pub pieces_next : {whole k m m' k' : ℕ} → Pieces n whole k xs m → m' ≡ m → k' ≡ k + 1 → Pieces n whole k' ys m'
  pieces_next {whole} {k} {m} {m'} {k'} s e f =
      record {
        sized = e ∙ s.sized;
        placed = λ h. rw f (omega (arith, s.placed p.more, both, whole_piece h));
      }

  pub piece_inside : {whole k m : ℕ} → Pieces n whole k xs m → k * n + length x ≤ whole
  piece_inside s = omega (arith, s.placed p.more, both)

  -- what follows it
  follow : {B : Type 0} (f : ℕ → List ℕ → B) (a b : ℕ) → a + n ≡ b → ((c d : ℕ) → f c [] ≡ f d []) → f (a + length x) ys ≡ f b ys
  follow f a b e none =
      ⊎_elim
      (λ (h : 0 < length ys). ap (λ c. f c ys) (ap (λ m. a + m) (whole_piece h) ∙ e))
      (λ (h : length ys ≤ 0). let z : ys ≡ [] = nil_from_length ys (omega arith) in rw z (none (a + length x) b))
      (cases_lt 0 (length ys))

  -- the lines of rows of n cells, from row r on
  pub rows_piece : (r : ℕ) {k k' : ℕ} → r ≡ k → k' ≡ k + 1 → cell_lines n (k * n) xs ≡ row_lines r 0 x ++ cell_lines n (k' * n) ys
  unfolding cell_lines
  rows_piece r e f =
      rw (f, ← e)
      (let z : r * n ≡ r * n + 0 = omega arith in
      let inside : 0 + length x ≤ n = omega (arith, p.long) in
      ap (cell_lines n (r * n)) p.parts
      ∙ cell_lines_append n (r * n) x ys
      ∙ ap (λ a. cell_lines n (r * n) x ++ a) (follow (cell_lines n) (r * n) ((r + 1) * n) (omega arith) (λ c d. refl))
      ∙ ap (λ a. a ++ cell_lines n ((r + 1) * n) ys) (ap (λ q. cell_lines n q x) z ∙ row_from n r 0 x inside))
