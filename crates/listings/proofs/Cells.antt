-- Cell lines: the lines of codes put together, the places of cells, and a cell line read back.
use Prim.Native.Nat.{ℕ, zero, suc, ◌+◌, ◌*◌, ◌/◌, ◌%◌, ◌≤◌, ◌<◌}
use mathlib.Core.Path.{◌≡◌, refl, sym, ap, ◌∙◌}
use mathlib.Core.Logic.{◌⊎◌, inl, inr}
use mathlib.Core.Bool.{true}
use mathlib.Core.Option.{Option, some, none}
use mathlib.Core.List.{List, [], ◌∷◌, ◌++◌, append_assoc}
use native.Mathlib.Omega.{arith}
use lib.ListN.{length, get_or}
use borrow.Author.Tests.{lt-ltb, ltb-true}
use Rattle.common.specs.Lists.{zeros}
use Rattle.figures.specs.Bytes.{bytes, after}
use Rattle.figures.specs.Figure.{decimal, is_digit}
use Rattle.figures.specs.Line.{◌⏎◌, lines_of}
use Rattle.figures.proofs.Decimals.{no_digit_first, takes_decimal}
use Rattle.figures.proofs.Line.{lines-first}
use Rattle.cells.specs.declared.Cell.{Cell}
use Rattle.cells.specs.declared.Cell.TheVariants.{Off, On, Yes, No}
use Rattle.cells.specs.Code.{cell_of, code_of}
use Rattle.forms.specs.Template.{Template, word, figure, values, written, line}
use Rattle.forms.specs.Forms.{on_form, yes_form, no_form, out_form}
use Rattle.forms.proofs.Template.{FitsTemplate, apart, values-written, written-values, written-line, on_apart, yes_apart, no_apart, on_fits, yes_fits, no_fits, on_values, yes_values, no_values}
use Rattle.listings.specs.Listing.{cell_line, cell_lines}
use Rattle.forms.specs.Form.{Placed, placed}
use Rattle.listings.specs.Loading.{switch_below}

-- the lines of codes that follow one another
pub cell_lines_append :
    (n p : ℕ) (a b : List ℕ) → cell_lines n p (a ++ b) ≡ cell_lines n p a ++ cell_lines n (p + length a) b
unfolding cell_lines
cell_lines_append n p [] b = let e : p + 0 ≡ p = omega arith in rw e
cell_lines_append n p (k ∷ a) b =
    let e : suc p + length a ≡ p + suc (length a) = omega arith in
    rw (cell_lines_append n (suc p) a b, e) (sym (append_assoc (cell_line (p / n) (p % n) (cell_of k)) (cell_lines n (suc p) a) _))

-- off cells have no line
pub cell_lines_zeros : (n p m : ℕ) → cell_lines n p (zeros m) ≡ []
unfolding cell_lines cell_line cell_of
cell_lines_zeros n p zero = refl
cell_lines_zeros n p (suc m) = cell_lines_zeros n (suc p) m

-- a cell line up to its column, and then other items
abbrev cell_form : Template → Template
cell_form t = word "(cell " ∷ figure ∷ word " " ∷ figure ∷ t

-- a form that does not read what follows a figure does not read the figure and it
figure_front :
    (t : Template) (v : ℕ) (s : List ℕ)
    → v < 100000
    → no_digit_first s ≡ true
    → values t s ≡ none
    → values (figure ∷ t) (decimal v ++ s) ≡ none
unfolding values
figure_front t v s h d e = rw (takes_decimal v s h d, values) (rw e)

-- a cell line is not of a form whose last items do not read its last part
cell_front :
    (t u : Template) (r c : ℕ) (vs : List ℕ)
    → r < 100000
    → c < 100000
    → no_digit_first (written u vs) ≡ true
    → values t (written u vs) ≡ none
    → values (cell_form t) (written (cell_form u) (r ∷ c ∷ vs)) ≡ none
unfolding values written bytes after no_digit_first is_digit
cell_front t u r c vs hr hc d e =
    figure_front (word " " ∷ figure ∷ t) r (32 ∷ (decimal c ++ written u vs)) hr refl
    (figure_front t c (written u vs) hc d e)

-- a line (out J r) is no cell line
pub out_not_placed : (j r : ℕ) → placed (written out_form (j ∷ r ∷ [])) ≡ none
unfolding placed values written on_form yes_form no_form out_form bytes after
out_not_placed j r = refl

-- the three cell lines, read back
placed_on :
    (r c : ℕ) → r < 100000 → c < 100000 → placed (written on_form (r ∷ c ∷ [])) ≡ some (record { row = r; column = c; cell = On })
unfolding placed
placed_on r c hr hc = rw (values-written on_form (r ∷ c ∷ []) on_apart (on_fits r c hr hc), placed)

not_on_yes : (r c x : ℕ) → r < 100000 → c < 100000 → values on_form (written yes_form (r ∷ c ∷ x ∷ [])) ≡ none
unfolding on_form yes_form values written bytes after no_digit_first is_digit
not_on_yes r c x hr hc = cell_front (word " (on))" ∷ []) (word " (yes " ∷ figure ∷ word "))" ∷ []) r c (x ∷ []) hr hc refl refl

not_on_no : (r c x : ℕ) → r < 100000 → c < 100000 → values on_form (written no_form (r ∷ c ∷ x ∷ [])) ≡ none
unfolding on_form no_form values written bytes after no_digit_first is_digit
not_on_no r c x hr hc = cell_front (word " (on))" ∷ []) (word " (no " ∷ figure ∷ word "))" ∷ []) r c (x ∷ []) hr hc refl refl

not_yes_no : (r c x : ℕ) → r < 100000 → c < 100000 → values yes_form (written no_form (r ∷ c ∷ x ∷ [])) ≡ none
unfolding yes_form no_form values written bytes after no_digit_first is_digit
not_yes_no r c x hr hc =
    cell_front (word " (yes " ∷ figure ∷ word "))" ∷ []) (word " (no " ∷ figure ∷ word "))" ∷ []) r c (x ∷ []) hr hc refl refl

placed_yes :
    (r c x : ℕ)
    → r < 100000
    → c < 100000
    → x < 100000
    → placed (written yes_form (r ∷ c ∷ x ∷ [])) ≡ some (record { row = r; column = c; cell = Yes x })
unfolding placed
placed_yes r c x hr hc hx =
    rw (not_on_yes r c x hr hc, values-written yes_form (r ∷ c ∷ x ∷ []) yes_apart (yes_fits r c x hr hc hx), placed)

placed_no :
    (r c x : ℕ)
    → r < 100000
    → c < 100000
    → x < 100000
    → placed (written no_form (r ∷ c ∷ x ∷ [])) ≡ some (record { row = r; column = c; cell = No x })
unfolding placed
placed_no r c x hr hc hx =
    rw (
      not_on_no r c x hr hc,
      not_yes_no r c x hr hc,
      values-written no_form (r ∷ c ∷ x ∷ []) no_apart (no_fits r c x hr hc hx),
      placed,
    )

-- a line put in front of a text is the first of its lines
pub line_first :
    (t : Template) (vs s : List ℕ) → apart t ≡ true → FitsTemplate t vs → lines_of (line t vs ++ s) ≡ written t vs ⏎ lines_of s
unfolding line
line_first t vs s a f = rw (append_assoc (written t vs) (10 ∷ []) s) (lines-first (written t vs) s (written-line t vs a f))

-- the line of a cell in front of a text: the first of its lines, and the cell read back from it
pub record Read (r c : ℕ) (x : Cell) (s : List ℕ) : Type 0 where
  pub bytes_of : List ℕ
  pub first : lines_of (cell_line r c x ++ s) ≡ bytes_of ⏎ lines_of s
  pub back : placed bytes_of ≡ some (record { row = r; column = c; cell = x })

-- a cell is off or its line is read back
pub cell_read_lem :
    (r c v : ℕ) (x : Cell) (s : List ℕ)
    → r < 100000
    → c < 100000
    → v ≤ 100000
    → switch_below v x ≡ true
    → (x ≡ Off) ⊎ Read r c x s
unfolding cell_line switch_below
cell_read_lem r c v Off s hr hc hv b = inl refl
cell_read_lem r c v On s hr hc hv b =
    inr
    (record {
      bytes_of = written on_form (r ∷ c ∷ []);
      first = line_first on_form (r ∷ c ∷ []) s on_apart (on_fits r c hr hc);
      back = placed_on r c hr hc;
    })
cell_read_lem r c v (Yes x) s hr hc hv b =
    let hx : x < 100000 = omega (arith, ltb-true x v b) in
    inr
    (record {
      bytes_of = written yes_form (r ∷ c ∷ x ∷ []);
      first = line_first yes_form (r ∷ c ∷ x ∷ []) s yes_apart (yes_fits r c x hr hc hx);
      back = placed_yes r c x hr hc hx;
    })
cell_read_lem r c v (No x) s hr hc hv b =
    let hx : x < 100000 = omega (arith, ltb-true x v b) in
    inr
    (record {
      bytes_of = written no_form (r ∷ c ∷ x ∷ []);
      first = line_first no_form (r ∷ c ∷ x ∷ []) s no_apart (no_fits r c x hr hc hx);
      back = placed_no r c x hr hc hx;
    })

-- a code not above 1 + 2·v names a switch below v, and conversely
pub code_below : (v : ℕ) (x : Cell) → code_of x ≤ 1 + 2 * v → switch_below v x ≡ true
unfolding code_of switch_below
code_below v Off h = refl
code_below v On h = refl
code_below v (Yes x) h = lt-ltb x v (omega arith)
code_below v (No x) h = lt-ltb x v (omega arith)

pub below_code : (v : ℕ) (x : Cell) → switch_below v x ≡ true → code_of x ≤ 1 + 2 * v
unfolding code_of switch_below
below_code v Off h = omega arith
below_code v On h = omega arith
below_code v (Yes x) h = omega (arith, ltb-true x v h)
below_code v (No x) h = omega (arith, ltb-true x v h)

-- a line that a form reads is the line of its values
pub line-values :
    (t : Template) (l vs ws : List ℕ) → values t l ≡ some vs → (FitsTemplate t vs → vs ≡ ws) → l ++ (10 ∷ []) ≡ line t ws
unfolding line
line-values t l vs ws e shape =
    let w = written-values t l vs e in
    ap (λ (b : List ℕ). b ++ (10 ∷ [])) (w.0 ∙ ap (written t) (shape w.1))

-- the same place, and so the same line
same_line :
    (p q : Placed) (s : List ℕ)
    → some p ≡ some q
    → s ≡ cell_line p.row p.column p.cell
    → s ≡ cell_line q.row q.column q.cell
same_line p q s h e = let same : p ≡ q = cc in rw same at e

cell_written_by :
    (l : List ℕ) (p : Placed) (a b c : Option (List ℕ))
    → values on_form l ≡ a
    → values yes_form l ≡ b
    → values no_form l ≡ c
    → placed l ≡ some p
    → l ++ (10 ∷ []) ≡ cell_line p.row p.column p.cell
unfolding placed cell_line
cell_written_by l p (some vs) b c ea eb ec h =
    same_line (record { row = get_or vs 0 0; column = get_or vs 1 0; cell = On }) p (l ++ (10 ∷ [])) (rw (ea, placed) at h)
    (line-values on_form l vs _ ea (λ (f : FitsTemplate on_form vs). (on_values vs f).0))
cell_written_by l p none (some vs) c ea eb ec h =
    same_line (record { row = get_or vs 0 0; column = get_or vs 1 0; cell = Yes (get_or vs 2 0) }) p (l ++ (10 ∷ []))
    (rw (ea, eb, placed) at h)
    (line-values yes_form l vs _ eb (λ (f : FitsTemplate yes_form vs). (yes_values vs f).0))
cell_written_by l p none none (some vs) ea eb ec h =
    same_line (record { row = get_or vs 0 0; column = get_or vs 1 0; cell = No (get_or vs 2 0) }) p (l ++ (10 ∷ []))
    (rw (ea, eb, ec, placed) at h)
    (line-values no_form l vs _ ec (λ (f : FitsTemplate no_form vs). (no_values vs f).0))
cell_written_by l p none none none ea eb ec h =
    let q : none ≡ some p = rw (ea, eb, ec, placed) at h in
    absurd (let z : ◌≡◌ {A = ℕ} 0 1 = cc in omega arith)

-- a line that reads as a cell is that cell's line
pub cell_written : (l : List ℕ) (p : Placed) → placed l ≡ some p → l ++ (10 ∷ []) ≡ cell_line p.row p.column p.cell
cell_written l p h = cell_written_by l p (values on_form l) (values yes_form l) (values no_form l) refl refl refl h
