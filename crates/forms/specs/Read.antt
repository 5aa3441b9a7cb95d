-- A line read as the form that is due.
use Rattle.std.specs.Prelude.{ℕ, ◌≡◌, true, false, List, [], ◌∷◌, ◌++◌, eqb}
use Rattle.std.proofs.Math.Option.{Option, some, none, map}
use Rattle.common.specs.declared.Fault.TheVariants as fault
use Rattle.common.specs.declared.Refusal.{Refusal}
use Rattle.common.specs.Fault.{fault_of}
use Rattle.common.specs.Outcome.{Outcome, done, refused}
use Rattle.figures.specs.Bytes.{bytes, after}
use Rattle.figures.specs.Figure.{Figured, take_figure}
use Rattle.figures.specs.Line.{Lines, left, ◌⏎◌, lines_of}
use Rattle.cells.specs.declared.Cell.{Cell}
use Rattle.cells.specs.declared.Cell.TheVariants.{Off, On, Yes, No}
use Rattle.forms.specs.declared.Form.{Form}
use Rattle.forms.specs.declared.Form.TheVariants as form
use Rattle.forms.specs.declared.LineRead.{LineRead}
use Rattle.forms.specs.Template.{Template, word, figure, label, label_of}
use Rattle.forms.specs.Due.{Taken, due}
use Rattle.forms.specs.Form.{Placed, placed, switch_of, not_due}

-- The promises of the functions of lines.

-- a cell as a form holds it
unfoldable pub capped_cell : Cell → Cell
capped_cell Off = Off
capped_cell On = On
capped_cell (Yes x) = Yes (switch_of x)
capped_cell (No x) = No (switch_of x)

abbrev pub cell_form : ℕ → ℕ → Cell → Form
cell_form r c cell = form.Cell (record { row = r; column = c; cell = cell })

-- the cell of the first line, or nothing where it is missing or no cell line
unfoldable pub placed_in : Lines → Option Placed
placed_in (left s) = none
placed_in (l ⏎ ls) = placed l

-- the refusal that a form holds; any other form is not the one due on line n
unfoldable pub refusal_in : ℕ → Form → Refusal
refusal_in n (form.Job f) = record { fault = fault.NotDue; line = n }
refusal_in n (form.One t) = record { fault = fault.NotDue; line = n }
refusal_in n (form.Node f) = record { fault = fault.NotDue; line = n }
refusal_in n (form.Out f) = record { fault = fault.NotDue; line = n }
refusal_in n form.End = record { fault = fault.NotDue; line = n }
refusal_in n (form.Size f) = record { fault = fault.NotDue; line = n }
refusal_in n (form.Cell f) = record { fault = fault.NotDue; line = n }
refusal_in n (form.Refused r) = r

-- the form that a line due yields: that of its values, made by f, or the refusal
unfoldable pub form_of : (List ℕ → Form) → Outcome Taken → Form
form_of f (done o) = f o.vals
form_of f (refused k l) = form.Refused (record { fault = fault_of k; line = l })

-- A text whose first line, number n, was read by a template t, f being the form of its values: the form g that the line yields, and what is
-- left of the text after a line that is the one due. A line that is refused stays: what is left is the text itself.
pub record LineIs (t : Template) (f : List ℕ → Form) (n : ℕ) (s : List ℕ) (g : Form) (rest : List ℕ) : Type 0 where
  pub yields : g ≡ form_of f (due t n (lines_of s))
  pub leaves : (o : Taken) → due t n (lines_of s) ≡ done o → o.later ≡ lines_of rest
  pub stays : (k l : ℕ) → due t n (lines_of s) ≡ refused k l → rest ≡ s

-- the form that a line yields as a cell line: its cell, or the refusal
unfoldable pub placed_form : ℕ → Option Placed → Form
placed_form n none = not_due n
placed_form n (some p) = cell_form p.row p.column (capped_cell p.cell)

-- the same of a text whose first line was read as a cell line
pub record CellIs (n : ℕ) (s : List ℕ) (g : Form) (rest : List ℕ) : Type 0 where
  pub yields : g ≡ placed_form n (placed_in (lines_of s))
  pub leaves : (l : List ℕ) (ls : Lines) (p : Placed) → lines_of s ≡ l ⏎ ls → placed l ≡ some p → ls ≡ lines_of rest
  pub stays : placed_in (lines_of s) ≡ none → rest ≡ s

-- What the functions behind them read at the front of a text, which goes on after the line.

-- the label that a text begins with, and what follows it
unfoldable pub first_label : List ℕ → Option Figured
first_label [] = none
first_label (b ∷ s) = elim (eqb (label_of b) 0) [ true ↦ none | false ↦ some (record { figure = label_of b; rest = s }) ]

-- the values of a line at the front of a text, and what follows its line feed
pub record Front : Type 0 where
  pub vals : List ℕ
  pub rest : List ℕ

-- with a value more before the others
abbrev pub with_value : ℕ → Option Front → Option Front
with_value v o = map (λ x. record { vals = v ∷ x.vals; rest = x.rest }) o

unfoldable pub front : Template → List ℕ → Option Front
front [] s = map (λ r. record { vals = []; rest = r }) (after (10 ∷ []) s)
front (word w ∷ []) s = map (λ r. record { vals = []; rest = r }) (after (bytes w ++ (10 ∷ [])) s)
front (word w ∷ i ∷ t) s = elim (after (bytes w) s) [ none ↦ none | some r ↦ front (i ∷ t) r ]
front (figure ∷ t) s = elim (take_figure s) [ none ↦ none | some f ↦ with_value f.figure (front t f.rest) ]
front (label ∷ t) s = elim (first_label s) [ none ↦ none | some f ↦ with_value f.figure (front t f.rest) ]

-- a form, and what follows its line
pub record FormRead : Type 0 where
  pub form : Form
  pub rest : List ℕ

abbrev pub read_of : LineRead → FormRead
read_of r = record { form = r.form; rest = r.rest.now }

-- the form of the values, made by f
unfoldable pub front_form : Template → (List ℕ → Form) → List ℕ → Option FormRead
front_form t f s = map (λ x. record { form = f x.vals; rest = x.rest }) (front t s)

-- a word and a switch after it at the end of a cell line
unfoldable pub front_switch : List ℕ → List ℕ → Option Figured
front_switch w s =
    elim (after w s) [
      | none ↦ none
      | some r ↦
          elim (take_figure r) [
            | none ↦ none
            | some f ↦ map (λ q. record { figure = switch_of f.figure; rest = q }) (after (bytes "))" ++ (10 ∷ [])) f.rest)
          ]
    ]

-- the cell that the end of a cell line says
pub record KindRead : Type 0 where
  pub cell : Cell
  pub rest : List ℕ

unfoldable pub front_kind : List ℕ → Option KindRead
front_kind s =
    elim (after (bytes " (on))" ++ (10 ∷ [])) s) [
      | some r ↦ some (record { cell = On; rest = r })
      | none ↦
          elim (front_switch (bytes " (yes ") s) [
            | some f ↦ some (record { cell = Yes f.figure; rest = f.rest })
            | none ↦ map (λ f. record { cell = No f.figure; rest = f.rest }) (front_switch (bytes " (no ") s)
          ]
    ]

-- the row and the column of a cell line, and what is left of it
pub record PlaceRead : Type 0 where
  pub row : ℕ
  pub column : ℕ
  pub rest : List ℕ

unfoldable pub front_place : List ℕ → Option PlaceRead
front_place s =
    elim (after (bytes "(cell ") s) [
      | none ↦ none
      | some q ↦
          elim (take_figure q) [
            | none ↦ none
            | some r ↦
                elim (after (bytes " ") r.rest) [
                  | none ↦ none
                  | some p ↦ map (λ c. record { row = r.figure; column = c.figure; rest = c.rest }) (take_figure p)
                ]
          ]
    ]

unfoldable pub front_cell : List ℕ → Option FormRead
front_cell s =
    elim (front_place s) [
      | none ↦ none
      | some p ↦ map (λ k. record { form = cell_form p.row p.column k.cell; rest = k.rest }) (front_kind p.rest)
    ]
