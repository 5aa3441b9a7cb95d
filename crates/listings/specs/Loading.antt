-- Document 01, "Listing": a listing read line by line, and load's answer.
use Rattle.std.specs.Prelude.{ℕ, zero, suc, ◌+◌, ◌*◌, Bool, true, not, ◌&&◌, List, [], ◌∷◌, ◌++◌, length, get_or, eqb, ltb}
use Rattle.std.proofs.Math.Option.{some, none}
use Rattle.common.specs.Limits.{max_outputs}
use Rattle.common.specs.Lists.{padded}
use Rattle.common.specs.Outcome.{Outcome, done, refused, ◌then◌, ◌when◌, lowest, unless}
use Rattle.figures.specs.Line.{Lines, left, ◌⏎◌, lines_of, follows}
use Rattle.cells.specs.declared.Cell.{Cell}
use Rattle.cells.specs.declared.Cell.TheVariants.{Off, On, Yes, No}
use Rattle.cells.specs.declared.Crossbar.{Crossbar}
use Rattle.cells.specs.Code.{code_of}
use Rattle.cells.specs.Record.{Whole, size, in_range}
use Rattle.forms.specs.Due.{due}
use Rattle.forms.specs.Form.{Placed, placed}
use Rattle.forms.specs.Forms.{crossbar_form, out_form, end_form}

-- a crossbar as its listing says it: the sizes, the codes of the cells from place 0 up to the last one named, the output rows
pub record Listed : Type 0 where
  pub rows : ℕ
  pub columns : ℕ
  pub switches : ℕ
  pub outputs : ℕ
  pub codes : List ℕ
  pub outs : List ℕ

-- whether a cell names only switches below v
unfoldable pub switch_below : ℕ → Cell → Bool
switch_below v Off = true
switch_below v On = true
switch_below v (Yes x) = ltb x v
switch_below v (No x) = ltb x v

-- 12 on a cell line: "A listing's cell is outside R and C, not after the cell before it, or names a switch not below V"
unfoldable pub cell_fault : Listed → Placed → ℕ
cell_fault x p =
    lowest
    ((12 when
    not
    (ltb p.row x.rows
    && ltb p.column x.columns
    && not (ltb (p.row * x.columns + p.column) (length x.codes))
    && switch_below x.switches p.cell))
    ∷ [])

-- with one cell more: off up to its place
unfoldable pub with_cell : Listed → Placed → Listed
with_cell x p =
    record {
      rows = x.rows;
      columns = x.columns;
      switches = x.switches;
      outputs = x.outputs;
      codes = padded (p.row * x.columns + p.column) x.codes ++ (code_of p.cell ∷ []);
      outs = x.outs;
    }

-- 3 and 12 on `(out J r)`: "I or J is not the next in turn", "an output row is not below R"
unfoldable pub out_row_fault : Listed → ℕ → ℕ → ℕ
out_row_fault x j r = lowest ((3 when not (eqb j (length x.outs))) ∷ (12 when not (ltb r x.rows)) ∷ [])

-- with one output more
unfoldable pub with_out_row : Listed → ℕ → Listed
with_out_row x r =
    record {
      rows = x.rows;
      columns = x.columns;
      switches = x.switches;
      outputs = x.outputs;
      codes = x.codes;
      outs = x.outs ++ (r ∷ []);
    }

-- `(end)`, and nothing after it. Ground 10: "Bytes follow `(end)`; the line is the one after it."
unfoldable pub load_end : Listed → ℕ → Lines → Outcome Listed
load_end x n ls = due end_form n ls then λ e. unless (lowest ((10 when follows e.later) ∷ [])) (n + 1) (done x)

-- k lines `(out J r)`
unfoldable pub load_outs : ℕ → Listed → ℕ → Lines → Outcome Listed
load_outs zero x n ls = load_end x n ls
load_outs (suc k) x n ls =
    due out_form n ls
    then λ o.
    unless (out_row_fault x (get_or o.vals 0 0) (get_or o.vals 1 0)) n
    (load_outs k (with_out_row x (get_or o.vals 1 0)) (n + 1) o.later)

-- cell lines, as many as there are; the first other line is due to be an output's
unfoldable pub load_cells : Listed → ℕ → Lines → Outcome Listed
load_cells x n (left s) = refused 1 n
load_cells x n (l ⏎ ls) =
    elim (placed l) [
      | some p ↦ unless (cell_fault x p) n (load_cells (with_cell x p) (n + 1) ls)
      | none ↦ load_outs x.outputs x n (l ⏎ ls)
    ]

-- the sizes of `(crossbar R C V K)`, before the first cell
unfoldable pub sized : List ℕ → Listed
sized vs =
    record {
      rows = get_or vs 0 0;
      columns = get_or vs 1 0;
      switches = get_or vs 2 0;
      outputs = get_or vs 3 0;
      codes = [];
      outs = [];
    }

-- 2 on the first line: "A figure of the first line is outside its range."
unfoldable pub size_fault : Listed → ℕ
size_fault x = lowest ((2 when not (in_range x.rows x.columns x.switches x.outputs)) ∷ [])

-- a listing whose first line is line n of the text that holds it
unfoldable pub load_from : ℕ → Lines → Outcome Listed
load_from n ls =
    due crossbar_form n ls then λ o. unless (size_fault (sized o.vals)) n (load_cells (sized o.vals) (n + 1) o.later)

-- the record and the R-as-C cells
unfoldable pub record_of : Listed → Crossbar
record_of x =
    record {
      rows = x.rows;
      columns = x.columns;
      switches = x.switches;
      outputs = x.outputs;
      outs = padded max_outputs x.outs;
    }

unfoldable pub cells_of : Listed → List ℕ
cells_of x = padded (x.rows * x.columns) x.codes

-- 14: "The output buffer is shorter than the R·C cells", line 0; room is the buffer's length
abbrev pub fitted : ℕ → Listed → Outcome Whole
fitted room x =
    unless (lowest ((14 when ltb room (size (record_of x))) ∷ [])) 0
    (done (record { head = record_of x; codes = cells_of x }))

-- a listing whose first line is line n of the text that holds it, and the length of the output buffer in: 1, 2, 3 and 12 by line, then
-- 10, then 14
abbrev pub load_at : ℕ → Lines → ℕ → Outcome Whole
load_at n ls room = load_from n ls then λ x. fitted room x

-- listing text and the length of the output buffer in
unfoldable pub load : List ℕ → ℕ → Outcome Whole
load s room = load_at 1 (lines_of s) room
