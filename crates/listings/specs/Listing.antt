-- Document 01, "Listing": a crossbar's text, and print's answer.
use Rattle.std.specs.Prelude.{ℕ, suc, ◌/◌, ◌%◌, not, List, [], ◌∷◌, ◌++◌, length, take, ltb}
use Rattle.common.specs.Outcome.{Outcome, done, ◌when◌, lowest, unless}
use Rattle.cells.specs.declared.Cell.{Cell}
use Rattle.cells.specs.declared.Cell.TheVariants.{Off, On, Yes, No}
use Rattle.cells.specs.declared.Crossbar.{Crossbar}
use Rattle.cells.specs.Code.{cell_of}
use Rattle.cells.specs.Record.{size, sound}
use Rattle.forms.specs.Template.{line}
use Rattle.forms.specs.Forms.{crossbar_form, on_form, yes_form, no_form, end_form, out_lines}

-- the line of a cell at row r and column c, none where it is off
unfoldable pub cell_line : ℕ → ℕ → Cell → List ℕ
cell_line r c Off = []
cell_line r c On = line on_form (r ∷ c ∷ [])
cell_line r c (Yes x) = line yes_form (r ∷ c ∷ x ∷ [])
cell_line r c (No x) = line no_form (r ∷ c ∷ x ∷ [])

-- "each cell not off in row order and then column order": the lines of the cells from place p on, of n columns
unfoldable pub cell_lines : ℕ → ℕ → List ℕ → List ℕ
cell_lines n p [] = []
cell_lines n p (k ∷ ks) = cell_line (p / n) (p % n) (cell_of k) ++ cell_lines n (suc p) ks

-- "`(crossbar R C V K)`, then each cell not off .., then `(out J r)` for each output, then `(end)`"
unfoldable pub listing : Crossbar → List ℕ → List ℕ
listing x cells =
    line crossbar_form (x.rows ∷ x.columns ∷ x.switches ∷ x.outputs ∷ [])
    ++ cell_lines x.columns 0 (take (size x) cells)
    ++ out_lines 0 (take x.outputs x.outs)
    ++ line end_form []

-- record, cells and the length of the output buffer in, text out; "Print also gives the text's length." Print checks 12, 14, line 0.
unfoldable pub print : Crossbar → List ℕ → ℕ → Outcome (List ℕ)
print x cells room =
    unless (lowest ((12 when not (sound x cells)) ∷ (14 when ltb room (length (listing x cells))) ∷ [])) 0
    (done (listing x cells))
