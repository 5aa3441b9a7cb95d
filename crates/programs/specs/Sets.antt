-- The second program's text by document 01's sets of lit wires, as it was before Req 01 of document 02: "a line `(reads J v)` for each output
-- with v 1 if lit", where v is the entry of the output's row in the set after the rounds. SameBytes says that Req 01 changes no byte of it; the
-- proof is `same_bytes` in proofs/Printing.antt.
use Rattle.std.specs.Prelude.{ℕ, suc, ◌≡◌, List, [], ◌∷◌, ◌++◌, get_or, take}
use Rattle.common.specs.Outcome.{done}
use Rattle.cells.specs.declared.Crossbar.{Crossbar}
use Rattle.forms.specs.Template.{line}
use Rattle.forms.specs.Forms.{rounds_form, reads_form, end_form}
use Rattle.conduction.specs.Round.{rounds}
use Rattle.conduction.specs.Light.{Lit, joined, light}
use Rattle.programs.specs.Programs.{readings}

-- the lines `(reads J v)` from output j on
unfoldable pub set_lines : List ℕ → ℕ → List ℕ → List ℕ
set_lines set j [] = []
set_lines set j (r ∷ rs) = line reads_form (j ∷ get_or set r 0 ∷ []) ++ set_lines set (suc j) rs

-- the whole text, for a count of rounds and the set after them
unfoldable pub set_readings : Crossbar → ℕ → List ℕ → List ℕ
set_readings x count set = line rounds_form (count ∷ []) ++ set_lines set 0 (take x.outputs x.outs) ++ line end_form []

abbrev pub SameBytes : Type 0
SameBytes =
    (x : Crossbar) (cells setting : List ℕ) (room : ℕ) (a : Lit)
    → light x cells setting room ≡ done a
    → readings x a ≡ set_readings x a.count (rounds x.rows x.columns (joined x cells setting) a.count)
