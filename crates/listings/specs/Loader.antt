-- What the reader of a listing holds between two lines.
use Rattle.std.specs.Prelude.{ℕ, ◌+◌, ◌*◌, ◌≤◌, ◌≡◌, Bool, List, [], ◌++◌, length, take}
use Rattle.common.specs.Lists.{zeros}
use Rattle.figures.specs.Line.{lines_of}
use Rattle.cells.specs.Record.{in_range}
use Rattle.forms.specs.declared.SizeForm.{SizeForm}
use Rattle.forms.specs.declared.CellForm.{CellForm}
use Rattle.forms.specs.Form.{Placed}
use Rattle.listings.specs.Loading.{Listed, load_outs, load_cells}

-- a listing so far: the sizes of its first line, the codes of the cells up to the last one named, the output rows
abbrev pub listed : SizeForm → List ℕ → List ℕ → Listed
listed f codes outs =
    record { rows = f.rows; columns = f.columns; switches = f.switches; outputs = f.outputs; codes = codes; outs = outs }

-- whether each figure of its first line is in its range: ground 2 is not met
abbrev pub sizes_in : SizeForm → Bool
sizes_in f = in_range f.rows f.columns f.switches f.outputs

-- the cell that a form names
abbrev pub placed_by : CellForm → Placed
placed_by f = record { row = f.row; column = f.column; cell = f.cell }

-- a buffer of that many bytes while cells are read: the codes so far and zeros after them, as many as it has room for
unfoldable pub kept : ℕ → List ℕ → List ℕ
kept room codes = take room (codes ++ zeros room)

-- the cell lines of a text from line n on are read: what is left is `rest`, from line m on, and the buffer holds the codes
pub record CellsRead (text : List ℕ) (n : ℕ) (f : SizeForm) (rest : List ℕ) (m : ℕ) (cells : List ℕ) (room : ℕ) : Type 0 where
  pub codes : List ℕ
  pub same : load_cells (listed f [] []) n (lines_of text) ≡ load_outs f.outputs (listed f codes []) m (lines_of rest)
  pub holds : cells ≡ kept room codes
  pub short : length codes ≤ f.rows * f.columns
  pub lines : m ≤ n + length codes
