-- Document 01, "What an output reads": a cell conducts "on always, off never, `yes x` when switch x is 1, `no x` when it is 0".
use Rattle.std.specs.Prelude.{ℕ, ◌+◌, ◌*◌, Bool, true, false, List, get_or, eqb}
use Rattle.cells.specs.declared.Cell.{Cell}
use Rattle.cells.specs.declared.Cell.TheVariants.{Off, On, Yes, No}
use Rattle.cells.specs.Code.{cell_of}

-- whether a cell conducts under a setting, which is a byte for each switch, switch 0 first
unfoldable pub conducts : List ℕ → Cell → Bool
conducts setting Off = false
conducts setting On = true
conducts setting (Yes x) = eqb (get_or setting x 0) 1
conducts setting (No x) = eqb (get_or setting x 0) 0

-- whether the cell at row r and column c conducts, of cells stored row by row, n columns wide, one code each
unfoldable pub joins : List ℕ → ℕ → List ℕ → ℕ → ℕ → Bool
joins cells n setting r c = conducts setting (cell_of (get_or cells (r * n + c) 0))
