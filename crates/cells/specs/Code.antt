-- Document 01, "Placement": "Cell codes: off 0, on 1, yes x 2 + 2·x, no x 3 + 2·x."
use Rattle.std.specs.Prelude.{ℕ, ◌+◌, ◌-◌, ◌*◌, ◌/◌, ◌%◌, true, false, eqb}
use Rattle.cells.specs.declared.Cell.{Cell}
use Rattle.cells.specs.declared.Cell.TheVariants.{Off, On, Yes, No}

unfoldable pub code_of : Cell → ℕ
code_of Off = 0
code_of On = 1
code_of (Yes x) = 2 + 2 * x
code_of (No x) = 3 + 2 * x

-- the cell of a code
unfoldable pub cell_of : ℕ → Cell
cell_of k =
    elim (eqb k 0) [
      | true ↦ Off
      | false ↦ elim (eqb k 1) [ true ↦ On | false ↦ elim (eqb (k % 2) 0) [ true ↦ Yes ((k - 2) / 2) | false ↦ No ((k - 3) / 2) ] ]
    ]
