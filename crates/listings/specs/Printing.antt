-- The lines of a part of a row, as the writer of a row writes them.
use Rattle.std.specs.Prelude.{ℕ, suc, List, [], ◌∷◌, ◌++◌}
use Rattle.cells.specs.Code.{cell_of}
use Rattle.listings.specs.Listing.{cell_line}

-- the lines of the cells of row r from column c on
unfoldable pub row_lines : ℕ → ℕ → List ℕ → List ℕ
row_lines r c [] = []
row_lines r c (k ∷ ks) = cell_line r c (cell_of k) ++ row_lines r (suc c) ks
