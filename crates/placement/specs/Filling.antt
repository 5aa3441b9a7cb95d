-- The cells as they are stored, one after another: where each cell stands in the buffer, and the buffer after each store.
use Rattle.std.specs.Prelude.{ℕ, zero, suc, ◌+◌, ◌*◌, Bool, cond, not, ◌&&◌, List, set, eqb}
use Rattle.cells.specs.declared.Cell.{Cell}
use Rattle.cells.specs.declared.Cell.TheVariants.{On, Yes, No}
use Rattle.cells.specs.Code.{code_of}
use Rattle.diagram.specs.Diagram.{Diagram, switch_at, low_at, high_at}
use Rattle.diagram.specs.Wires.{has_row, has_column, row_of, column_of, column_count}
use Rattle.placement.specs.Sentences.{has_both}

-- where the cell at the row of i and the column of k stands in the buffer
unfoldable pub cell_place : Diagram → ℕ → ℕ → ℕ
cell_place d i k = row_of d i * column_count d + column_of d k

-- where the cell of the edge from i to k stands: "at the parent's row and child's column if both exist, otherwise at the child's row and
-- parent's column"
unfoldable pub edge_place : Diagram → ℕ → ℕ → ℕ
edge_place d i k = cond (has_row d i && has_column d k) (cell_place d i k) (cell_place d k i)

-- the buffer s after one store, which there is where the test holds
unfoldable pub store_if : Bool → ℕ → ℕ → List ℕ → List ℕ
store_if test at code s = cond test (set s at code) s

-- the buffer s after the on cell of i, which only a `b` label has
unfoldable pub with_on : Diagram → ℕ → List ℕ → List ℕ
with_on d i s = store_if (has_both d i) (cell_place d i i) (code_of On) s

-- the buffer s after the cell of the edge from i to k; an edge to terminal 0 has no cell
unfoldable pub with_edge : Diagram → ℕ → ℕ → Cell → List ℕ → List ℕ
with_edge d i k cell s = store_if (not (eqb k 0)) (edge_place d i k) (code_of cell) s

-- the buffer s after the cells of a node, and after those of terminal 1 and the first k nodes
unfoldable pub with_cells : Diagram → ℕ → List ℕ → List ℕ
with_cells d i s = with_edge d i (high_at d i) (Yes (switch_at d i)) (with_edge d i (low_at d i) (No (switch_at d i)) (with_on d i s))

unfoldable pub with_nodes : Diagram → ℕ → List ℕ → List ℕ
with_nodes d zero s = with_on d 1 s
with_nodes d (suc k) s = with_cells d (k + 2) (with_nodes d k s)
