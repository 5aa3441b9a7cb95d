-- Document 01, "Placement": the cell at each place, and the record.
use Rattle.std.specs.Prelude.{ℕ, true, false, ◌&&◌, List, map, length, get_or, eqb, ltb}
use Rattle.common.specs.Limits.{max_outputs}
use Rattle.common.specs.Lists.{grid, padded}
use Rattle.cells.specs.declared.Cell.{Cell}
use Rattle.cells.specs.declared.Cell.TheVariants.{Off, On, Yes, No}
use Rattle.cells.specs.declared.Crossbar.{Crossbar}
use Rattle.cells.specs.Code.{code_of}
use Rattle.diagram.specs.Diagram.{Diagram, switch_at, low_at, high_at}
use Rattle.diagram.specs.Wires.{has_row, has_column, row_owners, column_owners, row_of, row_count, column_count}

-- "The edge from parent to child is `no X` for L and `yes X` for H"; off where there is no such edge
unfoldable pub edge : Diagram → ℕ → ℕ → Cell
edge d parent child =
    elim (eqb child (low_at d parent)) [
      | true ↦ No (switch_at d parent)
      | false ↦ elim (eqb child (high_at d parent)) [ true ↦ Yes (switch_at d parent) | false ↦ Off ]
    ]

-- the cell where the row of p and the column of q meet. "A `b` label has an on cell where its own row and column meet." An edge
-- "stands at the parent's row and child's column if both exist, otherwise at the child's row and parent's column": children have
-- lower ids, so where q is below p this place is that of the edge from p to q, and where q is above p it is that of the edge from q
-- to p, unless q has a row and p a column. "Terminal 0 has no wire, and edges to it have
-- no cell": p = 0 stands for the last row, which belongs to no id.
unfoldable pub meeting : Diagram → ℕ → ℕ → Cell
meeting d p q =
    elim (eqb p 0) [
      | true ↦ Off
      | false ↦
          elim (eqb p q) [
            | true ↦ On
            | false ↦
                elim (ltb q p) [
                  | true ↦ edge d p q
                  | false ↦ elim (has_row d q && has_column d p) [ true ↦ Off | false ↦ edge d q p ]
                ]
          ]
    ]

-- the code at row r and column c
unfoldable pub code_at : Diagram → ℕ → ℕ → ℕ
code_at d r c = code_of (meeting d (get_or (row_owners d) r 0) (get_or (column_owners d) c 0))

-- "Cells are stored row by row, one byte each"
unfoldable pub cells : Diagram → List ℕ
cells d = grid (row_count d) (column_count d) (code_at d)

-- "What an output reads": "An output stands on the row of the id that its line names, or for id 0 on the last row without cells"
unfoldable pub out_row : Diagram → ℕ → ℕ
out_row d i = elim (eqb i 0) [ true ↦ length (row_owners d) | false ↦ row_of d i ]

-- "The crossbar record holds R, C, V, K and 32 output rows, the unused ones 0."
unfoldable pub crossbar : Diagram → Crossbar
crossbar d =
    record {
      rows = row_count d;
      columns = column_count d;
      switches = d.switches;
      outputs = length d.outs;
      outs = padded max_outputs (map (out_row d) d.outs);
    }
