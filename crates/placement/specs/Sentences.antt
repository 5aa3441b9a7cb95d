-- Document 01, "Placement", in its own sentences, as statements about the rows, columns and cells as defined. Every diagram that breaks
-- none of the grounds has them all: `sentences` in placement/proofs/Sentences.antt.
use Rattle.std.specs.Prelude.{ℕ, ◌+◌, ◌*◌, ◌≤◌, ◌<◌, ◌≡◌, Bool, true, false, ◌&&◌, length, get_or, eqb}
use Rattle.common.specs.Labels.{label_b}
use Rattle.common.specs.Lists.{bit}
use Rattle.cells.specs.declared.Cell.{Cell}
use Rattle.cells.specs.declared.Cell.TheVariants.{On, Yes, No}
use Rattle.cells.specs.Code.{code_of}
use Rattle.diagram.specs.Diagram.{Diagram, id_count, switch_at, low_at, high_at, label_at}
use Rattle.diagram.specs.Wires.{has_row, has_column, owners, row_owners, row_of, column_of, names_zero, row_count, column_count}
use Rattle.placement.specs.Placement.{code_at, cells, out_row}

-- a label `b`, and how many of the ids have it; terminal 0 has no label, so they are terminal 1 and nodes
unfoldable pub has_both : Diagram → ℕ → Bool
has_both d i = eqb (label_at d i) label_b

unfoldable pub both_count : Diagram → ℕ
both_count d = length (owners (has_both d) (id_count d))

-- the child that an id's switch selects, and the cell of the edge to it: "`no X` for L and `yes X` for H"
abbrev pub child_at : Diagram → ℕ → Bool → ℕ
child_at d i false = low_at d i
child_at d i true = high_at d i

abbrev pub literal : Diagram → ℕ → Bool → Cell
literal d i false = No (switch_at d i)
literal d i true = Yes (switch_at d i)

-- "It stands at the parent's row and child's column if both exist, otherwise at the child's row and parent's column."
unfoldable pub edge_row : Diagram → ℕ → ℕ → ℕ
edge_row d parent child = elim (has_row d parent && has_column d child) [ true ↦ row_of d parent | false ↦ row_of d child ]

unfoldable pub edge_column : Diagram → ℕ → ℕ → ℕ
edge_column d parent child = elim (has_row d parent && has_column d child) [ true ↦ column_of d child | false ↦ column_of d parent ]

-- an edge with a cell: from a node to a child of it other than 0
pub record IsEdge (d : Diagram) (i : ℕ) (side : Bool) : Type 0 where
  pub least : 2 ≤ i
  pub most : i < id_count d
  pub present : child_at d i side ≡ 0 → ⊥

-- what stands at row r and column c where the cell there is not off: the on cell of a `b` label, or the literal of an edge
pub data CellStands (d : Diagram) (r c : ℕ) : Type 0 where
  own : (i : ℕ) → i < id_count d → label_at d i ≡ label_b → r ≡ row_of d i → c ≡ column_of d i → code_at d r c ≡ code_of On → CellStands d r c
  step :
      (i : ℕ) (side : Bool)
      → IsEdge d i side
      → r ≡ edge_row d i (child_at d i side)
      → c ≡ edge_column d i (child_at d i side)
      → code_at d r c ≡ code_of (literal d i side)
      → CellStands d r c

pub record Sentences (d : Diagram) : Type 0 where
  -- "Row 0 belongs to terminal 1"
  pub row_zero : (row_of d 1 ≡ 0) × (has_row d 1 ≡ true)
  -- "Nodes labelled `h` or `b` take the next rows in rising id.": a higher id has a higher row, and each row but the last without cells is
  -- that of one id
  pub rows_rise : (i k : ℕ) → i < k → has_row d i ≡ true → row_of d i < row_of d k
  pub row_owned : (r : ℕ) → r < length (row_owners d) → (i : ℕ) × (i < id_count d) × (has_row d i ≡ true) × (row_of d i ≡ r)
  -- "If any output names 0, one last row without cells serves all such outputs."
  pub last_row_empty :
      names_zero d ≡ true
      → (out_row d 0 ≡ length (row_owners d))
      × (row_count d ≡ out_row d 0 + 1)
      × ((c : ℕ) → c < column_count d → code_at d (out_row d 0) c ≡ 0)
  -- "Columns go to `b` terminal 1 first, then to `v` and `b` nodes in rising id."
  pub column_zero : d.one ≡ label_b → (column_of d 1 ≡ 0) × (has_column d 1 ≡ true)
  pub columns_rise : (i k : ℕ) → i < k → has_column d i ≡ true → column_of d i < column_of d k
  pub column_owned : (c : ℕ) → c < column_count d → (i : ℕ) × (i < id_count d) × (has_column d i ≡ true) × (column_of d i ≡ c)
  -- "So R rows plus C columns equal N + 1, plus the number of `b` labels (terminal 1's included), plus 1 if an output names 0."
  pub wires_count : row_count d + column_count d ≡ length d.nodes + 1 + both_count d + bit (names_zero d)
  -- "A `b` label has an on cell where its own row and column meet."
  pub both_on : (i : ℕ) → i < id_count d → label_at d i ≡ label_b → code_at d (row_of d i) (column_of d i) ≡ code_of On
  -- "The edge from parent to child is `no X` for L and `yes X` for H." It stands at a place of the crossbar, and where the parent's row and the
  -- child's column do not both exist, the child's row and the parent's column do
  pub edge-placed :
      (i : ℕ) (side : Bool)
      → IsEdge d i side
      → code_at d (edge_row d i (child_at d i side)) (edge_column d i (child_at d i side)) ≡ code_of (literal d i side)
  pub edge_within :
      (i : ℕ) (side : Bool)
      → IsEdge d i side
      → (edge_row d i (child_at d i side) < row_count d) × (edge_column d i (child_at d i side) < column_count d)
  pub otherwise_wires :
      (i : ℕ) (side : Bool)
      → IsEdge d i side
      → has_row d i && has_column d (child_at d i side) ≡ false
      → (has_row d (child_at d i side) ≡ true) × (has_column d i ≡ true)
  -- no two edges stand at one place
  pub one_literal :
      (i k : ℕ) (a b : Bool)
      → IsEdge d i a
      → IsEdge d k b
      → edge_row d i (child_at d i a) ≡ edge_row d k (child_at d k b)
      → edge_column d i (child_at d i a) ≡ edge_column d k (child_at d k b)
      → (i ≡ k) × (a ≡ b)
  -- "All other cells are off."
  pub others_off : (r c : ℕ) → c < column_count d → (CellStands d r c → ⊥) → code_at d r c ≡ 0
  -- "Cells are stored row by row, one byte each"
  pub stored : (r c : ℕ) → r < row_count d → c < column_count d → get_or (cells d) (r * column_count d + c) 0 ≡ code_at d r c
