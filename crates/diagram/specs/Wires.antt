-- Document 01, "Placement": which ids have a row and a column, and how rows and columns are numbered.
use Rattle.std.specs.Prelude.{ℕ, zero, suc, ◌+◌, Bool, true, false, ◌||◌, List, [], ◌∷◌, ◌++◌, length, eqb, ltb}
use Rattle.common.specs.Labels.{label_h, label_v, label_b}
use Rattle.common.specs.Limits.{max_rows, max_columns}
use Rattle.common.specs.Lists.{bit, any_of}
use Rattle.diagram.specs.Diagram.{Diagram, id_count, label_at}

-- whether a label, and an id, has a wire of one kind, that of `h` for rows and that of `v` for columns: "Labels T: `h` a row, `v` a column,
-- `b` both." "Terminal 0 has no wire": it has no label.
abbrev pub label_has : ℕ → ℕ → Bool
label_has kind t = eqb t kind || eqb t label_b

abbrev pub has_wire : ℕ → Diagram → ℕ → Bool
has_wire kind d i = label_has kind (label_at d i)

unfoldable pub has_row : Diagram → ℕ → Bool
has_row d i = has_wire label_h d i

unfoldable pub has_column : Diagram → ℕ → Bool
has_column d i = has_wire label_v d i

-- the ids below n of which has holds, in rising order
unfoldable pub owners : (ℕ → Bool) → ℕ → List ℕ
owners has zero = []
owners has (suc i) = elim (has i) [ true ↦ owners has i ++ (i ∷ []) | false ↦ owners has i ]

-- "Row 0 belongs to terminal 1 .. Nodes labelled `h` or `b` take the next rows in rising id." "Columns go to `b` terminal 1 first,
-- then to `v` and `b` nodes in rising id."
unfoldable pub row_owners : Diagram → List ℕ
row_owners d = owners (has_row d) (id_count d)

unfoldable pub column_owners : Diagram → List ℕ
column_owners d = owners (has_column d) (id_count d)

-- so the number of an id's wire is how many lower ids have one
unfoldable pub row_of : Diagram → ℕ → ℕ
row_of d i = length (owners (has_row d) i)

unfoldable pub column_of : Diagram → ℕ → ℕ
column_of d i = length (owners (has_column d) i)

-- "If any output names 0, one last row without cells serves all such outputs."
abbrev pub any_zero : List ℕ → Bool
any_zero outs = any_of (λ i. eqb i 0) outs

unfoldable pub names_zero : Diagram → Bool
names_zero d = any_zero d.outs

-- R and C
unfoldable pub row_count : Diagram → ℕ
row_count d = length (row_owners d) + bit (names_zero d)

unfoldable pub column_count : Diagram → ℕ
column_count d = length (column_owners d)

-- Ground 11: "R or C exceeds 128"
abbrev pub exceeds : ℕ → ℕ → Bool
exceeds r c = ltb max_rows r || ltb max_columns c

unfoldable pub too_large : Diagram → Bool
too_large d = exceeds (row_count d) (column_count d)
