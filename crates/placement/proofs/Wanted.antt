-- What is to stand at each place of the buffer: the on cell of a `b` label, the literal of an edge, or 0.
use Prim.Native.Nat.{ℕ, zero, suc, ◌+◌, ◌*◌, ◌/◌, ◌%◌, ◌≤◌, ◌<◌}
use mathlib.Core.Path.{◌≡◌, sym, ap, ◌∙◌}
use mathlib.Core.Logic.{inl, inr}
use mathlib.Core.Bool.{Bool, ◌&&◌}
use native.Mathlib.Omega.{arith}
use native.Mathlib.Nat.{div-add-mod', div-lt_iff_lt-mul, mod-lt}
use lib.Arith.{digits_lt}
use lib.ListN.{length, get_or, get_or-eq_default}
use Rattle.std.proofs.lemmas.Bool.{cases_Bool, cases_lt}
use Rattle.common.specs.Lists.{padded}
use Rattle.common.proofs.Lists.{length-grid, length-padded, get_or-padded, get_or-padded_any}
use Rattle.cells.specs.Code.{code_of}
use Rattle.diagram.specs.Diagram.{Diagram, id_count, label_at}
use Rattle.diagram.specs.Wires.{has_row, has_column, row_of, column_of, row_count, column_count}
use Rattle.diagram.specs.Facts.{Facts}
use Rattle.placement.specs.Placement.{code_at, cells}
use Rattle.placement.specs.Filling.{cell_place, edge_place}
use Rattle.placement.proofs.Places.{within_rows, column_below}
use Rattle.placement.specs.Sentences.{child_at, literal, edge_row, edge_column, IsEdge, CellStands, own, step}
use Rattle.placement.proofs.Sentences.{stored, both_on, placed, edge-placed, edge_within}

-- each place of a grid is that of a row and a column
in_grid : (m n p : ℕ) → p < m * n → (p / n < m) × (p % n < n) × (p ≡ p / n * n + p % n)
in_grid m zero p h = absurd (omega arith)
in_grid m (suc n) p h = ((div-lt_iff_lt-mul {k = suc n} (omega arith)).1 h, mod-lt p (omega arith), sym (div-add-mod' p (suc n)))

-- the place of an edge, by its row and its column
edge-place : (d : Diagram) (i k : ℕ) → edge_place d i k ≡ edge_row d i k * column_count d + edge_column d i k
unfolding edge_place cell_place edge_row edge_column
edge-place d i k =
    elim (cases_Bool (has_row d i && has_column d k)) [
      | inl both ↦ rw (both, edge_row, edge_column)
      | inr otherwise ↦ rw (otherwise, edge_row, edge_column)
    ]

-- whose cell stands at a place of the buffer
pub data Whose (d : Diagram) (p : ℕ) : Type 0 where
  of_label : (i : ℕ) → i < id_count d → label_at d i ≡ 3 → p ≡ cell_place d i i → Whose d p
  of_edge : (i : ℕ) (side : Bool) → IsEdge d i side → p ≡ edge_place d i (child_at d i side) → Whose d p

-- the place of an on cell, and that of an edge, is within a buffer that holds all cells
module _ (d : Diagram) (room : ℕ) (fits : row_count d * column_count d ≤ room) where
  place_within : (r c : ℕ) → r < row_count d → c < column_count d → r * column_count d + c < room
  place_within r c h k = omega (arith, digits_lt h k)

  pub own_within : (i : ℕ) → i < id_count d → label_at d i ≡ 3 → cell_place d i i < room
  unfolding cell_place has_row has_column
  own_within i most b =
      place_within (row_of d i) (column_of d i) (within_rows d i (rw b) most) (column_below d i (rw b) most)

  pub edge-within : Facts d → (i : ℕ) (side : Bool) → IsEdge d i side → edge_place d i (child_at d i side) < room
  edge-within facts i side e =
      let k = child_at d i side in
      let at = edge_within d facts i side e in
      rw (edge-place d i k) (place_within (edge_row d i k) (edge_column d i k) at.0 at.1)

module _ (d : Diagram) (facts : Facts d) (room : ℕ) (fits : row_count d * column_count d ≤ room) where
  cells_long : length (cells d) ≡ row_count d * column_count d
  unfolding cells
  cells_long = length-grid (row_count d) (column_count d) (code_at d)

  pub target_long : length (padded room (cells d)) ≡ room
  target_long = length-padded room (cells d) (omega (arith, cells_long))

  -- what is to stand at the place of a row and a column
  target_at :
      (r c : ℕ) → r < row_count d → c < column_count d → get_or (padded room (cells d)) (r * column_count d + c) 0 ≡ code_at d r c
  target_at r c h k =
      let within : r * column_count d + c < length (cells d) = omega (arith, cells_long, digits_lt h k) in
      get_or-padded room (cells d) (r * column_count d + c) 0 within ∙ stored d r c h k

  pub own_in :
      (i : ℕ)
      → i < id_count d
      → label_at d i ≡ 3
      → (cell_place d i i < length (padded room (cells d))) × (get_or (padded room (cells d)) (cell_place d i i) 0 ≡ 1)
  unfolding cell_place has_row has_column code_of
  own_in i most b = (
    rw target_long (own_within d room fits i most b),
    target_at (row_of d i) (column_of d i) (within_rows d i (rw b) most) (column_below d i (rw b) most) ∙ both_on d i most b,
  )

  pub edge_in :
      (i : ℕ) (side : Bool)
      → IsEdge d i side
      → (edge_place d i (child_at d i side) < length (padded room (cells d)))
      × (get_or (padded room (cells d)) (edge_place d i (child_at d i side)) 0 ≡ code_of (literal d i side))
  edge_in i side e =
      let k = child_at d i side in
      let at = edge_within d facts i side e in (
        rw target_long (edge-within d room fits facts i side e),
        rw (edge-place d i k) (target_at (edge_row d i k) (edge_column d i k) at.0 at.1 ∙ edge-placed d facts i side e),
      )

  whose_at : (r c p : ℕ) → p ≡ r * column_count d + c → CellStands d r c → Whose d p
  unfolding cell_place
  whose_at r c p e (own i most b at_row at_column code) = of_label i most b (e ∙ rw (at_row, at_column))
  whose_at r c p e (step i side is_edge at_row at_column code) =
      of_edge i side is_edge (e ∙ rw (at_row, at_column) (sym (edge-place d i (child_at d i side))))

  -- "All other cells are off", and bytes past R·C are 0
  pub whose : (p : ℕ) → (get_or (padded room (cells d)) p 0 ≡ 0 → ⊥) → Whose d p
  whose p some =
      elim (cases_lt p (row_count d * column_count d)) [
        | inl within ↦
            let at = in_grid (row_count d) (column_count d) p within in
            let r = p / column_count d in
            let c = p % column_count d in
            let code : get_or (padded room (cells d)) p 0 ≡ code_at d (p / column_count d) (p % column_count d) =
            ap (λ (q : ℕ). get_or (padded room (cells d)) q 0) at.2 ∙ target_at r c at.0 at.1 in
            whose_at r c p at.2 (placed d r c at.1 (λ off. some (code ∙ off)))
        | inr past ↦ absurd (some (get_or-padded_any room (cells d) p ∙ get_or-eq_default (cells d) 0 (omega (arith, cells_long))))
      ]
