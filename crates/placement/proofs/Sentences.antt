-- Document 01, "Placement", in its own sentences: every diagram that breaks none of the grounds has them.
use Prim.Native.Nat.{ℕ, zero, suc, ◌+◌, ◌*◌, ◌≤◌, ◌<◌}
use mathlib.Core.Path.{◌≡◌, refl, sym, ap, ◌∙◌}
use mathlib.Core.Logic.{◌⊎◌, inl, inr}
use mathlib.Core.Bool.{Bool, true, false, ◌&&◌, ◌||◌}
use native.Mathlib.Nat.{pos_of_ne-zero}
use native.Mathlib.Omega.{arith}
use lib.ListN.{length, get_or, get_or-eq_default}
use lib.Dec.{eqb}
use Rattle.std.proofs.lemmas.Bool.Decides.{nat_tests}
use Rattle.std.proofs.lemmas.Bool.{cases_Bool, cases_lt, cases_eq, and_from}
use Rattle.common.specs.Lists.{bit}
use Rattle.common.proofs.Lists.{and_left, and_right, get_or-grid}
use Rattle.cells.specs.declared.Cell.TheVariants.{On}
use Rattle.cells.specs.Code.{code_of}
use Rattle.diagram.specs.Diagram.{Diagram, id_count, entry, entries, terminal, low_at, high_at, label_at}
use Rattle.diagram.specs.Faults.{alike}
use Rattle.diagram.specs.Wires.{has_row, has_column, owners, row_owners, column_owners, row_of, column_of, names_zero, row_count, column_count}
use Rattle.diagram.specs.Facts.{Facts}
use Rattle.placement.specs.Placement.{edge, meeting, code_at, cells, out_row}
use Rattle.placement.specs.Sentences.{child_at, literal, edge_row, edge_column, IsEdge, CellStands, own, step, Sentences}
use Rattle.placement.proofs.Owners.{number_below, owner_has, owner_below, owner_number, number_injective}
use Rattle.placement.proofs.Places.{within_rows, column_below, row_owner, column_owner, meeting-same, meeting_down, meeting_up, meeting_over, edge_low, edge_high, edge_none}
use Rattle.placement.proofs.Readings as readings
use Rattle.placement.proofs.Count.{wires_count}
use Rattle.placement.proofs.Labels.{label_zero, label_one, child_row}

-- the two wires of an edge from i to k: the row of one of them and the column of the other
record EdgeEnds (d : Diagram) (i k : ℕ) : Type 0 where
  p : ℕ
  q : ℕ
  row : has_row d p ≡ true
  row_most : p < id_count d
  column : has_column d q ≡ true
  column_most : q < id_count d
  at_row : edge_row d i k ≡ row_of d p
  at_column : edge_column d i k ≡ column_of d q
  holds : meeting d p q ≡ edge d i k
  ids : ((p ≡ i) × (q ≡ k)) ⊎ ((p ≡ k) × (q ≡ i))

-- two edges at one place, each from a parent to a child of lower id, have the same parent and the same child
matched :
    (i j k l p q : ℕ)
    → j < i
    → l < k
    → ((p ≡ i) × (q ≡ j)) ⊎ ((p ≡ j) × (q ≡ i))
    → ((p ≡ k) × (q ≡ l)) ⊎ ((p ≡ l) × (q ≡ k))
    → (i ≡ k) × (j ≡ l)
matched i j k l p q first second (inl x) (inl y) = (omega (arith, x.0, y.0), omega (arith, x.1, y.1))
matched i j k l p q first second (inr x) (inr y) = (omega (arith, x.1, y.1), omega (arith, x.0, y.0))
matched i j k l p q first second (inl x) (inr y) = absurd (omega (arith, x.0, x.1, y.0, y.1))
matched i j k l p q first second (inr x) (inl y) = absurd (omega (arith, x.0, x.1, y.0, y.1))

-- terminal 0 has no wire
columnless_zero : (d : Diagram) → has_column d 0 ≡ false
unfolding has_column
columnless_zero d = rw label_zero

row_not_zero : (d : Diagram) (i : ℕ) → has_row d i ≡ true → 1 ≤ i
row_not_zero d zero h = absurd (cc (readings.zero_rowless d))
row_not_zero d (suc i) h = omega arith

column_not_zero : (d : Diagram) (i : ℕ) → has_column d i ≡ true → 1 ≤ i
column_not_zero d zero h = absurd (cc (columnless_zero d))
column_not_zero d (suc i) h = omega arith

-- both wires: `b`
both_wires : (t : ℕ) → (eqb t 1 || eqb t 3 ≡ true) → (eqb t 2 || eqb t 3 ≡ true) → t ≡ 3
both_wires t row column = grind (arith, nat_tests)

module _ (d : Diagram) where
  first_column : column_of d 1 ≡ 0
  unfolding column_of owners has_column entry entries terminal
  first_column = refl

  -- "in rising id"
  rows_rise : (i k : ℕ) → i < k → has_row d i ≡ true → row_of d i < row_of d k
  unfolding row_of
  rows_rise i k lower row = number_below (has_row d) k i row lower

  columns_rise : (i k : ℕ) → i < k → has_column d i ≡ true → column_of d i < column_of d k
  unfolding column_of
  columns_rise i k lower column = number_below (has_column d) k i column lower

  -- no two ids have one row or one column
  rows_differ : (i k : ℕ) → has_row d i ≡ true → has_row d k ≡ true → row_of d i ≡ row_of d k → i ≡ k
  unfolding row_of
  rows_differ i k = number_injective (has_row d) i k

  columns_differ : (i k : ℕ) → has_column d i ≡ true → has_column d k ≡ true → column_of d i ≡ column_of d k → i ≡ k
  unfolding column_of
  columns_differ i k = number_injective (has_column d) i k

  -- each wire but the last row without cells is that of one id
  row_owned : (r : ℕ) → r < length (row_owners d) → (i : ℕ) × (i < id_count d) × (has_row d i ≡ true) × (row_of d i ≡ r)
  unfolding row_owners row_of
  row_owned r below = (
    get_or (row_owners d) r 0,
    owner_below (has_row d) (id_count d) r below,
    owner_has (has_row d) (id_count d) r below,
    owner_number (has_row d) (id_count d) r below,
  )

  column_owned : (c : ℕ) → c < column_count d → (i : ℕ) × (i < id_count d) × (has_column d i ≡ true) × (column_of d i ≡ c)
  unfolding column_count column_owners column_of
  column_owned c below = (
    get_or (column_owners d) c 0,
    owner_below (has_column d) (id_count d) c below,
    owner_has (has_column d) (id_count d) c below,
    owner_number (has_column d) (id_count d) c below,
  )

  -- "Cells are stored row by row, one byte each"
  pub stored : (r c : ℕ) → r < row_count d → c < column_count d → get_or (cells d) (r * column_count d + c) 0 ≡ code_at d r c
  unfolding cells
  stored r c h k = get_or-grid (row_count d) (column_count d) (code_at d) r c 0 h k

  -- where the row of p and the column of q meet
  code_meeting :
      (p q : ℕ)
      → has_row d p ≡ true
      → p < id_count d
      → has_column d q ≡ true
      → q < id_count d
      → code_at d (row_of d p) (column_of d q) ≡ code_of (meeting d p q)
  unfolding code_at
  code_meeting p q row p-most column q-most =
      rw (row_owner d p row p-most, column_owner d q column q-most)

  -- the wires of a `b` label
  both_row : (i : ℕ) → label_at d i ≡ 3 → (has_row d i ≡ true) × (has_column d i ≡ true)
  unfolding has_row has_column
  both_row i b = (rw b, rw b)

  -- "A `b` label has an on cell where its own row and column meet."
  pub both_on : (i : ℕ) → i < id_count d → label_at d i ≡ 3 → code_at d (row_of d i) (column_of d i) ≡ code_of On
  both_on i most b =
      let wires = both_row i b in
      code_meeting i i wires.0 most wires.1 most ∙ ap code_of (meeting-same d i (row_not_zero d i wires.0))

  -- the place of an edge, where parent's row and child's column exist, and otherwise
  place_parent : (i k : ℕ) → has_row d i && has_column d k ≡ true → (edge_row d i k ≡ row_of d i) × (edge_column d i k ≡ column_of d k)
  unfolding edge_row edge_column
  place_parent i k both = (rw (both, edge_row), rw (both, edge_column))

  place_child : (i k : ℕ) → has_row d i && has_column d k ≡ false → (edge_row d i k ≡ row_of d k) × (edge_column d i k ≡ column_of d i)
  unfolding edge_row edge_column
  place_child i k otherwise = (rw (otherwise, edge_row), rw (otherwise, edge_column))

  -- a cell that is not off is that of an edge to the low or the high child
  edge_some :
      (i k : ℕ)
      → (code_of (edge d i k) ≡ 0 → ⊥)
      → (side : Bool) × (k ≡ child_at d i side) × (code_of (edge d i k) ≡ code_of (literal d i side))
  unfolding code_of
  edge_some i k some =
      elim (cases_eq k (low_at d i)) [
        | inl e ↦ (false, e, ap code_of (edge_low d i k e))
        | inr other ↦
            elim (cases_eq k (high_at d i)) [
              | inl e ↦ (true, e, ap code_of (edge_high d i k other e))
              | inr another ↦ absurd (some (ap code_of (edge_none d i k other another)))
            ]
      ]

  -- a place of an edge from i to k whose cell is not off
  step-at :
      (i k r c : ℕ)
      → 2 ≤ i
      → i < id_count d
      → 1 ≤ k
      → r ≡ edge_row d i k
      → c ≡ edge_column d i k
      → code_at d r c ≡ code_of (edge d i k)
      → (code_at d r c ≡ 0 → ⊥)
      → CellStands d r c
  step-at i k r c least most child at_row at_column code some =
      let seen = edge_some i k (λ e. some (code ∙ e)) in
      step
      i
      seen.0
      (record { least = least; most = most; present = λ e. omega (arith, seen.1) })
      (at_row ∙ ap (edge_row d i) seen.1)
      (at_column ∙ ap (edge_column d i) seen.1)
      (code ∙ seen.2)

  -- where p's row and q's column meet in a cell that is not off
  placed_at :
      (p q : ℕ)
      → has_row d p ≡ true
      → p < id_count d
      → has_column d q ≡ true
      → q < id_count d
      → (code_at d (row_of d p) (column_of d q) ≡ 0 → ⊥)
      → CellStands d (row_of d p) (column_of d q)
  unfolding code_of has_row has_column
  placed_at p q row row_most column column_most some =
      let code = code_meeting p q row row_most column column_most in
      let p-least = row_not_zero d p row in
      let q-least = column_not_zero d q column in
      elim (cases_eq p q) [
        | inl e ↦
            let b = both_wires (label_at d p) row (rw (← e) at column) in
            rw (← e) (own p row_most b refl refl (both_on p row_most b))
        | inr apart ↦
            elim (cases_lt q p) [
              | inl lower ↦
                  let place = place_parent p q (and_from (has_row d p) (has_column d q) row column) in
                  step-at p q (row_of d p) (column_of d q) (omega arith) row_most q-least
                  (sym place.0)
                  (sym place.1)
                  (code ∙ ap code_of (meeting_down d p q lower))
                  some
              | inr higher ↦
                  elim (cases_Bool (has_row d q && has_column d p)) [
                    | inl both ↦ absurd (some (code ∙ ap code_of (meeting_over d p q p-least (omega arith) both)))
                    | inr otherwise ↦
                        let place = place_child q p otherwise in
                        step-at q p (row_of d p) (column_of d q) (omega arith) column_most p-least
                        (sym place.0)
                        (sym place.1)
                        (code ∙ ap code_of (meeting_up d p q p-least (omega arith) otherwise))
                        some
                  ]
            ]
      ]

  -- "one last row without cells": past the rows of ids every cell is off
  ownerless_off : (r c : ℕ) → length (row_owners d) ≤ r → code_at d r c ≡ 0
  unfolding code_at code_of meeting
  ownerless_off r c past = rw (get_or-eq_default (row_owners d) 0 past)

  -- a cell that is not off is the on cell of a `b` label or the literal of an edge
  pub placed : (r c : ℕ) → c < column_count d → (code_at d r c ≡ 0 → ⊥) → CellStands d r c
  placed r c within some =
      elim (cases_lt r (length (row_owners d))) [
        | inl below ↦
            let p = row_owned r below in
            let q = column_owned c within in
            rw (← p.3, ← q.3) (placed_at p.0 q.0 p.2 p.1 q.2 q.1 (rw (p.3, q.3) some))
        | inr past ↦ absurd (some (ownerless_off r c past))
      ]

  -- "All other cells are off."
  others_off : (r c : ℕ) → c < column_count d → (CellStands d r c → ⊥) → code_at d r c ≡ 0
  others_off r c within none =
      elim (cases_eq (code_at d r c) 0) [ inl off ↦ off | inr some ↦ absurd (none (placed r c within some)) ]

  -- "If any output names 0, one last row without cells serves all such outputs."
  last_row_empty :
      names_zero d ≡ true
      → (out_row d 0 ≡ length (row_owners d))
      × (row_count d ≡ out_row d 0 + 1)
      × ((c : ℕ) → c < column_count d → code_at d (out_row d 0) c ≡ 0)
  unfolding out_row row_count bit
  last_row_empty names = (refl, rw (names, row_count), λ c within. ownerless_off (length (row_owners d)) c (omega arith))

-- "Columns go to `b` terminal 1 first"
column_zero : (d : Diagram) → d.one ≡ 3 → (column_of d 1 ≡ 0) × (has_column d 1 ≡ true)
unfolding has_column
column_zero d b = (first_column d, rw (label_one, b))

-- "Row 0 belongs to terminal 1"
row_zero : (d : Diagram) → Facts d → (row_of d 1 ≡ 0) × (has_row d 1 ≡ true)
row_zero d facts = (readings.row_zero d, readings.one_row d facts)

module _ (d : Diagram) (facts : Facts d) where
  -- what holds of either child of a node
  child_below : (i : ℕ) (side : Bool) → 2 ≤ i → i < id_count d → child_at d i side < i
  child_below i false least most = (facts.node i least most).low_below
  child_below i true least most = (facts.node i least most).high_below

  child_unlike : (i : ℕ) (side : Bool) → 2 ≤ i → i < id_count d → alike (label_at d i) (label_at d (child_at d i side)) ≡ false
  child_unlike i false least most = (facts.node i least most).low_unlike
  child_unlike i true least most = (facts.node i least most).high_unlike

  -- an edge without the parent's row or the child's column has the child's row and the parent's column
  otherwise_wires :
      (i : ℕ) (side : Bool)
      → IsEdge d i side
      → has_row d i && has_column d (child_at d i side) ≡ false
      → (has_row d (child_at d i side) ≡ true) × (has_column d i ≡ true)
  otherwise_wires i side e otherwise =
      let below = child_below i side e.least e.most in
      child_row d facts i (child_at d i side) (omega arith) e.most (pos_of_ne-zero e.present) (omega arith)
      (child_unlike i side e.least e.most)
      otherwise

  -- the wires of an edge, and what its cell holds
  ends : (i : ℕ) (side : Bool) → IsEdge d i side → EdgeEnds d i (child_at d i side)
  ends i side e =
      let k = child_at d i side in
      let below : child_at d i side < i = child_below i side e.least e.most in
      let least : 1 ≤ child_at d i side = omega (arith, e.present) in
      elim (cases_Bool (has_row d i && has_column d k)) [
        | inl both ↦
            record {
              p = i;
              q = k;
              row = and_left (has_row d i) (has_column d k) both;
              row_most = e.most;
              column = and_right (has_row d i) (has_column d k) both;
              column_most = omega (arith, e.most);
              at_row = (place_parent d i k both).0;
              at_column = (place_parent d i k both).1;
              holds = meeting_down d i k below;
              ids = inl (refl, refl);
            }
        | inr otherwise ↦
            record {
              p = k;
              q = i;
              row = (otherwise_wires i side e otherwise).0;
              row_most = omega (arith, e.most);
              column = (otherwise_wires i side e otherwise).1;
              column_most = e.most;
              at_row = (place_child d i k otherwise).0;
              at_column = (place_child d i k otherwise).1;
              holds = meeting_up d k i least below otherwise;
              ids = inr (refl, refl);
            }
      ]

  edge-literal : (i : ℕ) (side : Bool) → 2 ≤ i → i < id_count d → edge d i (child_at d i side) ≡ literal d i side
  edge-literal i false least most = edge_low d i (low_at d i) refl
  edge-literal i true least most =
      edge_high d i (high_at d i) (λ e. (facts.node i least most).children_differ (sym e)) refl

  -- the cell of an edge is its literal
  pub edge-placed :
      (i : ℕ) (side : Bool)
      → IsEdge d i side
      → code_at d (edge_row d i (child_at d i side)) (edge_column d i (child_at d i side)) ≡ code_of (literal d i side)
  edge-placed i side e =
      let f = ends i side e in
      rw (f.at_row, f.at_column)
      (code_meeting d f.p f.q f.row f.row_most f.column f.column_most
      ∙ ap code_of (f.holds ∙ edge-literal i side e.least e.most))

  -- and that place is one of the crossbar
  pub edge_within :
      (i : ℕ) (side : Bool)
      → IsEdge d i side
      → (edge_row d i (child_at d i side) < row_count d) × (edge_column d i (child_at d i side) < column_count d)
  edge_within i side e =
      let f = ends i side e in
      rw (f.at_row, f.at_column)
      (within_rows d f.p f.row f.row_most, column_below d f.q f.column f.column_most)

  -- the children of a node differ
  side_of : (i k : ℕ) (a b : Bool) → 2 ≤ i → i < id_count d → i ≡ k → child_at d i a ≡ child_at d k b → a ≡ b
  side_of i k false false least most e f = refl
  side_of i k true true least most e f = refl
  side_of i k false true least most e f = absurd ((facts.node i least most).children_differ (rw (← e) at f))
  side_of i k true false least most e f = absurd ((facts.node i least most).children_differ (sym (rw (← e) at f)))

  -- no two edges stand at one place
  one_literal :
      (i k : ℕ) (a b : Bool)
      → IsEdge d i a
      → IsEdge d k b
      → edge_row d i (child_at d i a) ≡ edge_row d k (child_at d k b)
      → edge_column d i (child_at d i a) ≡ edge_column d k (child_at d k b)
      → (i ≡ k) × (a ≡ b)
  one_literal i k a b e f same_row same-column =
      let m = ends i a e in
      let n = ends k b f in
      let p : m.p ≡ n.p = rows_differ d m.p n.p m.row n.row (sym m.at_row ∙ same_row ∙ n.at_row) in
      let q : m.q ≡ n.q = columns_differ d m.q n.q m.column n.column (sym m.at_column ∙ same-column ∙ n.at_column) in
      let one =
      matched
      i
      (child_at d i a)
      k
      (child_at d k b)
      m.p
      m.q
      (child_below i a e.least e.most)
      (child_below k b f.least f.most)
      m.ids
      (rw (p, q) n.ids)
      in (one.0, side_of i k a b e.least e.most one.0 one.1)

pub sentences : (d : Diagram) → Facts d → Sentences d
sentences d facts =
    record {
      row_zero = row_zero d facts;
      rows_rise = rows_rise d;
      row_owned = row_owned d;
      last_row_empty = last_row_empty d;
      column_zero = column_zero d;
      columns_rise = columns_rise d;
      column_owned = column_owned d;
      wires_count = wires_count d facts;
      both_on = both_on d;
      edge-placed = edge-placed d facts;
      edge_within = edge_within d facts;
      otherwise_wires = otherwise_wires d facts;
      one_literal = one_literal d facts;
      others_off = others_off d;
      stored = stored d;
    }
