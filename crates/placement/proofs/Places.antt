-- What stands at each place of a placed crossbar, and when it conducts: the ids of a row and of a column whose cell conducts are the
-- same id, or one is the step of the other under the setting.
use Prim.Native.Nat.{ℕ, zero, suc, ◌≤◌, ◌<◌}
use mathlib.Core.Path.{◌≡◌, refl, sym, ap, ◌∙◌}
use mathlib.Core.Logic.{inl, inr}
use mathlib.Core.Bool.{true, false, ◌&&◌}
use mathlib.Core.List.{List}
use native.Mathlib.Omega.{arith}
use lib.ListN.{length, get_or, get_or-eq_default}
use lib.Dec.{eqb, leb}
use borrow.Author.Tests.{eqb-true, eqb-false, eq-eqb, ne_eqb, leb-true, lt-ltb, le-ltb}
use Rattle.std.proofs.lemmas.Bool.{cases_Bool, cases_lt, cases_eq}
use Rattle.common.specs.Lists.{all_of}
use Rattle.common.proofs.Lists.{get_or-grid, all_of_at, and_right}
use Rattle.cells.specs.declared.Cell.{Cell}
use Rattle.cells.specs.declared.Cell.TheVariants.{Off, On, Yes, No}
use Rattle.cells.specs.Code.{cell_of}
use Rattle.cells.specs.Conducts.{conducts, joins}
use Rattle.cells.specs.Setting.{is_setting}
use Rattle.cells.proofs.Codes.{code_cell}
use Rattle.diagram.specs.Diagram.{Diagram, id_count, switch_at, low_at, high_at}
use Rattle.diagram.specs.Walk.{step}
use Rattle.diagram.specs.Wires.{has_row, has_column, row_owners, column_owners, row_of, column_of, row_count, column_count}
use Rattle.diagram.specs.Facts.{NodeFacts}
use Rattle.diagram.proofs.Walk.{step_low, step-high}
use Rattle.placement.specs.Placement.{edge, meeting, code_at, cells}
use Rattle.placement.proofs.Owners.{owner_at, number_below}

-- whether the cell at row r and column c conducts is said by the ids of the row and of the column
pub joined_at :
    (d : Diagram) (s : List ℕ) (r c : ℕ)
    → r < row_count d
    → c < column_count d
    → joins (cells d) (column_count d) s r c ≡ conducts s (meeting d (get_or (row_owners d) r 0) (get_or (column_owners d) c 0))
unfolding joins cells code_at
joined_at d s r c h k =
    ap (λ (x : ℕ). conducts s (cell_of x)) (get_or-grid (row_count d) (column_count d) (code_at d) r c 0 h k)
    ∙ ap (conducts s) (code_cell (meeting d (get_or (row_owners d) r 0) (get_or (column_owners d) c 0)))

-- the row of an id is a row, and its own; likewise its column
pub row_below : (d : Diagram) (i : ℕ) → has_row d i ≡ true → i < id_count d → row_of d i < length (row_owners d)
unfolding row_of row_owners
row_below d i h within = number_below (has_row d) (id_count d) i h within

pub row_owner : (d : Diagram) (i : ℕ) → has_row d i ≡ true → i < id_count d → get_or (row_owners d) (row_of d i) 0 ≡ i
unfolding row_of row_owners
row_owner d i h within = owner_at (has_row d) (id_count d) i h within

pub column_below : (d : Diagram) (i : ℕ) → has_column d i ≡ true → i < id_count d → column_of d i < column_count d
unfolding column_of column_owners column_count
column_below d i h within = number_below (has_column d) (id_count d) i h within

pub column_owner : (d : Diagram) (i : ℕ) → has_column d i ≡ true → i < id_count d → get_or (column_owners d) (column_of d i) 0 ≡ i
unfolding column_of column_owners
column_owner d i h within = owner_at (has_column d) (id_count d) i h within

pub within_rows : (d : Diagram) (i : ℕ) → has_row d i ≡ true → i < id_count d → row_of d i < row_count d
unfolding row_count
within_rows d i h within = omega (arith, row_below d i h within)

-- so where the row of one id and the column of another meet, their meeting cell conducts or not
pub joined_ids :
    (d : Diagram) (s : List ℕ) (p q : ℕ)
    → has_row d p ≡ true
    → p < id_count d
    → has_column d q ≡ true
    → q < id_count d
    → joins (cells d) (column_count d) s (row_of d p) (column_of d q) ≡ conducts s (meeting d p q)
joined_ids d s p q h below k within =
    joined_at d s (row_of d p) (column_of d q) (within_rows d p h below) (column_below d q k within)
    ∙ rw (row_owner d p h below, column_owner d q k within)

-- the meeting cell by the order of the two ids
pub meeting_none : (d : Diagram) (q : ℕ) → meeting d 0 q ≡ Off
unfolding meeting
meeting_none d q = refl

pub meeting-same : (d : Diagram) (p : ℕ) → 0 < p → meeting d p p ≡ On
unfolding meeting
meeting-same d p h = rw (ne_eqb p 0 (λ z. omega arith), eq-eqb p p refl, meeting)

pub meeting_down : (d : Diagram) (p q : ℕ) → q < p → meeting d p q ≡ edge d p q
unfolding meeting
meeting_down d p q h = rw (ne_eqb p 0 (λ z. omega arith), ne_eqb p q (λ z. omega arith), lt-ltb q p h, meeting)

pub meeting_up : (d : Diagram) (p q : ℕ) → 0 < p → p < q → has_row d q && has_column d p ≡ false → meeting d p q ≡ edge d q p
unfolding meeting
meeting_up d p q h k t =
    rw (ne_eqb p 0 (λ z. omega arith), ne_eqb p q (λ z. omega arith), le-ltb q p (omega arith), t, meeting)

pub meeting_over : (d : Diagram) (p q : ℕ) → 0 < p → p < q → has_row d q && has_column d p ≡ true → meeting d p q ≡ Off
unfolding meeting
meeting_over d p q h k t =
    rw (ne_eqb p 0 (λ z. omega arith), ne_eqb p q (λ z. omega arith), le-ltb q p (omega arith), t, meeting)

-- the edge's cell
pub edge_low : (d : Diagram) (p q : ℕ) → q ≡ low_at d p → edge d p q ≡ No (switch_at d p)
unfolding edge
edge_low d p q e = rw (eq-eqb q (low_at d p) e, edge)

pub edge_high : (d : Diagram) (p q : ℕ) → (q ≡ low_at d p → ⊥) → q ≡ high_at d p → edge d p q ≡ Yes (switch_at d p)
unfolding edge
edge_high d p q other e = rw (ne_eqb q (low_at d p) other, eq-eqb q (high_at d p) e, edge)

pub edge_none : (d : Diagram) (p q : ℕ) → (q ≡ low_at d p → ⊥) → (q ≡ high_at d p → ⊥) → edge d p q ≡ Off
unfolding edge
edge_none d p q other another = rw (ne_eqb q (low_at d p) other, ne_eqb q (high_at d p) another, edge)

-- an off cell never conducts
off_dark : (s : List ℕ) (c : Cell) → c ≡ Off → conducts s c ≡ true → ⊥
unfolding conducts
off_dark s c e h = cc (rw e at h)

-- an edge that conducts leads to the parent's step
pub edge-step : (d : Diagram) (s : List ℕ) (p q : ℕ) → conducts s (edge d p q) ≡ true → step d s p ≡ q
unfolding conducts
edge-step d s p q h =
    elim (cases_eq q (low_at d p)) [
      | inl low ↦
          let lit : eqb (get_or s (switch_at d p) 0) 0 ≡ true = rw (edge_low d p q low) at h in
          let none : get_or s (switch_at d p) 0 ≡ 0 = eqb-true (get_or s (switch_at d p) 0) 0 lit in
          step_low d s p (ne_eqb (get_or s (switch_at d p) 0) 1 (λ z. omega arith)) ∙ sym low
      | inr other ↦
          elim (cases_eq q (high_at d p)) [
            | inl high ↦
                let lit : eqb (get_or s (switch_at d p) 0) 1 ≡ true = rw (edge_high d p q other high) at h in step-high d s p lit ∙ sym high
            | inr neither ↦ absurd (off_dark s (edge d p q) (edge_none d p q other neither) h)
          ]
    ]

-- a setting has no byte above 1
pub setting_most : (v : ℕ) (s : List ℕ) (x : ℕ) → is_setting v s ≡ true → get_or s x 0 ≤ 1
unfolding is_setting
setting_most v s x h =
    elim (cases_lt x (length s)) [
      | inl k ↦
          leb-true (get_or s x 0) 1 (all_of_at (λ b. leb b 1) s x (and_right (eqb (length s) v) (all_of (λ b. leb b 1) s) h) k)
      | inr k ↦ rw (get_or-eq_default s 0 k) (omega arith)
    ]

-- and the edge to a node's step conducts
pub step-edge :
    (d : Diagram) (s : List ℕ) (i : ℕ)
    → NodeFacts d i
    → is_setting d.switches s ≡ true
    → conducts s (edge d i (step d s i)) ≡ true
unfolding conducts
step-edge d s i facts setting =
    elim (cases_Bool (eqb (get_or s (switch_at d i) 0) 1)) [
      | inl one ↦ rw (step-high d s i one, edge_high d i (high_at d i) (λ e. facts.children_differ (sym e)) refl) one
      | inr other ↦
          let differs = eqb-false (get_or s (switch_at d i) 0) 1 other in
          let none : get_or s (switch_at d i) 0 ≡ 0 = omega (arith, setting_most d.switches s (switch_at d i) setting) in
          rw
          (step_low d s i other, edge_low d i (low_at d i) refl)
          (eq-eqb (get_or s (switch_at d i) 0) 0 none)
    ]

-- how the ids of a row and a column are related whose cell conducts
pub data Joined (d : Diagram) (s : List ℕ) (p q : ℕ) : Type 0 where
  own : p ≡ q → Joined d s p q
  down : step d s p ≡ q → Joined d s p q
  up : step d s q ≡ p → Joined d s p q

pub joined : (d : Diagram) (s : List ℕ) (p q : ℕ) → conducts s (meeting d p q) ≡ true → Joined d s p q
joined d s zero q h = absurd (off_dark s (meeting d 0 q) (meeting_none d q) h)
joined d s (suc p) q h =
    elim (cases_lt q (suc p)) [
      | inl k ↦ down (edge-step d s (suc p) q (rw (meeting_down d (suc p) q k) at h))
      | inr k ↦
          elim (cases_eq (suc p) q) [
            | inl e ↦ own e
            | inr e ↦
                let above : suc p < q = omega arith in
                elim (cases_Bool (has_row d q && has_column d (suc p))) [
                  | inl t ↦ absurd (off_dark s (meeting d (suc p) q) (meeting_over d (suc p) q (omega arith) above t) h)
                  | inr t ↦ up (edge-step d s q (suc p) (rw (meeting_up d (suc p) q (omega arith) above t) at h))
                ]
          ]
    ]
