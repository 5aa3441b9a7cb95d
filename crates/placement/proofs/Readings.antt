-- What an output of a placed crossbar reads: a chain joins row 0 to the row of an id exactly when the walk from that id ends at
-- terminal 1.
use Prim.Native.Nat.{ℕ, zero, suc, ◌<◌}
use mathlib.Core.Path.{◌≡◌, refl, sym, ap, ◌∙◌}
use mathlib.Core.Logic.{◌⊎◌, inl, inr, ◌↔◌}
use mathlib.Core.Bool.{Bool, true, false, ◌&&◌, ◌||◌}
use mathlib.Core.List.{List}
use native.Mathlib.Omega.{arith}
use lib.ListN.{length, get_or, get_or-eq_default}
use lib.Dec.{eqb}
use borrow.Author.Tests.{eq-eqb, ne_eqb}
use Rattle.std.proofs.lemmas.Bool.{cases_Bool, cases_lt, cases_eq}
use Rattle.common.specs.Lists.{bit}
use Rattle.common.proofs.Lists.{and_left, and_right, any_of_at}
use Rattle.cells.specs.Conducts.{conducts, joins}
use Rattle.cells.specs.Setting.{is_setting}
use Rattle.diagram.specs.Diagram.{Diagram, terminal, entries, entry, id_count, label_at}
use Rattle.diagram.specs.Faults.{alike}
use Rattle.diagram.specs.Walk.{step, walk_end}
use Rattle.diagram.specs.Wires.{owners, has_row, has_column, row_owners, column_owners, row_of, column_of, names_zero, row_count, column_count}
use Rattle.diagram.specs.Facts.{Facts}
use Rattle.diagram.proofs.Walk.{facts_fall, step_cases, step_falls, walk_zero, walk_one, walk_step}
use Rattle.conduction.proofs.Chains.{chain_within}
use Rattle.conduction.specs.Chain.{Wire, row, column, Chain, here, across, back, Within}
use Rattle.placement.specs.Placement.{edge, meeting, cells, out_row}
use Rattle.placement.proofs.Owners.{owner_below}
use Rattle.placement.proofs.Labels.{Label, is_h, is_v, is_b, id_label, child_row}
use Rattle.placement.proofs.Places.{joined_at, row_owner, column_below, within_rows, joined_ids, meeting-same, meeting_down, meeting_up, step-edge, Joined, own, down, up, joined}

-- the chains of a diagram's crossbar under a setting
abbrev pub Reach : Diagram → List ℕ → Wire → Type 0
Reach d s w = Chain (row_count d) (column_count d) (joins (cells d) (column_count d) s) w

-- an id that an output may name: one with a row, or 0 where an output names it
abbrev pub OnRow : Diagram → ℕ → Type 0
OnRow d i = (has_row d i ≡ true) ⊎ ((i ≡ 0) × (names_zero d ≡ true))

-- the id of a wire; 0 of the last row without cells
unfoldable pub owner_of : Diagram → Wire → ℕ
owner_of d (row r) = get_or (row_owners d) r 0
owner_of d (column c) = get_or (column_owners d) c 0

-- terminal 0 has no row, terminal 1 has one, and it is row 0
pub zero_rowless : (d : Diagram) → has_row d 0 ≡ false
unfolding has_row entry entries terminal
zero_rowless d = refl

pub one_row : (d : Diagram) → Facts d → has_row d 1 ≡ true
unfolding has_row entry entries terminal
one_row d facts = elim facts.one_label [ inl e ↦ rw e | inr e ↦ rw e ]

pub row_zero : (d : Diagram) → row_of d 1 ≡ 0
unfolding row_of owners
row_zero d = rw (zero_rowless d, owners)

one_within : (d : Diagram) → 1 < id_count d
unfolding id_count
one_within d = omega arith

-- the walk from terminal 0 does not end at 1
walk_some : (d : Diagram) (s : List ℕ) (i : ℕ) → walk_end d s i ≡ 1 → 0 < i
walk_some d s zero e = absurd (omega (arith, walk_zero d s))
walk_some d s (suc i) e = omega arith

-- the id of any wire is an id of the diagram
owner_within : (d : Diagram) (has : ℕ → Bool) (r : ℕ) → get_or (owners has (id_count d)) r 0 < id_count d
owner_within d has r =
    elim (cases_lt r (length (owners has (id_count d)))) [
      | inl k ↦ owner_below has (id_count d) r k
      | inr k ↦ rw (get_or-eq_default (owners has (id_count d)) 0 k) (omega (arith, one_within d))
    ]

module _ (d : Diagram) (s : List ℕ) (facts : Facts d) where
  -- the ids of a row and a column whose cell conducts have walks that end alike
  joined-walk : (p q : ℕ) → p < id_count d → q < id_count d → Joined d s p q → walk_end d s p ≡ walk_end d s q
  joined-walk p q h k (own e) = ap (walk_end d s) e
  joined-walk p q h k (down e) = sym (walk_step d s facts p h) ∙ ap (walk_end d s) e
  joined-walk p q h k (up e) = ap (walk_end d s) (sym e) ∙ walk_step d s facts q k

  cell_walk :
      (r c : ℕ)
      → r < row_count d
      → c < column_count d
      → joins (cells d) (column_count d) s r c ≡ true
      → walk_end d s (owner_of d (row r)) ≡ walk_end d s (owner_of d (column c))
  unfolding owner_of row_owners column_owners
  cell_walk r c h k e =
      joined-walk
      (owner_of d (row r))
      (owner_of d (column c))
      (owner_within d (has_row d) r)
      (owner_within d (has_column d) c)
      (joined d s (owner_of d (row r)) (owner_of d (column c)) (sym (joined_at d s r c h k) ∙ e))

  some_row : 0 < row_count d
  some_row = omega (arith, within_rows d 1 (one_row d facts) (one_within d))

  -- along a chain the walk from the id of the wire ends at terminal 1
  pub owner_walk : {w : Wire} → Reach d s w → walk_end d s (owner_of d w) ≡ 1
  unfolding owner_of Within
  owner_walk here =
      ap (walk_end d s) (rw (row_zero d) at (row_owner d 1 (one_row d facts) (one_within d))) ∙ walk_one d s
  owner_walk (across {r} {c} chain k e) =
      sym (cell_walk r c (chain_within _ _ _ some_row (row r) chain) k e) ∙ owner_walk chain
  owner_walk (back {r} {c} chain h e) =
      cell_walk r c h (chain_within _ _ _ some_row (column c) chain) e ∙ owner_walk chain

  pub chain_walk : (r : ℕ) → Reach d s (row r) → walk_end d s (get_or (row_owners d) r 0) ≡ 1
  unfolding owner_of
  chain_walk r chain = owner_walk chain

-- that chains join row 0 to the wires that an id has
record LitWire (d : Diagram) (s : List ℕ) (i : ℕ) : Type 0 where
  at_row : has_row d i ≡ true → Reach d s (row (row_of d i))
  at_column : has_column d i ≡ true → Reach d s (column (column_of d i))

module _ (d : Diagram) (s : List ℕ) (facts : Facts d) (setting : is_setting d.switches s ≡ true) where
  -- one step of a chain, from the row of p to the column of q and back, where their meeting cell conducts
  crossing :
      (p q : ℕ)
      → has_row d p ≡ true
      → p < id_count d
      → has_column d q ≡ true
      → q < id_count d
      → conducts s (meeting d p q) ≡ true
      → (Reach d s (row (row_of d p)) → Reach d s (column (column_of d q)))
      × (Reach d s (column (column_of d q)) → Reach d s (row (row_of d p)))
  crossing p q has below col within e =
      let joins = joined_ids d s p q has below col within ∙ e in
      (λ chain. across chain (column_below d q col within) joins, λ chain. back chain (within_rows d p has below) joins)

  -- from one wire of an id to the other, by the on cell of a `b`
  own_cell : (i : ℕ) → 0 < i → conducts s (meeting d i i) ≡ true
  unfolding conducts
  own_cell i some = rw (meeting-same d i some)

  from_row : (i : ℕ) → 0 < i → i < id_count d → has_row d i ≡ true → Reach d s (row (row_of d i)) → LitWire d s i
  from_row i some within has chain =
      record { at_row = λ _. chain; at_column = λ col. (crossing i i has within col within (own_cell i some)).0 chain }

  from_column : (i : ℕ) → 0 < i → i < id_count d → has_column d i ≡ true → Reach d s (column (column_of d i)) → LitWire d s i
  from_column i some within has chain =
      record { at_row = λ r. (crossing i i r within has within (own_cell i some)).1 chain; at_column = λ _. chain }

  lit_one : LitWire d s 1
  lit_one = from_row 1 (omega arith) (one_within d) (one_row d facts) (rw (row_zero d) here)

  -- from a child of a node to the node, where the edge between them conducts
  lit_parent :
      (i k : ℕ)
      → i < id_count d
      → 0 < k
      → k < i
      → alike (label_at d i) (label_at d k) ≡ false
      → conducts s (edge d i k) ≡ true
      → LitWire d s k
      → LitWire d s i
  lit_parent i k within some below e lit child =
      elim (cases_Bool (has_row d i && has_column d k)) [
        | inl t ↦
            let i-row = and_left (has_row d i) (has_column d k) t in
            let k-column = and_right (has_row d i) (has_column d k) t in
            from_row i (omega arith) within i-row
            ((crossing i k i-row within k-column (omega arith) (rw (meeting_down d i k below) lit)).1 (child.at_column k-column))
        | inr t ↦
            let others = child_row d facts i k (omega arith) within some (omega arith) e t in
            from_column i (omega arith) within others.1
            ((crossing k i others.0 (omega arith) others.1 within (rw (meeting_up d k i some below t) lit)).0 (child.at_row others.0))
      ]

  -- where the walk from an id ends at 1, chains join row 0 to its wires: by induction on a bound of the id
  lit_below : (n i : ℕ) → i < n → i < id_count d → walk_end d s i ≡ 1 → LitWire d s i
  lit_below zero i below within ends = absurd (omega arith)
  lit_below (suc n) zero below within ends = absurd (omega (arith, walk_some d s 0 ends))
  lit_below (suc n) (suc zero) below within ends = lit_one
  lit_below (suc n) (suc (suc j)) below within ends =
      let i = suc (suc j) in
      let f = facts.node i (omega arith) within in
      let k = step d s i in
      let falls : k < i = step_falls d s (facts_fall d facts) i (omega arith) within in
      let same : walk_end d s k ≡ 1 = walk_step d s facts i within ∙ ends in
      let some : 0 < k = walk_some d s k same in
      let differ : alike (label_at d i) (label_at d k) ≡ false =
      step_cases (λ x. alike (label_at d i) (label_at d x) ≡ false) d s i f.low_unlike f.high_unlike in
      lit_parent i k within some falls differ (step-edge d s i f setting) (lit_below n k (omega arith) (omega arith) same)

  pub walk_chain :
      (i : ℕ)
      → i < id_count d
      → walk_end d s i ≡ 1
      → (has_row d i ≡ true → Reach d s (row (row_of d i))) × (has_column d i ≡ true → Reach d s (column (column_of d i)))
  walk_chain i within ends = let lit = lit_below (suc i) i (omega arith) within ends in (lit.at_row, lit.at_column)

-- the row of an output: of an id with a row, and of 0
pub out_row_of : (d : Diagram) (i : ℕ) → has_row d i ≡ true → out_row d i ≡ row_of d i
unfolding out_row
out_row_of d zero has = absurd (cc (zero_rowless d))
out_row_of d (suc i) has = rw (ne_eqb (suc i) 0 (λ z. omega arith), out_row)

pub out_row_zero : (d : Diagram) → out_row d 0 ≡ length (row_owners d)
unfolding out_row
out_row_zero d = refl

-- "Under a setting the output reads 1 when such a chain joins row 0 to its row": exactly when its walk ends at one
pub reads :
    (d : Diagram) (s : List ℕ)
    → Facts d
    → is_setting d.switches s ≡ true
    → (i : ℕ)
    → i < id_count d
    → OnRow d i
    → Reach d s (row (out_row d i)) ↔ (walk_end d s i ≡ 1)
reads d s facts setting i within (inl has) =
    rw
    (out_row_of d i has) (
      λ chain. ap (walk_end d s) (sym (row_owner d i has within)) ∙ chain_walk d s facts (row_of d i) chain,
      λ ends. (walk_chain d s facts setting i within ends).0 has,
    )
reads d s facts setting i within (inr (e, named)) =
    rw
    (e, out_row_zero d) (
      λ chain.
          ap (walk_end d s) (sym (get_or-eq_default (row_owners d) 0 (omega arith)))
          ∙ chain_walk d s facts (length (row_owners d)) chain,
      λ ends. absurd (omega (arith, walk_some d s 0 ends)),
    )

-- the row of an output is a row of the crossbar
pub out_row-below : (d : Diagram) (i : ℕ) → i < id_count d → OnRow d i → out_row d i < row_count d
unfolding row_count bit
out_row-below d i within (inl has) = rw (out_row_of d i has) (within_rows d i has within)
out_row-below d i within (inr (e, named)) = rw (e, out_row_zero d, named) (omega arith)

-- the outputs of an accepted diagram name such ids
pub out_on_row : (d : Diagram) → Facts d → (j : ℕ) → j < length d.outs → OnRow d (get_or d.outs j 0)
unfolding has_row names_zero
out_on_row d facts j k =
    let i = get_or d.outs j 0 in
    elim (cases_eq i 0) [
      | inl e ↦ inr (e, any_of_at (λ x. eqb x 0) d.outs j 0 k (eq-eqb i 0 e))
      | inr e ↦ inl (not_column (id_label d facts i (omega arith) (facts.outs_named j k)) (facts.outs_in_rows j k))
    ]
  where
    not_column : {t : ℕ} → Label t → (t ≡ 2 → ⊥) → eqb t 1 || eqb t 3 ≡ true
    not_column is_h other = refl
    not_column is_v other = absurd (other refl)
    not_column is_b other = refl
