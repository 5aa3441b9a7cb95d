-- The stores of a diagram's cells: each on cell and each edge has its place in the buffer, and all of them, stored into zeros, are its cells.
use Prim.Native.Nat.{ℕ, zero, suc, ◌+◌, ◌-◌, ◌*◌, ◌≤◌, ◌<◌}
use mathlib.Core.Path.{◌≡◌, sym, ap, ◌∙◌}
use mathlib.Core.Logic.{inl, inr}
use mathlib.Core.Bool.{Bool, true, false, not}
use mathlib.Core.List.{List}
use native.Mathlib.Omega.{arith}
use lib.ListN.{length}
use lib.Dec.{eqb}
use borrow.Author.Tests.{eqb-true, eqb-false, eq-eqb, ne_eqb, not-true}
use Rattle.std.proofs.lemmas.Bool.{not_from_false}
use Rattle.common.specs.Lists.{zeros, padded}
use Rattle.common.proofs.Lists.{at_or_below}
use Rattle.cells.specs.Code.{code_of}
use Rattle.diagram.specs.Diagram.{Diagram, id_count, label_at}
use Rattle.diagram.specs.Wires.{row_count, column_count}
use Rattle.diagram.specs.Facts.{Facts}
use Rattle.placement.specs.Placement.{cells}
use Rattle.placement.specs.Sentences.{has_both, child_at, literal, IsEdge}
use Rattle.placement.specs.Filling.{cell_place, edge_place, with_on, with_edge, with_cells, with_nodes}
use Rattle.placement.proofs.Labels.{label_zero}
use Rattle.placement.proofs.Filled.{FilledAs, Partly, Stored, partly_zeros, all_filled, one_store}
use Rattle.placement.proofs.Wanted.{Whose, of_label, of_edge, target_long, own_in, edge_in, whose}

module _ (d : Diagram) where
  -- the cells of one id more
  pub nodes_more :
      (id : ℕ) (s before after : List ℕ)
      → 2 ≤ id
      → before ≡ with_nodes d (id - 2) s
      → after ≡ with_cells d id before
      → after ≡ with_nodes d (id + 1 - 2) s
  unfolding with_nodes
  nodes_more id s before after h e f =
      let k : id + 1 - 2 ≡ suc (id - 2) = omega arith in
      let same : id - 2 + 2 ≡ id = omega arith in
      rw (k, same, ← e) f

  module _ (facts : Facts d) (room : ℕ) (fits : row_count d * column_count d ≤ room) where
    abbrev target : List ℕ
    target = padded room (cells d)

    abbrev edge_at : ℕ → Bool → ℕ
    edge_at i side = edge_place d i (child_at d i side)

    -- the edge to a child stored into a buffer
    abbrev edge_into : ℕ → Bool → List ℕ → List ℕ
    edge_into i side s = with_edge d i (child_at d i side) (literal d i side) s

    -- the places of the cells of the ids below k + 2 are filled
    record Done (k : ℕ) (s : List ℕ) : Type 0 where
      pub partly : Partly target s
      pub own : (i : ℕ) → i < k + 2 → label_at d i ≡ 3 → FilledAs target s (cell_place d i i)
      pub edge : (i : ℕ) (side : Bool) → i < k + 2 → IsEdge d i side → FilledAs target s (edge_at i side)

    on_store : (i : ℕ) (s : List ℕ) → i < id_count d → Partly target s → Stored target (has_both d i) (cell_place d i i) s (with_on d i s)
    unfolding with_on has_both code_of
    on_store i s most partly =
        one_store target (has_both d i) (cell_place d i i) 1 s partly (λ e. own_in d facts room fits i most (eqb-true (label_at d i) 3 e))

    edge_store :
        (i : ℕ) (side : Bool) (s : List ℕ)
        → 2 ≤ i
        → i < id_count d
        → Partly target s
        → Stored target (not (eqb (child_at d i side) 0)) (edge_at i side) s (edge_into i side s)
    unfolding with_edge
    edge_store i side s least most partly =
        one_store target (not (eqb (child_at d i side) 0)) (edge_at i side) (code_of (literal d i side)) s partly
        (λ e. edge_in d facts room fits i side (record { least = least; most = most; present = eqb-false (child_at d i side) 0 (not-true _ e) }))

    own_filled : (i : ℕ) (s after : List ℕ) → label_at d i ≡ 3 → Stored target (has_both d i) (cell_place d i i) s after → FilledAs target after (cell_place d i i)
    unfolding has_both
    own_filled i s after b stored = stored.filled (eq-eqb (label_at d i) 3 b)

    edge_filled :
        (i : ℕ) (side : Bool) (s after : List ℕ)
        → IsEdge d i side
        → Stored target (not (eqb (child_at d i side) 0)) (edge_at i side) s after
        → FilledAs target after (edge_at i side)
    edge_filled i side s after e stored = stored.filled (not_from_false _ (ne_eqb (child_at d i side) 0 e.present))

    -- the edge to the low child is stored, then the one to the high child
    edges_filled :
        (i : ℕ) (side : Bool) (s₀ s₁ s₂ : List ℕ)
        → IsEdge d i side
        → Stored target (not (eqb (child_at d i false) 0)) (edge_at i false) s₀ s₁
        → Stored target (not (eqb (child_at d i true) 0)) (edge_at i true) s₁ s₂
        → FilledAs target s₂ (edge_at i side)
    edges_filled i false s₀ s₁ s₂ e low high = high.kept (edge_at i false) (edge_filled i false s₀ s₁ e low)
    edges_filled i true s₀ s₁ s₂ e low high = edge_filled i true s₁ s₂ e high

    begin : Done 0 (with_on d 1 (zeros (length target)))
    unfolding id_count
    begin =
        let on = on_store 1 (zeros (length target)) (omega arith) (partly_zeros target) in
        record {
          partly = on.partly;
          own = λ i h b.
              elim (at_or_below i 1 (omega arith)) [
                | inl last ↦ rw last (own_filled 1 (zeros (length target)) _ (rw last at b) on)
                | inr below ↦ let zeroth : i ≡ 0 = omega arith in absurd (omega (arith, sym (rw zeroth at b) ∙ label_zero d))
              ];
          edge = λ i side h e. absurd (omega (arith, e.least));
        }

    -- a node's stores keep what was filled, and fill the places of its own cells
    more : (k : ℕ) (s : List ℕ) → k + 2 < id_count d → Done k s → Done (suc k) (with_cells d (k + 2) s)
    unfolding with_cells
    more k s most done =
        let s₁ = with_on d (k + 2) s in
        let s₂ = edge_into (k + 2) false s₁ in
        let s₃ = edge_into (k + 2) true s₂ in
        let on = on_store (k + 2) s most done.partly in
        let low = edge_store (k + 2) false s₁ (omega arith) most on.partly in
        let high = edge_store (k + 2) true s₂ (omega arith) most low.partly in
        record {
          partly = high.partly;
          own = λ j below b.
              elim (at_or_below j (k + 2) (omega arith)) [
                | inl last ↦
                    let q = cell_place d (k + 2) (k + 2) in rw last (high.kept q (low.kept q (own_filled (k + 2) s s₁ (rw last at b) on)))
                | inr old ↦ let q = cell_place d j j in high.kept q (low.kept q (on.kept q (done.own j old b)))
              ];
          edge = λ j side below e.
              elim (at_or_below j (k + 2) (omega arith)) [
                | inl last ↦ rw last (edges_filled (k + 2) side s₁ s₂ s₃ (rw last at e) low high)
                | inr old ↦ let q = edge_at j side in high.kept q (low.kept q (on.kept q (done.edge j side old e)))
              ];
        }

    all_done : (k : ℕ) → k + 2 ≤ id_count d → Done k (with_nodes d k (zeros (length target)))
    unfolding with_nodes
    all_done zero most = begin
    all_done (suc k) most = more k _ (omega arith) (all_done k (omega arith))

    whose_filled : (s : List ℕ) (k p : ℕ) → k + 2 ≡ id_count d → Done k s → Whose d p → FilledAs target s p
    whose_filled s k p all done (of_label i most b at) = rw at (done.own i (omega arith) b)
    whose_filled s k p all done (of_edge i side e at) = rw at (done.edge i side (omega (arith, e.most)) e)

    pub all_right : (k : ℕ) (s : List ℕ) → k + 2 ≡ id_count d → s ≡ zeros room → with_nodes d k s ≡ padded room (cells d)
    all_right k s all empty =
        let done = all_done k (omega arith) in
        ap (with_nodes d k) (empty ∙ ap zeros (sym (target_long d facts room fits)))
        ∙ all_filled target _ done.partly (λ p within some. whose_filled _ k p all done (whose d facts room fits p some))
