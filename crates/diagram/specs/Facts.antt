-- What holds of a diagram whose lines break none of grounds 1 to 9 and 11, as plain facts: `accepted_job` in jobs/proofs/Accepted.antt
-- shows them of every accepted job. Theorems use them, and so does the contract of the placement.
use Rattle.std.specs.Prelude.{ℕ, ◌≤◌, ◌<◌, ◌≡◌, ◌⊎◌, false, length, get_or}
use Rattle.common.specs.Labels.{label_h, label_v, label_b}
use Rattle.common.specs.Limits.{max_rows, max_columns, max_switches, max_nodes, max_outputs}
use Rattle.diagram.specs.Diagram.{Diagram, id_count, switch_at, low_at, high_at, label_at}
use Rattle.diagram.specs.Faults.{alike}
use Rattle.diagram.specs.Wires.{row_count, column_count}

-- of a node: grounds 1 (that its label is one of the three), 4 to 7 and 9
pub record NodeFacts (d : Diagram) (i : ℕ) : Type 0 where
  pub tests : switch_at d i < d.switches
  pub low_below : low_at d i < i
  pub high_below : high_at d i < i
  pub low_later : switch_at d i < switch_at d (low_at d i)
  pub high_later : switch_at d i < switch_at d (high_at d i)
  pub children_differ : low_at d i ≡ high_at d i → ⊥
  pub label_least : label_h ≤ label_at d i
  pub label_most : label_at d i ≤ label_b
  pub low_unlike : alike (label_at d i) (label_at d (low_at d i)) ≡ false
  pub high_unlike : alike (label_at d i) (label_at d (high_at d i)) ≡ false

-- of a diagram
pub record Facts (d : Diagram) : Type 0 where
  pub one_label : (d.one ≡ label_h) ⊎ (d.one ≡ label_b)
  pub node : (i : ℕ) → 2 ≤ i → i < id_count d → NodeFacts d i
  pub distinct :
      (i k : ℕ)
      → 2 ≤ i
      → i < id_count d
      → 2 ≤ k
      → k < id_count d
      → switch_at d i ≡ switch_at d k
      → low_at d i ≡ low_at d k
      → high_at d i ≡ high_at d k
      → i ≡ k
  pub outs_named : (j : ℕ) → j < length d.outs → get_or d.outs j 0 < id_count d
  pub outs_in_rows : (j : ℕ) → j < length d.outs → label_at d (get_or d.outs j 0) ≡ label_v → ⊥

-- of the sizes: grounds 2 and 11
pub record Sizes (d : Diagram) : Type 0 where
  pub switches_most : d.switches ≤ max_switches
  pub nodes_most : length d.nodes ≤ max_nodes
  pub outs_least : 1 ≤ length d.outs
  pub outs_most : length d.outs ≤ max_outputs
  pub rows_most : row_count d ≤ max_rows
  pub columns_most : column_count d ≤ max_columns
