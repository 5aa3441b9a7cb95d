-- What a plan of placement says of its diagram.
use Prim.Native.Nat.{ℕ, ◌+◌, ◌-◌, ◌*◌, ◌≤◌, ◌<◌}
use mathlib.Core.Path.{◌≡◌, sym, ap, ◌∙◌}
use mathlib.Core.Logic.{inl, inr}
use mathlib.Core.Bool.{Bool, true, false}
use mathlib.Core.List.{List, [], map}
use native.Mathlib.Omega.{arith}
use lib.ListN.{length, get_or, length-map}
use lib.Seq.{get_or-take}
use Rattle.common.specs.Limits.{max_nodes, max_switches, max_outputs}
use Rattle.common.specs.Lists.{bit, zeros, padded, tab}
use Rattle.diagram.specs.declared.Node.{Node}
use Rattle.diagram.specs.Diagram.{Diagram, id_count, entries, entry}
use Rattle.diagram.specs.declared.IdWires.{IdWires}
use Rattle.diagram.specs.Held.{held, no_wires, wires_of}
use Rattle.diagram.specs.Facts.{Facts}
use Rattle.diagram.specs.Wires.{row_of, column_of, row_count, column_count}
use Rattle.jobs.specs.declared.Job.{Job}
use Rattle.jobs.specs.Answer.{job_of}
use Rattle.placement.specs.Placement.{cells, out_row, crossbar}
use Rattle.placement.specs.declared.Plan.TheInside.{Inside}
use Rattle.placement.specs.Sentences.{child_at}
use Rattle.placement.specs.Plan.{planned, IsPlan}
use Rattle.placement.specs.Filling.{edge_place, with_nodes}
use Rattle.placement.proofs.Readings.{zero_rowless, out_row_of, out_row_zero, out_on_row}
use Rattle.placement.proofs.Heads.{table_padded}
use Rattle.placement.proofs.Sound.{rows_least}
use Rattle.placement.proofs.Wanted.{edge-within}
use Rattle.placement.proofs.Stores.{all_right}

-- an entry whose switch is one of a job, whose children are ids, and whose edges' cells stand in a buffer of this length
pub record NodeFits (d : Diagram) (i room : ℕ) (n : Node) : Type 0 where
  pub switch : n.x < 64
  pub low : n.l < id_count d
  pub high : n.h < id_count d
  pub low_cell : (n.l ≡ 0 → ⊥) → edge_place d i n.l < room
  pub high_cell : (n.h ≡ 0 → ⊥) → edge_place d i n.h < room

module _ (p : Inside) (d : Diagram) (view : planned p ≡ d) (plan : IsPlan p) where
  pub facts : Facts d
  facts = rw (← view) plan.facts

  pub ids_most : id_count d ≤ 256
  unfolding id_count max_nodes planned held
  ids_most = rw (← view) (omega (arith, plan.sizes.nodes_most))

  pub ids_are : id_count d ≡ length p.diagram.nodes.now + 2
  unfolding id_count planned held
  ids_are = rw (← view) (omega arith)

  pub ids_counted : (n : ℕ) → n ≡ id_count (held p.diagram []) → n ≡ length p.diagram.nodes.now + 2
  unfolding id_count held
  ids_counted n h = h ∙ omega arith

  pub row_at : (i : ℕ) → i < id_count d → (get_or p.wires.now i (record { row = 0; column = 0 })).row ≡ row_of d i
  unfolding no_wires wires_of
  row_at i below = rw view at (ap (λ (w : IdWires). w.row) (plan.numbers.number i (rw view below)))

  pub column_at : (i : ℕ) → i < id_count d → (get_or p.wires.now i (record { row = 0; column = 0 })).column ≡ column_of d i
  unfolding no_wires wires_of
  column_at i below = rw view at (ap (λ (w : IdWires). w.column) (plan.numbers.number i (rw view below)))

  pub columns_are : p.job.now.columns ≡ column_count d
  unfolding job_of
  columns_are = ap (λ (j : Job). j.columns) plan.is ∙ ap column_count view

  pub entry_at : (i : ℕ) (n : Node) → n ≡ entry (held p.diagram []) i → n ≡ entry d i
  unfolding planned held entry entries
  entry_at i n is = is ∙ ap (λ (e : Diagram). entry e i) view

  -- a node's entry fits, and the cells of its edges do a buffer that holds all cells
  pub node_fits :
      (i room : ℕ) (n : Node)
      → (2 ≤ i) × (i < id_count d)
      → row_count d * column_count d ≤ room
      → n ≡ entry (held p.diagram []) i
      → NodeFits d i room n
  unfolding max_switches
  node_fits i room n is_node fits is =
      let node = facts.node i is_node.0 is_node.1 in
      let edge = λ (side : Bool) (some : child_at d i side ≡ 0 → ⊥).
      edge-within d room fits facts i side (record { least = is_node.0; most = is_node.1; present = some }) in
      rw (entry_at i n is) (record {
        switch = omega (arith, node.tests, rw view at plan.sizes.switches_most);
        low = omega (arith, node.low_below);
        high = omega (arith, node.high_below);
        low_cell = edge false;
        high_cell = edge true;
      })

  -- all stores, into a buffer of zeros that holds all cells
  pub all_stored :
      (k room : ℕ) (s : List ℕ)
      → k ≡ length p.diagram.nodes.now
      → row_count d * column_count d ≤ room
      → s ≡ zeros room
      → with_nodes d k s ≡ padded room (cells d)
  all_stored k room s all fits none = all_right d facts room fits k s (omega (arith, ids_are)) none

  -- the outputs of the job are those of the diagram
  pub outputs_are : p.job.now.outputs ≡ length d.outs
  unfolding job_of
  outputs_are = ap (λ (j : Job). j.outputs) plan.is ∙ ap (λ (e : Diagram). length e.outs) view

  pub outputs_most : p.job.now.outputs ≤ 32
  unfolding max_outputs
  outputs_most = omega (arith, outputs_are, rw view at plan.sizes.outs_most)

  pub some_rows : 1 ≤ p.job.now.rows
  unfolding job_of
  some_rows = omega (arith, ap (λ (j : Job). j.rows) plan.is ∙ ap row_count view, rows_least d facts)

  module _ (j : ℕ) (below : j < length d.outs) where
    abbrev named : ℕ
    named = get_or d.outs j 0

    pub out_is : get_or p.job.now.outs j 0 ≡ named
    unfolding planned held
    out_is = sym (rw (← view) (get_or-take p.job.now.outputs p.job.now.outs j 0 (omega (arith, outputs_are))))

    pub out_in : get_or p.job.now.outs j 0 < id_count d
    out_in = rw out_is (facts.outs_named j below)

    pub out_of_zero : get_or p.job.now.outs j 0 ≡ 0 → p.job.now.rows - 1 ≡ out_row d named
    unfolding job_of row_count bit
    out_of_zero none =
        let zeroth : named ≡ 0 = sym out_is ∙ none in
        elim (out_on_row d facts j below) [
          | inl has ↦ absurd (cc (rw zeroth at has, zero_rowless d))
          | inr zero ↦ rw (zeroth, out_row_zero d) (rw (ap (λ (j : Job). j.rows) plan.is, view, zero.1) (omega arith))
        ]

    pub out_of_row :
        (get_or p.job.now.outs j 0 ≡ 0 → ⊥)
        → (get_or p.wires.now (get_or p.job.now.outs j 0) (record { row = 0; column = 0 })).row ≡ out_row d named
    out_of_row some =
        row_at (get_or p.job.now.outs j 0) out_in
        ∙ ap (row_of d) out_is
        ∙ elim (out_on_row d facts j below) [
          | inl has ↦ sym (out_row_of d named has)
          | inr zero ↦ absurd (some (out_is ∙ zero.0))
        ]

  -- the record, once its output rows are those of all outputs
  pub head_is :
      (rows : List ℕ)
      → rows ≡ tab max_outputs (λ j. get_or (map (out_row d) d.outs) j 0)
      → crossbar d
      ≡ record {
        rows = p.job.now.rows;
        columns = p.job.now.columns;
        switches = p.job.now.switches;
        outputs = p.job.now.outputs;
        outs = rows;
      }
  unfolding crossbar job_of
  head_is rows is =
      let short : length (map (out_row d) d.outs) ≤ max_outputs = rw (length-map d.outs (out_row d)) (rw view at plan.sizes.outs_most) in
      rw (is, table_padded max_outputs (map (out_row d) d.outs) short, plan.is, view)

-- what a plan's functions rest on
pub ruleset plans = (ids_most, ids_are, row_at, column_at, columns_are, outputs_are, outputs_most, some_rows, out_in, out_of_zero, out_of_row, entry_at)
