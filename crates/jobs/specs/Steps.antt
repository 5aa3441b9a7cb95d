-- What the first line leaves in range, and a diagram by its parts.
use Rattle.std.specs.Prelude.{ℕ, ◌≤◌, List}
use Rattle.common.specs.Limits.{max_switches, max_nodes, max_outputs}
use Rattle.diagram.specs.declared.Node.{Node}
use Rattle.diagram.specs.Diagram.{Diagram}

-- the ranges of the first line's figures
pub record HeadRanges (v n k : ℕ) : Type 0 where
  pub switches_most : v ≤ max_switches
  pub nodes_most : n ≤ max_nodes
  pub outputs_most : k ≤ max_outputs

-- a diagram by its parts: V, the label of terminal 1, the nodes, and the ids that the outputs name
abbrev pub given : ℕ → ℕ → List Node → List ℕ → Diagram
given v one nodes outs = record { switches = v; one = one; nodes = nodes; outs = outs }
