-- What the services hold of a diagram.
use Rattle.std.specs.Prelude.{ℕ, ◌+◌, ◌≤◌, ◌<◌, ◌≡◌, Bool, true, false, ◌||◌, List, [], ◌∷◌, get_or, eqb, count_by}
use Rattle.common.specs.Labels.{label_h, label_v}
use Rattle.common.specs.Lists.{bit, any_of}
use Rattle.common.specs.Outcome.{◌when◌, lowest}
use Rattle.diagram.specs.declared.Diagram.{Diagram as Holder}
use Rattle.diagram.specs.declared.Node.{Node}
use Rattle.forms.specs.declared.NodeForm.{NodeForm}
use Rattle.diagram.specs.Diagram.{Diagram, id_count, label_at}
use Rattle.diagram.specs.declared.IdWires.{IdWires}
use Rattle.diagram.specs.declared.Dimensions.{Dimensions}
use Rattle.diagram.specs.Wires.{label_has, row_of, column_of, row_count, column_count}
use Rattle.diagram.specs.Faults.{unordered, same_test, alike}

-- the diagram that is held, with outputs that name the ids outs
unfoldable pub held : Holder → List ℕ → Diagram
held d outs = record { switches = d.switches; one = d.one; nodes = d.nodes.now; outs = outs }

-- the child that a switch at 1, and one at 0, selects
unfoldable pub child_of : Bool → Node → ℕ
child_of true e = e.h
child_of false e = e.l

-- the node that a node's line gives
unfoldable pub node_given : NodeForm → Node
node_given v = record { x = v.x; l = v.l; h = v.h; t = v.t }

-- grounds 6 to 9 of a node's line
unfoldable pub later_fault : Diagram → Node → ℕ
later_fault d n =
    lowest
    ((6 when unordered d n.x n.l || unordered d n.x n.h)
    ∷ (7 when eqb n.l n.h)
    ∷ (8 when any_of (same_test n) d.nodes)
    ∷ (9 when alike n.t (label_at d n.l) || alike n.t (label_at d n.h))
    ∷ [])

-- the walk from an id goes on to children that are below the id before, and ends at the id whose child is not
pub data Ends (child : ℕ → ℕ) : ℕ → ℕ → Type 0 where
  stays : (i : ℕ) → i ≤ child i → Ends child i i
  goes : (i e : ℕ) → child i < i → Ends child (child i) e → Ends child i e

-- an entry of the wires' numbers before they are counted
unfoldable pub no_wires : IdWires
no_wires = record { row = 0; column = 0 }

-- the numbers of an id's row and column, and those of the next id after a label
unfoldable pub wires_of : Diagram → ℕ → IdWires
wires_of d i = record { row = row_of d i; column = column_of d i }

unfoldable pub wires_past : IdWires → ℕ → IdWires
wires_past w t = record { row = w.row + bit (label_has label_h t); column = w.column + bit (label_has label_v t) }

-- an array of these numbers by id
pub record WireNumbers (d : Diagram) (w : List IdWires) : Type 0 where
  pub number : (i : ℕ) → i < id_count d → get_or w i no_wires ≡ wires_of d i

-- how many of some nodes have a wire of one kind
unfoldable pub wires_among : ℕ → List Node → ℕ
wires_among kind nodes = count_by (λ (n : Node). label_has kind n.t) nodes

-- R and C
unfoldable pub dimensions_of : Diagram → Dimensions
dimensions_of d = record { rows = row_count d; columns = column_count d }
