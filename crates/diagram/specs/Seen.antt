-- Marks that make ground 8 quick: each node has a place by its switch and children, and the places of the nodes so far are marked. A
-- node whose place has no mark is like none of them.
use Rattle.std.specs.Prelude.{ℕ, ◌+◌, ◌*◌, ◌%◌, ◌<◌, ◌≡◌, true, false, List, length, get_or, set, replicate}
use Rattle.diagram.specs.declared.Node.{Node}
use Rattle.diagram.specs.declared.seen.Seen.{Seen}
use Rattle.diagram.specs.Diagram.{no_node}

-- how many places there are; a few times as many as nodes, so that few places are shared
unfoldable pub max_seen : ℕ
max_seen = 4096

-- the place of a node
unfoldable pub seen_place : Node → ℕ
seen_place n = (n.x * 1021 + n.l * 131 + n.h * 7) % max_seen

-- no marks, and one mark more
unfoldable pub no_marks : Seen
no_marks = record { marks = replicate max_seen false }

unfoldable pub with_mark : Seen → Node → Seen
with_mark seen n = record { marks = set seen.marks (seen_place n) true }

-- the place of each of these nodes is marked
pub record Marked (seen : Seen) (nodes : List Node) : Type 0 where
  pub mark : (k : ℕ) → k < length nodes → get_or seen.marks (seen_place (get_or nodes k no_node)) false ≡ true
