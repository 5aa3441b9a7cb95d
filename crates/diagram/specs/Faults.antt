-- Document 01, "Grounds for sending a job back", 2 to 9, for each kind of line: the lowest number that the line meets, 0 where it
-- meets none.
use Rattle.std.specs.Prelude.{ℕ, Bool, not, ◌&&◌, ◌||◌, [], ◌∷◌, length, eqb, leb, ltb}
use Rattle.common.specs.Labels.{label_h, label_v}
use Rattle.common.specs.Limits.{max_switches, max_nodes, max_outputs}
use Rattle.common.specs.Lists.{any_of}
use Rattle.common.specs.Outcome.{◌when◌, lowest}
use Rattle.diagram.specs.declared.Node.{Node}
use Rattle.diagram.specs.Diagram.{Diagram, id_count, switch_at, label_at}

-- 2: "A figure of the first line is outside its range."
unfoldable pub head_fault : ℕ → ℕ → ℕ → ℕ
head_fault v n k = lowest ((2 when not (leb v max_switches && leb n max_nodes && leb 1 k && leb k max_outputs)) ∷ [])

-- 9: "Terminal 1 .. is labelled `v`"
unfoldable pub one_fault : ℕ → ℕ
one_fault t = lowest ((9 when eqb t label_v) ∷ [])

-- "A child other than 0 and 1 has a switch not above X."
unfoldable pub unordered : Diagram → ℕ → ℕ → Bool
unordered d x child = leb 2 child && not (ltb x (switch_at d child))

-- "An earlier node has the same X, L and H."
unfoldable pub same_test : Node → Node → Bool
same_test n m = eqb n.x m.x && eqb n.l m.l && eqb n.h m.h

-- "a node and a child of it other than 0 are both `h` or both `v`"; terminal 0 has no label, so it is like no node
unfoldable pub alike : ℕ → ℕ → Bool
alike t u = eqb t u && (eqb t label_h || eqb t label_v)

-- 3 to 9 on `(node I X (L H) T)`, the diagram being what the lines before it say
unfoldable pub node_fault : Diagram → ℕ → Node → ℕ
node_fault d i n =
    lowest
    ((3 when not (eqb i (id_count d)))
    ∷ (4 when not (ltb n.x d.switches))
    ∷ (5 when not (ltb n.l i && ltb n.h i))
    ∷ (6 when unordered d n.x n.l || unordered d n.x n.h)
    ∷ (7 when eqb n.l n.h)
    ∷ (8 when any_of (same_test n) d.nodes)
    ∷ (9 when alike n.t (label_at d n.l) || alike n.t (label_at d n.h))
    ∷ [])

-- 3, 5 and 9 on `(out J I)`: "an output names an id above N + 1", "an output's node is labelled `v`"
unfoldable pub out_fault : Diagram → ℕ → ℕ → ℕ
out_fault d j i =
    lowest
    ((3 when not (eqb j (length d.outs)))
    ∷ (5 when not (ltb i (id_count d)))
    ∷ (9 when eqb (label_at d i) label_v)
    ∷ [])
