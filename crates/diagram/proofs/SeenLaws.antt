-- Laws of the marks: one node more, and a node whose place has no mark.
use Prim.Native.Nat.{◌<◌}
use mathlib.Core.Path.{◌≡◌}
use mathlib.Core.Bool.{true, false}
use mathlib.Core.List.{List, [], ◌∷◌, ◌++◌}
use native.Mathlib.Omega.{arith}
use native.Mathlib.Nat.{mod-lt}
use lib.ListN.{length, get_or}
use Rattle.std.proofs.lemmas.Grind.{common_steps}
use Rattle.std.proofs.lemmas.Bool.Decides.{nat_tests}
use Rattle.std.proofs.lemmas.Bool.{cases_eq, cases_Bool}
use Rattle.common.specs.Lists.{any_of}
use Rattle.diagram.specs.declared.Node.{Node}
use Rattle.diagram.specs.declared.seen.Seen.{Seen}
use Rattle.diagram.specs.Diagram.{no_node}
use Rattle.diagram.specs.Faults.{same_test}
use Rattle.diagram.proofs.Tables.{any_of_by}
use Rattle.diagram.specs.Seen.{max_seen, seen_place, with_mark, Marked}

pub place_below : (m : Node) → seen_place m < max_seen
unfolding seen_place max_seen
place_below m = mod-lt _ (omega arith)

pub marked_none : (seen : Seen) → Marked seen []
marked_none seen = record { mark = λ k h. absurd (omega arith) }

-- one node more: a mark stays
pub marked_more :
    (seen : Seen) (nodes : List Node) (m : Node) → length seen.marks ≡ max_seen → Marked seen nodes → Marked (with_mark seen m) (nodes ++ (m ∷ []))
unfolding with_mark
marked_more seen nodes m long marked =
    let below = place_below m in
    record {
      mark = λ k h.
          let old = marked.mark k in
          let last = cases_eq k (length nodes) in
          let here = cases_eq (seen_place (get_or nodes k no_node)) (seen_place m) in
          grind (arith, common_steps);
    }

-- nodes with the same switch and children have the same place
same_place : (a b : Node) → same_test a b ≡ true → seen_place a ≡ seen_place b
unfolding same_test seen_place
same_place a b same = grind (arith, nat_tests)

pub unmarked :
    (seen : Seen) (nodes : List Node) (m : Node) → Marked seen nodes → get_or seen.marks (seen_place m) false ≡ false → any_of (same_test m) nodes ≡ false
unmarked seen nodes m marked none =
    any_of_by (same_test m) nodes no_node
    (λ k h.
    let mark = marked.mark k h in
    let place = same_place m (get_or nodes k no_node) in
    let tested = cases_Bool (same_test m (get_or nodes k no_node)) in
    grind arith)
