-- The ground that a node's line and an output's line meet, test by test.
use Prim.Native.Nat.{ℕ, ◌<◌, ◌≤◌}
use mathlib.Core.Path.{◌≡◌, refl, sym, ◌∙◌}
use mathlib.Core.Bool.{Bool, true, false, not, cond, ◌&&◌, ◌||◌}
use mathlib.Core.List.{List, [], ◌∷◌}
use native.Mathlib.Omega.{arith}
use lib.Dec.{eqb, leb, ltb}
use Rattle.std.specs.Prelude.{Ok, Err}
use Rattle.std.proofs.lemmas.Bool.Decides.{nat_tests}
use Rattle.common.specs.declared.Fault.TheVariants as fault
use Rattle.common.specs.Fault.{tested, faults, fault_of}
use Rattle.common.specs.Outcome.{Ground, ◌when◌, lowest}
use Rattle.diagram.specs.declared.Node.{Node}
use Rattle.diagram.specs.declared.Diagram.{Diagram as Holder}
use Rattle.diagram.specs.Diagram.{Diagram, entries, entry, id_count, switch_at, label_at}
use Rattle.diagram.specs.Faults.{unordered, node_fault, same_test, alike, out_fault}
use Rattle.diagram.specs.Held.{held, later_fault}
use Rattle.diagram.proofs.Walk.{switch_terminal}
use lib.ListN.{length}
use borrow.Author.Tests.{eq-eqb, ne_eqb, lt-ltb, le-ltb}
use Rattle.common.specs.Lists.{any_of}

-- a terminal's switch is above every node's, so ground 6 needs no test for the terminals
pub unordered_by_switch : (d : Diagram) (x k : ℕ) → x < d.switches → unordered d x k ≡ leb (switch_at d k) x
unfolding unordered
unordered_by_switch d x k within = let end = switch_terminal d k in grind (arith, nat_tests)

-- grounds that are tested in turn, and the fault of each number
pub tested_lowest : (k : ℕ) (b : Bool) (gs : List Ground) → tested (lowest ((k when b) ∷ gs)) ≡ cond b (tested k) (tested (lowest gs))
unfolding lowest
tested_lowest k true gs = refl
tested_lowest k false gs = refl

pub tested_none : tested (lowest []) ≡ Ok tt
unfolding lowest tested
tested_none = refl

pub tested_numbers :
    (tested 2 ≡ Err fault.OutOfRange)
    × (tested 3 ≡ Err fault.OutOfTurn)
    × (tested 4 ≡ Err fault.NoSwitch)
    × (tested 5 ≡ Err fault.NoId)
    × (tested 6 ≡ Err fault.Unordered)
    × (tested 7 ≡ Err fault.SameChildren)
    × (tested 8 ≡ Err fault.Doubled)
    × (tested 9 ≡ Err fault.Alike)
unfolding tested fault_of faults
tested_numbers = (refl, refl, refl, refl, refl, refl, refl, refl)

pub ruleset grounds = (tested_lowest, tested_none, tested_numbers)

-- grounds 3 to 5 of a node's line, and then the others
pub node_tested :
    (d : Diagram) (i : ℕ) (n : Node)
    → tested (node_fault d i n)
    ≡ cond
    (not (eqb i (id_count d)))
    (tested 3)
    (cond (not (ltb n.x d.switches)) (tested 4) (cond (not (ltb n.l i && ltb n.h i)) (tested 5) (tested (later_fault d n))))
unfolding node_fault later_fault
node_tested d i n = simp tested_lowest

-- an id's entry does not depend on the outputs
pub entry_of_held : (d : Holder) (outs : List ℕ) (i : ℕ) → entry (held d outs) i ≡ entry (held d []) i
unfolding held entry entries
entry_of_held d outs i = refl

-- grounds 3 to 5 of a node's line, and the others
module _ (d : Diagram) (i : ℕ) (m : Node) where
  pub node_turn : (i ≡ id_count d → ⊥) → node_fault d i m ≡ 3
  unfolding node_fault lowest
  node_turn ne = rw (ne_eqb i (id_count d) ne)

  module _ (e : i ≡ id_count d) where
    pub node_switch : d.switches ≤ m.x → node_fault d i m ≡ 4
    unfolding node_fault lowest
    node_switch over = rw (eq-eqb i (id_count d) e, le-ltb m.x d.switches over)

    module _ (within : m.x < d.switches) where
      pub node_low : i ≤ m.l → node_fault d i m ≡ 5
      unfolding node_fault lowest
      node_low over = rw (eq-eqb i (id_count d) e, lt-ltb m.x d.switches within, le-ltb m.l i over)

      pub node_high : m.l < i → i ≤ m.h → node_fault d i m ≡ 5
      unfolding node_fault lowest
      node_high low over =
          rw (eq-eqb i (id_count d) e, lt-ltb m.x d.switches within, lt-ltb m.l i low, le-ltb m.h i over)

      pub node_later : m.l < i → m.h < i → node_fault d i m ≡ later_fault d m
      unfolding node_fault lowest later_fault
      node_later low high =
          rw (eq-eqb i (id_count d) e, lt-ltb m.x d.switches within, lt-ltb m.l i low, lt-ltb m.h i high)

-- grounds 6 to 9 of a node that tests a switch of the job, from the entries of its children
module _ (d : Diagram) (m low high : Node) (within : m.x < d.switches) (is-low : low ≡ entry d m.l) (is-high : high ≡ entry d m.h) where
  -- the four tests in turn
  by_tests :
      later_fault d m
      ≡ lowest
      ((6 when leb low.x m.x || leb high.x m.x)
      ∷ (7 when eqb m.l m.h)
      ∷ (8 when any_of (same_test m) d.nodes)
      ∷ (9 when alike m.t low.t || alike m.t high.t)
      ∷ [])
  unfolding later_fault
  by_tests = rw (is-low, is-high, unordered_by_switch d m.x m.l within, unordered_by_switch d m.x m.h within)

  pub later_order : leb low.x m.x || leb high.x m.x ≡ true → later_fault d m ≡ 6
  unfolding lowest
  later_order u = by_tests ∙ rw u

  module _ (ordered : leb low.x m.x || leb high.x m.x ≡ false) where
    pub later_same_child : m.l ≡ m.h → later_fault d m ≡ 7
    unfolding lowest
    later_same_child s = by_tests ∙ rw (ordered, eq-eqb m.l m.h s)

    module _ (differ : m.l ≡ m.h → ⊥) where
      pub later_doubled : any_of (same_test m) d.nodes ≡ true → later_fault d m ≡ 8
      unfolding lowest
      later_doubled s = by_tests ∙ rw (ordered, ne_eqb m.l m.h differ, s)

      -- what is left is ground 9
      pub later_label :
          (b : Bool)
          → any_of (same_test m) d.nodes ≡ false
          → alike m.t low.t || alike m.t high.t ≡ b
          → later_fault d m ≡ lowest ((9 when b) ∷ [])
      unfolding lowest
      later_label b new s = by_tests ∙ rw (ordered, ne_eqb m.l m.h differ, new, s)

module _ (d : Diagram) (k : ℕ) (j i : ℕ) (count : length d.outs ≡ k) where
  pub out_turn : (j ≡ k → ⊥) → out_fault d j i ≡ 3
  unfolding out_fault lowest
  out_turn ne = rw (ne_eqb j (length d.outs) (λ e. ne (e ∙ count)))

  module _ (e : j ≡ k) where
    pub out_named : id_count d ≤ i → out_fault d j i ≡ 5
    unfolding out_fault lowest
    out_named over = rw (eq-eqb j (length d.outs) (e ∙ sym count), le-ltb i (id_count d) over)

    pub out_label : (b : Bool) → i < id_count d → eqb (label_at d i) 2 ≡ b → out_fault d j i ≡ lowest ((9 when b) ∷ [])
    unfolding out_fault lowest
    out_label b within s = rw (eq-eqb j (length d.outs) (e ∙ sym count), lt-ltb i (id_count d) within, s)
