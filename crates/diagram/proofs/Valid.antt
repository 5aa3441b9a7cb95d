-- A diagram made line by line, each line meeting none of grounds 3 to 9, has the plain facts of a diagram.
use Prim.Native.Nat.{ℕ, zero, suc, ◌≤◌, ◌<◌}
use mathlib.Core.Path.{◌≡◌, refl, sym, ap}
use mathlib.Core.Logic.{◌⊎◌, ⊎_elim}
use mathlib.Core.Bool.{true, false, ◌&&◌}
use mathlib.Core.List.{[], ◌∷◌}
use native.Mathlib.Omega.{arith}
use lib.ListN.{length, get_or, length-append, get_or-append}
use lib.Dec.{eqb, ltb}
use Rattle.std.proofs.lemmas.Bool.{cases_eq, or_parts}
use Rattle.std.proofs.lemmas.Bool.Decides.{nat_tests}
use borrow.Author.Tests.{ltb-true, eqb-true, eqb-false, not-false}
use Rattle.std.proofs.lemmas.List.{get_or_push}
use Rattle.common.specs.Lists.{any_of}
use Rattle.common.proofs.Lists.{and_left, and_right, any_of_none}
use Rattle.common.proofs.Lists.{at_or_below}
use Rattle.common.proofs.Outcome.{not_met, others}
use Rattle.diagram.specs.declared.Node.{Node}
use Rattle.diagram.specs.Diagram.{Diagram, terminal, entries, entry, id_count, switch_at, label_at, bare, with_node, with_out}
use Rattle.diagram.specs.Faults.{one_fault, unordered, same_test, alike, node_fault, out_fault}
use Rattle.diagram.specs.Facts.{Facts, NodeFacts}
use Rattle.diagram.proofs.Walk.{switch_terminal}

-- diagrams that lines without a fault of 3 to 9 make: the label of terminal 1, the nodes, and after them the outputs
pub data Valid : Diagram → Type 0 where
  valid_bare : (v t : ℕ) → one_fault t ≡ 0 → 1 ≤ t → t ≤ 3 → Valid (bare v t)
  valid_node :
      {d : Diagram} (i : ℕ) (n : Node)
      → Valid d
      → d.outs ≡ []
      → node_fault d i n ≡ 0
      → 1 ≤ n.t
      → n.t ≤ 3
      → Valid (with_node d n)
  valid_out : {d : Diagram} (j i : ℕ) → Valid d → out_fault d j i ≡ 0 → Valid (with_out d i)

-- what a node's line says of the diagram before it: of a node of id i
record NodeFits (d : Diagram) (i : ℕ) (n : Node) : Type 0 where
  tests : n.x < d.switches
  low_below : n.l < i
  high_below : n.h < i
  low_later : n.x < switch_at d n.l
  high_later : n.x < switch_at d n.h
  children_differ : n.l ≡ n.h → ⊥
  label_least : 1 ≤ n.t
  label_most : n.t ≤ 3
  low_unlike : alike n.t (label_at d n.l) ≡ false
  high_unlike : alike n.t (label_at d n.h) ≡ false

-- a node of a diagram fits it, and a node that fits a diagram has its facts in any that has the same ids below it
facts_fit : (d : Diagram) (i : ℕ) → NodeFacts d i → NodeFits d i (entry d i)
facts_fit d i f =
    record {
      tests = f.tests;
      low_below = f.low_below;
      high_below = f.high_below;
      low_later = f.low_later;
      high_later = f.high_later;
      children_differ = f.children_differ;
      label_least = f.label_least;
      label_most = f.label_most;
      low_unlike = f.low_unlike;
      high_unlike = f.high_unlike;
    }

fit_facts :
    (d e : Diagram) (i : ℕ) (n : Node)
    → e.switches ≡ d.switches
    → ((k : ℕ) → k < i → entry e k ≡ entry d k)
    → entry e i ≡ n
    → NodeFits d i n
    → NodeFacts e i
unfolding entry entries
fit_facts d e i n v same at f =
    record {
      tests = rw (at, v) f.tests;
      low_below = rw at f.low_below;
      high_below = rw at f.high_below;
      low_later = rw (at, same n.l f.low_below) f.low_later;
      high_later = rw (at, same n.h f.high_below) f.high_later;
      children_differ = rw at f.children_differ;
      label_least = rw at f.label_least;
      label_most = rw at f.label_most;
      low_unlike = rw (at, same n.l f.low_below) f.low_unlike;
      high_unlike = rw (at, same n.h f.high_below) f.high_unlike;
    }

-- a child in order has a later switch: a terminal tests none of the job's
child_later : (d : Diagram) (x c : ℕ) → x < d.switches → unordered d x c ≡ false → x < switch_at d c
unfolding unordered
child_later d x c within h = let end = switch_terminal d c in grind (arith, nat_tests)

-- what no fault says of a node's line
pub node_id : (d : Diagram) (i : ℕ) (n : Node) → node_fault d i n ≡ 0 → i ≡ id_count d
unfolding node_fault
node_id d i n h = eqb-true i (id_count d) (not-false (eqb i (id_count d)) (not_met 2 _ _ h))

node_new : (d : Diagram) (i : ℕ) (n : Node) → node_fault d i n ≡ 0 → any_of (same_test n) d.nodes ≡ false
unfolding node_fault
node_new d i n h = not_met 7 _ _ (others 6 _ _ (others 5 _ _ (others 4 _ _ (others 3 _ _ (others 2 _ _ h)))))

node_fits : (d : Diagram) (i : ℕ) (n : Node) → node_fault d i n ≡ 0 → 1 ≤ n.t → n.t ≤ 3 → NodeFits d i n
unfolding node_fault
node_fits d i n h least most =
    let h4 = others 2 _ _ h in
    let h5 = others 3 _ _ h4 in
    let h6 = others 4 _ _ h5 in
    let h7 = others 5 _ _ h6 in
    let h9 = others 7 _ _ (others 6 _ _ h7) in
    let within = ltb-true n.x d.switches (not-false (ltb n.x d.switches) (not_met 3 _ _ h4)) in
    let below = not-false (ltb n.l i && ltb n.h i) (not_met 4 _ _ h5) in
    let order = or_parts (unordered d n.x n.l) (unordered d n.x n.h) (not_met 5 _ _ h6) in
    let unlike = or_parts (alike n.t (label_at d n.l)) (alike n.t (label_at d n.h)) (not_met 8 _ _ h9) in
    record {
      tests = within;
      low_below = ltb-true n.l i (and_left (ltb n.l i) (ltb n.h i) below);
      high_below = ltb-true n.h i (and_right (ltb n.l i) (ltb n.h i) below);
      low_later = child_later d n.x n.l within order.0;
      high_later = child_later d n.x n.h within order.1;
      children_differ = eqb-false n.l n.h (not_met 6 _ _ h7);
      label_least = least;
      label_most = most;
      low_unlike = unlike.0;
      high_unlike = unlike.1;
    }

-- where a node is added, the entries are the old ones and, at the next id, the node
pub id_count_node : (d : Diagram) (n : Node) → id_count (with_node d n) ≡ suc (id_count d)
unfolding id_count with_node
id_count_node d n = simp length-append (omega arith)

pub entry_old : (d : Diagram) (n : Node) (i : ℕ) → i < id_count d → entry (with_node d n) i ≡ entry d i
unfolding entry entries id_count with_node
entry_old d n i within = get_or-append (entries d) (n ∷ []) (terminal d.switches 0 0) i (omega arith)

pub entry_new : (d : Diagram) (n : Node) → entry (with_node d n) (id_count d) ≡ n
unfolding entry entries id_count with_node
entry_new d n = get_or_push (entries d) n (terminal d.switches 0 0) (id_count d) (omega arith)

-- two nodes with the same switch and children
record SameNode (n m : Node) : Type 0 where
  same_x : n.x ≡ m.x
  same_l : n.l ≡ m.l
  same_h : n.h ≡ m.h

turned : (n m : Node) → SameNode n m → SameNode m n
turned n m s = record { same_x = sym s.same_x; same_l = sym s.same_l; same_h = sym s.same_h }

-- they meet the test of ground 8; no earlier node meets it
same_test_lem : (n m : Node) → SameNode n m → same_test n m ≡ true
unfolding same_test
same_test_lem n m s = grind (arith, nat_tests, s.same_x, s.same_l, s.same_h)

no_same :
    (d : Diagram) (n : Node) (k : ℕ)
    → any_of (same_test n) d.nodes ≡ false
    → 2 ≤ k
    → k < id_count d
    → same_test n (entry d k) ≡ false
unfolding entry entries id_count
no_same d n zero none node within = absurd (omega arith)
no_same d n (suc zero) none node within = absurd (omega arith)
no_same d n (suc (suc k)) none node within =
    any_of_none (same_test n) d.nodes k (terminal d.switches 0 0) none (omega arith)

-- a diagram before its first node
facts_bare : (v t : ℕ) → one_fault t ≡ 0 → 1 ≤ t → t ≤ 3 → Facts (bare v t)
unfolding bare id_count one_fault
facts_bare v t h least most =
    record {
      one_label = label (eqb-false t 2 (not_met 8 _ _ h));
      node = λ i node within. absurd (omega arith);
      distinct = λ i k node within. absurd (omega arith);
      outs_named = λ j within. absurd (omega arith);
      outs_in_rows = λ j within. absurd (omega arith);
    }
  where
    label : (t ≡ 2 → ⊥) → (t ≡ 1) ⊎ (t ≡ 3)
    label other = grind arith

-- with one node more
module _ (d : Diagram) (n : Node) (facts : Facts d) (none : d.outs ≡ []) (fits : NodeFits d (id_count d) n) (new : any_of (same_test n) d.nodes ≡ false) where
  -- what holds of the new id and of each old id holds of each id
  by_age :
      (P : ℕ → Type 0)
      → P (id_count d)
      → ((i : ℕ) → i < id_count d → P i)
      → (i : ℕ)
      → i < id_count (with_node d n)
      → P i
  by_age P last old i within =
      let here = cases_eq i (id_count d) in
      let more = id_count_node d n in
      let before = old i in
      grind arith

  node_at : (i : ℕ) → 2 ≤ i → i < id_count (with_node d n) → NodeFacts (with_node d n) i
  unfolding with_node
  node_at i node within =
      by_age
      (λ k. 2 ≤ k → NodeFacts (with_node d n) k)
      (λ node. fit_facts d (with_node d n) (id_count d) n refl (entry_old d n) (entry_new d n) fits)
      (λ k below node.
      fit_facts
      d
      (with_node d n)
      k
      (entry d k)
      refl
      (λ m h. entry_old d n m (omega arith))
      (entry_old d n k below)
      (facts_fit d k (facts.node k node below)))
      i
      within
      node

  -- the new node is unlike each old one
  unlike : (k : ℕ) → 2 ≤ k → k < id_count d → SameNode n (entry d k) → ⊥
  unlike k node below s = cc (same_test_lem n (entry d k) s, no_same d n k new node below)

  abbrev Distinct : ℕ → ℕ → Type 0
  Distinct i k = 2 ≤ i → 2 ≤ k → SameNode (entry (with_node d n) i) (entry (with_node d n) k) → i ≡ k

  distinct_at : (i k : ℕ) → i < id_count (with_node d n) → k < id_count (with_node d n) → Distinct i k
  distinct_at i k within within' =
      by_age
      (λ i. Distinct i k)
      (by_age
      (λ k. Distinct (id_count d) k)
      (λ node node' s. refl)
      (λ k below node node' s.
      absurd (unlike k node' below (rw (entry_new d n, entry_old d n k below) at s)))
      k
      within')
      (λ i below.
      by_age
      (λ k. Distinct i k)
      (λ node node' s.
      absurd (unlike i node below (turned (entry d i) n (rw (entry_old d n i below, entry_new d n) at s))))
      (λ k below' node node' s.
      let old : SameNode (entry d i) (entry d k) = rw (entry_old d n i below, entry_old d n k below') at s in
      facts.distinct i k node below node' below' old.same_x old.same_l old.same_h)
      k
      within')
      i
      within

  facts_node : Facts (with_node d n)
  unfolding with_node
  facts_node =
      record {
        one_label = facts.one_label;
        node = node_at;
        distinct = λ i k node within node' within' p q r.
            distinct_at i k within within' node node' (record { same_x = p; same_l = q; same_h = r });
        outs_named = λ j within. absurd (omega (arith, ap length none));
        outs_in_rows = λ j within. absurd (omega (arith, ap length none));
      }

-- with one output more
module _ (d : Diagram) (i : ℕ) (facts : Facts d) (named : i < id_count d) (in_row : label_at d i ≡ 2 → ⊥) where
  -- what holds of the new output and of each old one holds of each
  by_out :
      (P : ℕ → Type 0)
      → P i
      → ((j : ℕ) → j < length d.outs → P (get_or d.outs j 0))
      → (j : ℕ)
      → j < length (with_out d i).outs
      → P (get_or (with_out d i).outs j 0)
  unfolding with_out
  by_out P last old j within =
      ⊎_elim
      (λ (e : j ≡ length d.outs). rw (get_or_push d.outs i 0 j (sym e)) last)
      (λ (below : j < length d.outs). rw (get_or-append d.outs (i ∷ []) 0 j below) (old j below))
      (at_or_below j (length d.outs) (omega (arith, length-append d.outs (i ∷ []))))

  facts_out : Facts (with_out d i)
  unfolding with_out entry entries id_count
  facts_out =
      record {
        one_label = facts.one_label;
        node = λ k node within.
            fit_facts d (with_out d i) k (entry d k) refl (λ m h. refl) refl (facts_fit d k (facts.node k node within));
        distinct = facts.distinct;
        outs_named = by_out (λ k. k < id_count d) named facts.outs_named;
        outs_in_rows = by_out (λ k. label_at d k ≡ 2 → ⊥) in_row facts.outs_in_rows;
      }

-- what no fault says of an output's line
pub out_below : (d : Diagram) (j i : ℕ) → out_fault d j i ≡ 0 → i < id_count d
unfolding out_fault
out_below d j i h = grind (arith, nat_tests, not_met 4 _ _ (others 2 _ _ h))

out_in_row : (d : Diagram) (j i : ℕ) → out_fault d j i ≡ 0 → label_at d i ≡ 2 → ⊥
unfolding out_fault
out_in_row d j i h = grind (arith, nat_tests, not_met 8 _ _ (others 4 _ _ (others 2 _ _ h)))

pub valid_facts : (d : Diagram) → Valid d → Facts d
valid_facts d (valid_bare v t h least most) = facts_bare v t h least most
valid_facts d (valid_node {d = e} i n valid none h least most) =
    facts_node e n (valid_facts e valid) none (rw (node_id e i n h) at (node_fits e i n h least most)) (node_new e i n h)
valid_facts d (valid_out {d = e} j i valid h) =
    facts_out e i (valid_facts e valid) (out_below e j i h) (out_in_row e j i h)
