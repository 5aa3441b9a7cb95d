-- The text of a diagram that has the facts and the sizes of a job is read as that diagram: no line of it has a fault.
use Prim.Native.Nat.{ℕ, suc, ◌+◌, ◌≤◌, ◌<◌}
use mathlib.Core.Path.{◌≡◌, refl, sym, ap, subst, ◌∙◌}
use mathlib.Core.Logic.{◌⊎◌, inl, inr}
use mathlib.Core.Bool.{true, false, not, ◌&&◌}
use mathlib.Core.List.{List, [], ◌∷◌, ◌++◌, append_assoc, append-nil}
use native.Mathlib.Omega.{arith}
use lib.ListN.{length, get_or, length-append, get_or-append}
use lib.Seq.{get_or-append-add}
use lib.Dec.{eqb, leb}
use borrow.Author.Tests.{lt-ltb, le-leb, eqb-true, eq-eqb, ne_eqb}
use Rattle.std.proofs.lemmas.Bool.{cases_Bool}
use Rattle.std.proofs.Math.Bool.{and-false}
use Rattle.common.specs.Labels.{label_h, label_v, label_b}
use Rattle.common.specs.Limits.{max_switches, max_nodes, max_outputs}
use Rattle.common.specs.Lists.{any_of}
use Rattle.common.specs.Outcome.{done, lowest}
use Rattle.common.proofs.Lists.{and_left, and_right}
use Rattle.common.proofs.Outcome.{then_is, unless_none}
use Rattle.figures.specs.Line.{lines_of, follows}
use Rattle.forms.specs.Template.{line}
use Rattle.forms.specs.Due.{due}
use Rattle.forms.specs.Forms.{job_form, one_form, node_form, out_form, end_form, out_lines}
use Rattle.forms.proofs.Template.{due-written, job_apart, one_apart, node_apart, out_apart, end_apart, job_fits, one_fits, node_fits, out_fits, end_fits}
use Rattle.diagram.specs.declared.Node.{Node}
use Rattle.diagram.specs.Diagram.{Diagram, terminal, entries, entry, id_count, switch_at, label_at, bare, with_node, with_out}
use Rattle.diagram.specs.Faults.{head_fault, one_fault, unordered, same_test, alike, node_fault, out_fault}
use Rattle.diagram.specs.Facts.{Facts, NodeFacts}
use Rattle.jobs.specs.Reading.{node_of, read_end, read_outs, read_nodes, read_one, read_head, read_text}
use Rattle.jobs.specs.Steps.{given}
use Rattle.jobs.specs.Text.{node_lines, job_text, HeadSizes}
use Rattle.diagram.proofs.Tables.{any_of_by}

-- every figure of a job in range has at most 5 digits
limits_fit : (max_switches < 100000) × (2 + max_nodes < 100000) × (max_outputs < 100000)
unfolding max_switches max_nodes max_outputs
limits_fit = (omega arith, omega arith, omega arith)

-- the entries of the ids before a node are those of the whole diagram, and the node has the next id
module _ (v t : ℕ) (ns : List Node) (n : Node) (rest : List Node) (os : List ℕ) where
  abbrev whole : Diagram
  whole = given v t (ns ++ (n ∷ rest)) os

  abbrev before : Diagram
  before = given v t ns []

  entry_before : (k : ℕ) → k < 2 + length ns → entry whole k ≡ entry before k
  unfolding entry entries
  entry_before k h = get_or-append (entries before) (n ∷ rest) (terminal v 0 0) k (omega arith)

  entry_next : entry whole (2 + length ns) ≡ n
  unfolding entry entries
  entry_next =
      let e : 2 + length ns ≡ length (entries before) + 0 = omega arith in
      rw e (get_or-append-add (entries before) (n ∷ rest) 0 (terminal v 0 0))

  -- a child in order
  ordered : (c : ℕ) → c < 2 + length ns → n.x < switch_at whole c → unordered before n.x c ≡ false
  unfolding unordered
  ordered c below later =
      let later' : n.x < switch_at before c = subst (λ (e : Node). n.x < e.x) (entry_before c below) later in
      rw (lt-ltb n.x (switch_at before c) later') (and-false (leb 2 c))

  module _ (facts : Facts whole) where
    node_facts : NodeFacts whole (2 + length ns)
    unfolding id_count
    node_facts =
        let below : 2 + length ns < 2 + length (ns ++ (n ∷ rest)) = simp length-append (omega arith) in
        facts.node (2 + length ns) (omega arith) below

    -- no earlier node is the same
    new : any_of (same_test n) ns ≡ false
    unfolding entry entries same_test id_count
    new = any_of_by (same_test n) ns (terminal v 0 0) (λ k below. unlike k below (cases_Bool (same_test n (get_or ns k (terminal v 0 0)))))
      where
        unlike : (k : ℕ) → k < length ns → (same_test n (get_or ns k (terminal v 0 0)) ≡ true) ⊎ (same_test n (get_or ns k (terminal v 0 0)) ≡ false) → same_test n (get_or ns k (terminal v 0 0)) ≡ false
        unlike k below (inr none) = none
        unlike k below (inl same) =
            let m = get_or ns k (terminal v 0 0) in
            let there : entry whole (suc (suc k)) ≡ m = entry_before (suc (suc k)) (omega arith) in
            let two = and_left (eqb n.x m.x && eqb n.l m.l) (eqb n.h m.h) same in
            let same_x = eqb-true n.x m.x (and_left (eqb n.x m.x) (eqb n.l m.l) two) in
            let same_l = eqb-true n.l m.l (and_right (eqb n.x m.x) (eqb n.l m.l) two) in
            let same_h = eqb-true n.h m.h (and_right (eqb n.x m.x && eqb n.l m.l) (eqb n.h m.h) same) in
            let long : length (ns ++ (n ∷ rest)) ≡ length ns + suc (length rest) = simp length-append in
            let one-id : 2 + length ns ≡ suc (suc k) =
            facts.distinct (2 + length ns) (suc (suc k)) (omega arith) (omega arith) (omega arith) (omega arith)
            (ap (λ (e : Node). e.x) entry_next ∙ same_x ∙ sym (ap (λ (e : Node). e.x) there))
            (ap (λ (e : Node). e.l) entry_next ∙ same_l ∙ sym (ap (λ (e : Node). e.l) there))
            (ap (λ (e : Node). e.h) entry_next ∙ same_h ∙ sym (ap (λ (e : Node). e.h) there)) in
            absurd (omega arith)

    -- the facts of the node, by its own fields
    record NextFacts : Type 0 where
      tests : n.x < v
      low_below : n.l < 2 + length ns
      high_below : n.h < 2 + length ns
      low_later : n.x < switch_at whole n.l
      high_later : n.x < switch_at whole n.h
      differ : n.l ≡ n.h → ⊥
      label_least : 1 ≤ n.t
      label_most : n.t ≤ 3
      low_unlike : alike n.t (label_at before n.l) ≡ false
      high_unlike : alike n.t (label_at before n.h) ≡ false

    next_facts : NextFacts
    next_facts =
        let f = node_facts in
        let e = entry_next in
        let low : n.l < 2 + length ns = subst (λ (m : Node). m.l < 2 + length ns) e f.low_below in
        let high : n.h < 2 + length ns = subst (λ (m : Node). m.h < 2 + length ns) e f.high_below in
        record {
          tests = subst (λ (m : Node). m.x < v) e f.tests;
          low_below = low;
          high_below = high;
          low_later = subst (λ (m : Node). m.x < switch_at whole m.l) e f.low_later;
          high_later = subst (λ (m : Node). m.x < switch_at whole m.h) e f.high_later;
          differ = subst (λ (m : Node). m.l ≡ m.h → ⊥) e f.children_differ;
          label_least = subst (λ (m : Node). 1 ≤ m.t) e f.label_least;
          label_most = subst (λ (m : Node). m.t ≤ 3) e f.label_most;
          low_unlike =
              subst (λ (m : Node). alike n.t m.t ≡ false) (entry_before n.l low)
              (subst (λ (m : Node). alike m.t (label_at whole m.l) ≡ false) e f.low_unlike);
          high_unlike =
              subst (λ (m : Node). alike n.t m.t ≡ false) (entry_before n.h high)
              (subst (λ (m : Node). alike m.t (label_at whole m.h) ≡ false) e f.high_unlike);
        }

    no_fault : node_fault before (2 + length ns) n ≡ 0
    unfolding node_fault lowest
    no_fault =
        let f = next_facts in
        let i = 2 + length ns in
        let turn : not (eqb i (id_count before)) ≡ false = in_turn in
        let within = lt-ltb n.x v f.tests in
        let low = lt-ltb n.l i f.low_below in
        let high = lt-ltb n.h i f.high_below in
        let low-order = ordered n.l f.low_below f.low_later in
        let high-order = ordered n.h f.high_below f.high_later in
        rw (turn, within, low, high, low-order, high-order, ne_eqb n.l n.h f.differ, new, f.low_unlike, f.high_unlike)
      where
        in_turn : not (eqb (2 + length ns) (id_count before)) ≡ false
        in_turn = unfold id_count in rw (eq-eqb (2 + length ns) (2 + length ns) refl)

-- the lines of the nodes
module _ (v t : ℕ) (all : List Node) (os : List ℕ) (facts : Facts (given v t all os)) (few : v < 100000) (short : 2 + length all < 100000) where
  nodes_read :
      (rest ns : List Node) (k n : ℕ) (s : List ℕ)
      → ns ++ rest ≡ all
      → read_nodes (length rest) k (given v t ns []) n (lines_of (node_lines (2 + length ns) rest ++ s))
      ≡ read_outs k (given v t all []) (n + length rest) (lines_of s)
  unfolding read_nodes node_lines node_of with_node
  nodes_read [] ns k n s e =
      let same : ns ≡ all = sym (append-nil ns) ∙ e in
      let line-is : n + 0 ≡ n = omega arith in
      rw (line-is, same)
  nodes_read (m ∷ rest) ns k n s e =
      let known : Facts (given v t (ns ++ (m ∷ rest)) os) = rw e facts in
      let f = next_facts v t ns m rest os known in
      let long : length all ≡ length ns + suc (length rest) = rw (← e) (simp length-append) in
      let next : 2 + length (ns ++ (m ∷ [])) ≡ suc (2 + length ns) = simp length-append (omega arith) in
      let joined : (ns ++ (m ∷ [])) ++ rest ≡ all = append_assoc ns (m ∷ []) rest ∙ e in
      let line-is : n + 1 + length rest ≡ n + suc (length rest) = omega arith in
      let i = 2 + length ns in
      let fits =
      node_fits i m.x m.l m.h m.t (omega arith) (omega (arith, f.tests)) (omega (arith, f.low_below)) (omega (arith, f.high_below))
      f.label_least f.label_most in
      rw (append_assoc (line node_form (i ∷ m.x ∷ m.l ∷ m.h ∷ m.t ∷ [])) (node_lines (suc i) rest) s)
      (then_is _ _ _ (due-written node_form (i ∷ m.x ∷ m.l ∷ m.h ∷ m.t ∷ []) n (node_lines (suc i) rest ++ s) node_apart fits)
      ∙ unless_none _ n _ (no_fault v t ns m rest os known)
      ∙ (rw (next, line-is) at (nodes_read rest (ns ++ (m ∷ [])) k (n + 1) s joined)))

-- the last line
end_read : (d : Diagram) (n : ℕ) → read_end d n (lines_of (line end_form [])) ≡ done (record { diagram = d; last = n })
unfolding read_end lines_of follows lowest
end_read d n =
    then_is (due end_form n (lines_of (line end_form []))) (record { vals = []; later = lines_of [] }) _
    (rw append-nil at (due-written end_form [] n [] end_apart end_fits))
    ∙ unless_none _ _ _ refl

-- an output in turn that names an id without a column only has no fault
out_right :
    (d : Diagram) (i : ℕ) → i < id_count d → (label_at d i ≡ label_v → ⊥) → out_fault d (length d.outs) i ≡ 0
unfolding out_fault lowest
out_right d i named in_row =
    rw (eq-eqb (length d.outs) (length d.outs) refl, lt-ltb i (id_count d) named, ne_eqb (label_at d i) label_v in_row)

-- the lines of the outputs and the last line
module _ (v t : ℕ) (ns : List Node) (all : List ℕ) (facts : Facts (given v t ns all)) (few : 2 + length ns < 100000) (short : length all < 100000) where
  out_named : (j : ℕ) → j < length all → (i : ℕ) → get_or all j 0 ≡ i → i < 2 + length ns
  unfolding id_count
  out_named j below i at = rw (← at) (facts.outs_named j below)

  out_in_row : (j : ℕ) → j < length all → (i : ℕ) → get_or all j 0 ≡ i → (os : List ℕ) → label_at (given v t ns os) i ≡ label_v → ⊥
  unfolding entry entries
  out_in_row j below i at os = rw (← at) (facts.outs_in_rows j below)

  counted : (os : List ℕ) (i : ℕ) → i < 2 + length ns → i < id_count (given v t ns os)
  unfolding id_count
  counted os i h = h

  outs_read :
      (is os : List ℕ) (n : ℕ)
      → os ++ is ≡ all
      → read_outs (length is) (given v t ns os) n (lines_of (out_lines (length os) is ++ line end_form []))
      ≡ done (record { diagram = given v t ns all; last = n + length is })
  unfolding read_outs out_lines with_out
  outs_read [] os n e =
      let same : os ≡ all = sym (append-nil os) ∙ e in
      let line-is : n + 0 ≡ n = omega arith in
      rw (line-is, same) (end_read (given v t ns all) n)
  outs_read (i ∷ is) os n e =
      let j = length os in
      let long : length all ≡ length os + suc (length is) = rw (← e) (simp length-append) in
      let seam : j + 0 ≡ j = omega arith in
      let at : get_or all j 0 ≡ i = rw (← e) (rw seam at (get_or-append-add os (i ∷ is) 0 0)) in
      let named : i < 2 + length ns = out_named j (omega arith) i at in
      let in_row : label_at (given v t ns os) i ≡ label_v → ⊥ = out_in_row j (omega arith) i at os in
      let next : length (os ++ (i ∷ [])) ≡ suc j = simp length-append (omega arith) in
      let joined : (os ++ (i ∷ [])) ++ is ≡ all = append_assoc os (i ∷ []) is ∙ e in
      let line-is : n + 1 + length is ≡ n + suc (length is) = omega arith in
      let fits = out_fits j i (omega arith) (omega arith) in
      rw (append_assoc (line out_form (j ∷ i ∷ [])) (out_lines (suc j) is) (line end_form []))
      (then_is _ _ _ (due-written out_form (j ∷ i ∷ []) n (out_lines (suc j) is ++ line end_form []) out_apart fits)
      ∙ unless_none _ n _ (out_right (given v t ns os) i (counted os i named) in_row)
      ∙ (rw (next, line-is) at (outs_read is (os ++ (i ∷ [])) (n + 1) joined)))

-- the first line and the second
head_right : (v n k : ℕ) → v ≤ max_switches → n ≤ max_nodes → 1 ≤ k → k ≤ max_outputs → head_fault v n k ≡ 0
unfolding head_fault lowest
head_right v n k a b c d = rw (le-leb v max_switches a, le-leb n max_nodes b, le-leb 1 k c, le-leb k max_outputs d)

one_right : (t : ℕ) → (t ≡ label_h) ⊎ (t ≡ label_b) → (one_fault t ≡ 0) × (1 ≤ t) × (t ≤ 3)
unfolding one_fault lowest
one_right t (inl e) = rw e (refl, omega arith, omega arith)
one_right t (inr e) = rw e (refl, omega arith, omega arith)

-- the text, from its front
pub text_front :
    (d : Diagram)
    → job_text d
    ≡ line job_form (d.switches ∷ length d.nodes ∷ length d.outs ∷ [])
    ++ (line one_form (d.one ∷ []) ++ (node_lines 2 d.nodes ++ (out_lines 0 d.outs ++ line end_form [])))
unfolding job_text
text_front d = simp append_assoc

-- the whole text
pub written_read :
    (d : Diagram)
    → Facts d
    → HeadSizes d
    → read_text (job_text d) ≡ done (record { diagram = d; last = 3 + length d.nodes + length d.outs })
unfolding read_text read_head read_one bare
written_read d facts sizes =
    let v = d.switches in
    let ns = d.nodes in
    let os = d.outs in
    let small = limits_fit in
    let one = one_right d.one facts.one_label in
    let ends = out_lines 0 os ++ line end_form [] in
    let fits = job_fits v (length ns) (length os) (omega (arith, sizes.switches_most)) (omega (arith, sizes.nodes_most)) (omega (arith, sizes.outs_most)) in
    ap read_text (text_front d)
    ∙ then_is _ _ _ (due-written job_form (v ∷ length ns ∷ length os ∷ []) 1 (line one_form (d.one ∷ []) ++ (node_lines 2 ns ++ ends)) job_apart fits)
    ∙ unless_none _ 1 _ (head_right v (length ns) (length os) sizes.switches_most sizes.nodes_most sizes.outs_least sizes.outs_most)
    ∙ then_is _ _ _ (due-written one_form (d.one ∷ []) 2 (node_lines 2 ns ++ ends) one_apart (one_fits d.one one.1 one.2))
    ∙ unless_none _ 2 _ one.0
    ∙ nodes_read v d.one ns os facts (omega (arith, sizes.switches_most)) (omega (arith, sizes.nodes_most)) ns [] (length os) 3 ends refl
    ∙ outs_read v d.one ns os facts (omega (arith, sizes.nodes_most)) (omega (arith, sizes.outs_most)) os [] (3 + length ns) refl
