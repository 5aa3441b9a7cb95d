-- What the reader accepts: a diagram that is valid line by line, so the facts of its nodes and outputs, and its sizes.
use Prim.Native.Nat.{ℕ, zero, suc, ◌+◌, ◌≤◌}
use mathlib.Core.Path.{◌≡◌, refl, sym, ap, ◌∙◌}
use mathlib.Core.Bool.{not, ◌&&◌}
use mathlib.Core.List.{List, []}
use native.Mathlib.Omega.{arith}
use lib.ListN.{length, get_or, length-append}
use lib.Dec.{leb, ltb}
use borrow.Author.Tests.{leb-true, ltb-false, not-false}
use Rattle.std.proofs.lemmas.Bool.{or_parts}
use Rattle.common.specs.Limits.{max_rows, max_columns, max_switches, max_nodes, max_outputs}
use Rattle.common.specs.Outcome.{Outcome, done, refused}
use Rattle.common.proofs.Lists.{and_left, and_right}
use Rattle.common.proofs.Outcome.{then_done, unless_done, not_met}
use Rattle.figures.specs.Line.{Lines, lines_of}
use Rattle.forms.specs.Due.{Taken, due}
use Rattle.forms.specs.Forms.{job_form, one_form, node_form, out_form, end_form}
use Rattle.forms.proofs.Template.{due_fits, node_values, one_values}
use Rattle.diagram.proofs.Valid.{Valid, valid_bare, valid_node, valid_out, valid_facts}
use Rattle.diagram.specs.Diagram.{Diagram, bare, with_node, with_out}
use Rattle.diagram.specs.Faults.{head_fault}
use Rattle.diagram.specs.Wires.{row_count, column_count, too_large}
use Rattle.diagram.specs.Facts.{Facts, Sizes}
use Rattle.jobs.specs.Reading.{ReadText, node_of, read_end, read_outs, read_nodes, read_one, read_head, read_text}
use Rattle.jobs.specs.Job.{size_tested, accepted}

-- a valid diagram e that goes on from d with m nodes and k outputs more
record Grown (d e : Diagram) (m k : ℕ) : Type 0 where
  valid : Valid e
  switches : e.switches ≡ d.switches
  nodes : length e.nodes ≡ length d.nodes + m
  outs : length e.outs ≡ length d.outs + k

pub read_end_lem : (d : Diagram) (n : ℕ) (ls : Lines) (t : ReadText) → read_end d n ls ≡ done t → t.diagram ≡ d
unfolding read_end
read_end_lem d n ls t h =
    let taken = then_done (due end_form n ls) _ t h in
    let e = (unless_done _ (n + 1) _ t taken.2).1 in
    ap (λ (o : Outcome ReadText). diagram_of d o) (sym e)
  where
    diagram_of : Diagram → Outcome ReadText → Diagram
    diagram_of e (done u) = u.diagram
    diagram_of e (refused a b) = e

read_outs_lem : (k : ℕ) (d : Diagram) (n : ℕ) (ls : Lines) (t : ReadText) → Valid d → read_outs k d n ls ≡ done t → Grown d t.diagram 0 k
unfolding read_outs with_out
read_outs_lem zero d n ls t v h =
    let e = read_end_lem d n ls t h in
    record {
      valid = rw e v;
      switches = ap (λ (x : Diagram). x.switches) e;
      nodes = ap (λ (x : Diagram). length x.nodes) e ∙ omega arith;
      outs = ap (λ (x : Diagram). length x.outs) e ∙ omega arith;
    }
read_outs_lem (suc k) d n ls t v h =
    let taken = then_done (due out_form n ls) _ t h in
    let vs = taken.0.vals in
    let kept = unless_done _ n _ t taken.2 in
    let grown =
    read_outs_lem k (with_out d (get_or vs 1 0)) (n + 1) taken.0.later t
    (valid_out (get_or vs 0 0) (get_or vs 1 0) v kept.0)
    kept.1 in
    record {
      valid = grown.valid;
      switches = grown.switches;
      nodes = grown.nodes;
      outs = grown.outs ∙ simp length-append (omega arith);
    }

-- a label of a line is 1, 2 or 3
pub node_label : (n : ℕ) (ls : Lines) (o : Taken) → due node_form n ls ≡ done o → (1 ≤ (node_of o.vals).t) × ((node_of o.vals).t ≤ 3)
unfolding node_of
node_label n ls o h = let v = node_values o.vals (due_fits node_form n ls o h) in (v.5, v.6)

pub one_label : (n : ℕ) (ls : Lines) (o : Taken) → due one_form n ls ≡ done o → (1 ≤ get_or o.vals 0 0) × (get_or o.vals 0 0 ≤ 3)
one_label n ls o h = let v = one_values o.vals (due_fits one_form n ls o h) in (v.1, v.2)

read_nodes_lem :
    (m k : ℕ) (d : Diagram) (n : ℕ) (ls : Lines) (t : ReadText)
    → Valid d
    → d.outs ≡ []
    → read_nodes m k d n ls ≡ done t
    → Grown d t.diagram m k
unfolding read_nodes with_node
read_nodes_lem zero k d n ls t v none_yet h = read_outs_lem k d n ls t v h
read_nodes_lem (suc m) k d n ls t v none_yet h =
    let taken = then_done (due node_form n ls) _ t h in
    let vs = taken.0.vals in
    let kept = unless_done _ n _ t taken.2 in
    let label = node_label n ls taken.0 taken.1 in
    let grown =
    read_nodes_lem m k (with_node d (node_of vs)) (n + 1) taken.0.later t
    (valid_node (get_or vs 0 0) (node_of vs) v none_yet kept.0 label.0 label.1)
    none_yet
    kept.1 in
    record {
      valid = grown.valid;
      switches = grown.switches;
      nodes = grown.nodes ∙ simp length-append (omega arith);
      outs = grown.outs;
    }

read_one_lem :
    (v m k n : ℕ) (ls : Lines) (t : ReadText) → read_one v m k n ls ≡ done t → (one : ℕ) × Grown (bare v one) t.diagram m k
unfolding read_one bare
read_one_lem v m k n ls t h =
    let taken = then_done (due one_form n ls) _ t h in
    let vs = taken.0.vals in
    let kept = unless_done _ n _ t taken.2 in
    let label = one_label n ls taken.0 taken.1 in (
      get_or vs 0 0,
      read_nodes_lem m k (bare v (get_or vs 0 0)) (n + 1) taken.0.later t
          (valid_bare v (get_or vs 0 0) kept.0 label.0 label.1)
          refl
          kept.1,
    )

-- the sizes of a text's diagram, and that it is valid
pub record Read (d : Diagram) : Type 0 where
  pub valid : Valid d
  pub switches_most : d.switches ≤ max_switches
  pub nodes_most : length d.nodes ≤ max_nodes
  pub outs_least : 1 ≤ length d.outs
  pub outs_most : length d.outs ≤ max_outputs

-- ground 2 taken apart
pub head_ranges :
    (v n k : ℕ) → head_fault v n k ≡ 0 → (v ≤ max_switches) × (n ≤ max_nodes) × (1 ≤ k) × (k ≤ max_outputs)
unfolding head_fault
head_ranges v n k h =
    let a = leb v max_switches in
    let b = leb n max_nodes in
    let c = leb 1 k in
    let e = leb k max_outputs in
    let all = not-false (a && b && c && e) (not_met 1 (not (a && b && c && e)) [] h) in
    let three = and_left (a && b && c) e all in
    let two = and_left (a && b) c three in (
      leb-true v max_switches (and_left a b two),
      leb-true n max_nodes (and_right a b two),
      leb-true 1 k (and_right (a && b) c three),
      leb-true k max_outputs (and_right (a && b && c) e all),
    )

pub read_head_lem : (n : ℕ) (ls : Lines) (t : ReadText) → read_head n ls ≡ done t → Read t.diagram
unfolding read_head bare
read_head_lem n ls t h =
    let taken = then_done (due job_form n ls) _ t h in
    let vs = taken.0.vals in
    let kept = unless_done _ n _ t taken.2 in
    let ranges = head_ranges (get_or vs 0 0) (get_or vs 1 0) (get_or vs 2 0) kept.0 in
    let whole = read_one_lem (get_or vs 0 0) (get_or vs 1 0) (get_or vs 2 0) (n + 1) taken.0.later t kept.1 in
    let grown = whole.1 in
    record {
      valid = grown.valid;
      switches_most = rw grown.switches ranges.0;
      nodes_most = rw grown.nodes (omega (arith, ranges.1));
      outs_least = rw grown.outs (omega (arith, ranges.2));
      outs_most = rw grown.outs (omega (arith, ranges.3));
    }

-- an accepted job: its facts, and its sizes
pub record Accepted (d : Diagram) : Type 0 where
  pub facts : Facts d
  pub sizes : Sizes d

pub accepted_job : (s : List ℕ) (d : Diagram) → accepted s ≡ done d → Accepted d
unfolding accepted size_tested read_text too_large
accepted_job s d h =
    let taken = then_done (read_text s) _ d h in
    let read = read_head_lem 1 (lines_of s) taken.0 taken.1 in
    let kept = unless_done _ taken.0.last _ d taken.2 in
    let e = taken.0.diagram in
    let small =
    or_parts (ltb max_rows (row_count e)) (ltb max_columns (column_count e)) (not_met 10 (too_large e) [] kept.0) in
    let same : taken.0.diagram ≡ d = cc in
    rw (← same)
    (record {
      facts = valid_facts taken.0.diagram read.valid;
      sizes =
          record {
            switches_most = read.switches_most;
            nodes_most = read.nodes_most;
            outs_least = read.outs_least;
            outs_most = read.outs_most;
            rows_most = ltb-false max_rows (row_count e) small.0;
            columns_most = ltb-false max_columns (column_count e) small.1;
          };
    })
