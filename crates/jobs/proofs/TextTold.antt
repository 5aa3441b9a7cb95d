-- A text that is read without a fault is the text of its diagram: each line taken is the line that its values write.
use Prim.Native.Nat.{ℕ, zero, suc, ◌+◌}
use mathlib.Core.Path.{◌≡◌, refl, sym, ap, ◌∙◌}
use mathlib.Core.List.{List, [], ◌∷◌, ◌++◌, append_assoc, append-nil}
use native.Mathlib.Omega.{arith}
use lib.ListN.{length, get_or, length-append}
use lib.Dec.{eqb}
use borrow.Author.Tests.{eqb-true, not-false}
use Rattle.common.specs.Outcome.{done}
use Rattle.common.proofs.Outcome.{then_done, unless_done, not_met}
use Rattle.figures.specs.Line.{lines_of, follows}
use Rattle.figures.proofs.Line.{follows_none, text_of, text_lines}
use Rattle.forms.specs.Template.{line}
use Rattle.forms.specs.Due.{due}
use Rattle.forms.specs.Forms.{job_form, one_form, node_form, out_form, end_form, out_lines}
use Rattle.forms.proofs.Template.{due_taken, job_values, one_values, node_values, out_values, end_values}
use Rattle.diagram.specs.declared.Node.{Node}
use Rattle.diagram.specs.Diagram.{Diagram, id_count, bare, with_node, with_out}
use Rattle.diagram.specs.Faults.{out_fault}
use Rattle.jobs.specs.Reading.{ReadText, node_of, read_end, read_outs, read_nodes, read_one, read_head, read_text}
use Rattle.jobs.specs.Text.{node_lines, job_text}
use Rattle.jobs.specs.Steps.{given}
use Rattle.jobs.proofs.TextWritten.{text_front}
use Rattle.diagram.proofs.Valid.{node_id}

-- the last line
end_told :
    (d : Diagram) (n : ℕ) (s : List ℕ) (t : ReadText)
    → read_end d n (lines_of s) ≡ done t
    → (s ≡ line end_form []) × (t ≡ record { diagram = d; last = n })
unfolding read_end text_of
end_told d n s t h =
    let taken = then_done (due end_form n (lines_of s)) _ t h in
    let kept = unless_done _ (n + 1) (done (record { diagram = d; last = n })) t taken.2 in
    let told = due_taken end_form n s taken.0 taken.1 in
    let none_left = follows_none taken.0.later (not_met 9 (follows taken.0.later) [] kept.0) in
    let rest : told.0 ≡ [] = sym (text_lines told.0) ∙ ap text_of (sym told.2 ∙ none_left) in
    let e = kept.1 in
    (told.1 ∙ rw (end_values taken.0.vals told.3, rest) (append-nil (line end_form [])), sym (cc))

-- k lines of outputs and the last line: the ids named, and the text that they write
record OutsTold (k : ℕ) (d : Diagram) (n : ℕ) (s : List ℕ) (t : ReadText) : Type 0 where
  named : List ℕ
  count : length named ≡ k
  text : s ≡ out_lines (length d.outs) named ++ line end_form []
  result : t ≡ record { diagram = given d.switches d.one d.nodes (d.outs ++ named); last = n + k }

out_turn : (d : Diagram) (j i : ℕ) → out_fault d j i ≡ 0 → j ≡ length d.outs
unfolding out_fault
out_turn d j i h = eqb-true j (length d.outs) (not-false (eqb j (length d.outs)) (not_met 2 _ _ h))

outs_told : (k : ℕ) (d : Diagram) (n : ℕ) (s : List ℕ) (t : ReadText) → read_outs k d n (lines_of s) ≡ done t → OutsTold k d n s t
unfolding read_outs out_lines with_out
outs_told zero d n s t h =
    let e = end_told d n s t h in
    let line-is : n + 0 ≡ n = omega arith in
    record { named = []; count = refl; text = e.0; result = rw (append-nil d.outs, line-is) e.1 }
outs_told (suc k) d n s t h =
    let taken = then_done (due out_form n (lines_of s)) _ t h in
    let vs = taken.0.vals in
    let i = get_or vs 1 0 in
    let kept = unless_done _ n _ t taken.2 in
    let told = due_taken out_form n s taken.0 taken.1 in
    let rest = told.0 in
    let shape : vs ≡ length d.outs ∷ i ∷ [] = (out_values vs told.3).0 ∙ ap (λ (j : ℕ). j ∷ i ∷ []) (out_turn d (get_or vs 0 0) i kept.0) in
    let more = outs_told k (with_out d i) (n + 1) rest t (rw told.2 at kept.1) in
    let next : length (d.outs ++ (i ∷ [])) ≡ suc (length d.outs) = simp length-append (omega arith) in
    let line-is : n + 1 + k ≡ n + suc k = omega arith in
    record {
      named = i ∷ more.named;
      count = ap suc more.count;
      text =
          told.1
          ∙ ap (λ (us : List ℕ). line out_form us ++ rest) shape
          ∙ ap (λ (r : List ℕ). line out_form (length d.outs ∷ i ∷ []) ++ r) (rw next at more.text)
          ∙ sym (append_assoc (line out_form (length d.outs ∷ i ∷ [])) (out_lines (suc (length d.outs)) more.named) (line end_form []));
      result = rw (append_assoc d.outs (i ∷ []) more.named, line-is) at more.result;
    }

-- m lines of nodes and what follows
record NodesTold (m k : ℕ) (d : Diagram) (n : ℕ) (s : List ℕ) (t : ReadText) : Type 0 where
  nodes : List Node
  named : List ℕ
  nodes_counted : length nodes ≡ m
  count : length named ≡ k
  text : s ≡ node_lines (id_count d) nodes ++ (out_lines (length d.outs) named ++ line end_form [])
  result : t ≡ record { diagram = given d.switches d.one (d.nodes ++ nodes) (d.outs ++ named); last = n + m + k }

nodes_told :
    (m k : ℕ) (d : Diagram) (n : ℕ) (s : List ℕ) (t : ReadText) → read_nodes m k d n (lines_of s) ≡ done t → NodesTold m k d n s t
unfolding read_nodes node_lines node_of with_node id_count
nodes_told zero k d n s t h =
    let more = outs_told k d n s t h in
    let line-is : n + 0 ≡ n = omega arith in
    record {
      nodes = [];
      named = more.named;
      nodes_counted = refl;
      count = more.count;
      text = more.text;
      result = rw (append-nil d.nodes, line-is) more.result;
    }
nodes_told (suc m) k d n s t h =
    let taken = then_done (due node_form n (lines_of s)) _ t h in
    let vs = taken.0.vals in
    let e = node_of vs in
    let kept = unless_done _ n _ t taken.2 in
    let told = due_taken node_form n s taken.0 taken.1 in
    let rest = told.0 in
    let shape : vs ≡ (2 + length d.nodes) ∷ e.x ∷ e.l ∷ e.h ∷ e.t ∷ [] =
    (node_values vs told.3).0 ∙ ap (λ (i : ℕ). i ∷ e.x ∷ e.l ∷ e.h ∷ e.t ∷ []) (node_id d (get_or vs 0 0) e kept.0) in
    let more = nodes_told m k (with_node d e) (n + 1) rest t (rw told.2 at kept.1) in
    let next : 2 + length (d.nodes ++ (e ∷ [])) ≡ suc (2 + length d.nodes) = simp length-append (omega arith) in
    let line-is : n + 1 + m + k ≡ n + suc m + k = omega arith in
    let first = line node_form ((2 + length d.nodes) ∷ e.x ∷ e.l ∷ e.h ∷ e.t ∷ []) in
    record {
      nodes = e ∷ more.nodes;
      named = more.named;
      nodes_counted = ap suc more.nodes_counted;
      count = more.count;
      text =
          told.1
          ∙ ap (λ (us : List ℕ). line node_form us ++ rest) shape
          ∙ ap (λ (r : List ℕ). first ++ r) (rw next at more.text)
          ∙ sym (append_assoc first (node_lines (suc (2 + length d.nodes)) more.nodes) _);
      result = rw (append_assoc d.nodes (e ∷ []) more.nodes, line-is) at more.result;
    }

-- the whole text
pub text_told :
    (s : List ℕ) (t : ReadText)
    → read_text s ≡ done t
    → (s ≡ job_text t.diagram) × (t.last ≡ 3 + length t.diagram.nodes + length t.diagram.outs)
unfolding read_text read_head read_one bare id_count
text_told s t h =
    let taken = then_done (due job_form 1 (lines_of s)) _ t h in
    let vs = taken.0.vals in
    let v = get_or vs 0 0 in
    let kept = unless_done _ 1 _ t taken.2 in
    let told = due_taken job_form 1 s taken.0 taken.1 in
    let shape = (job_values vs told.3).0 in
    let second = then_done (due one_form 2 (lines_of told.0)) _ t (rw told.2 at kept.1) in
    let us = second.0.vals in
    let one = get_or us 0 0 in
    let kept₂ = unless_done _ 2 _ t second.2 in
    let told₂ = due_taken one_form 2 told.0 second.0 second.1 in
    let shape₂ = (one_values us told₂.3).0 in
    let more = nodes_told (get_or vs 1 0) (get_or vs 2 0) (bare v one) 3 told₂.0 t (rw told₂.2 at kept₂.1) in
    let ns = more.nodes in
    let os = more.named in
    let sizes : vs ≡ v ∷ length ns ∷ length os ∷ [] = rw (more.nodes_counted, more.count) shape in
    let result : t ≡ record { diagram = given v one ns os; last = 3 + length ns + length os } = rw (more.nodes_counted, more.count) more.result in
    let text : s ≡ job_text (given v one ns os) =
    told.1
    ∙ ap (λ (r : List ℕ). line job_form vs ++ r) (told₂.1 ∙ ap (λ (r : List ℕ). line one_form us ++ r) more.text)
    ∙ ap (λ (ws : List ℕ). line job_form ws ++ (line one_form us ++ (node_lines 2 ns ++ (out_lines 0 os ++ line end_form [])))) sizes
    ∙ ap (λ (ws : List ℕ). line job_form (v ∷ length ns ∷ length os ∷ []) ++ (line one_form ws ++ (node_lines 2 ns ++ (out_lines 0 os ++ line end_form [])))) shape₂
    ∙ sym (text_front (given v one ns os)) in
    rw result (text, refl)
