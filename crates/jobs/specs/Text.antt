-- Document 01, "Job text": the text of a job, written from its diagram; and the claim that a job has exactly one text, so that what is
-- accepted is known from the diagram alone, and nothing but a listed fault is refused.
-- The proof is `one_text` in proofs/Text.antt: OneText.
use Rattle.std.specs.Prelude.{ℕ, suc, ◌+◌, ◌≤◌, ◌≡◌, ◌↔◌, List, [], ◌∷◌, ◌++◌, length}
use Rattle.common.specs.Limits.{max_switches, max_nodes, max_outputs}
use Rattle.common.specs.Outcome.{done}
use Rattle.forms.specs.Template.{line}
use Rattle.forms.specs.Forms.{job_form, one_form, node_form, end_form, out_lines}
use Rattle.diagram.specs.declared.Node.{Node}
use Rattle.diagram.specs.Diagram.{Diagram}
use Rattle.diagram.specs.Facts.{Facts, Sizes}
use Rattle.jobs.specs.Reading.{ReadText, read_text}
use Rattle.jobs.specs.Job.{accepted}

-- 3: lines `(node I X (L H) T)`, from id i on
unfoldable pub node_lines : ℕ → List Node → List ℕ
node_lines i [] = []
node_lines i (n ∷ ns) = line node_form (i ∷ n.x ∷ n.l ∷ n.h ∷ n.t ∷ []) ++ node_lines (suc i) ns

-- 1: `(job V N K)`, 2: `(one T)`, 3: the nodes from id 2 on, 4: lines `(out J I)` from output 0 on, and 5: `(end)`
unfoldable pub job_text : Diagram → List ℕ
job_text d =
    line job_form (d.switches ∷ length d.nodes ∷ length d.outs ∷ [])
    ++ line one_form (d.one ∷ [])
    ++ node_lines 2 d.nodes
    ++ out_lines 0 d.outs
    ++ line end_form []

-- the sizes that ground 2 asks for
pub record HeadSizes (d : Diagram) : Type 0 where
  pub switches_most : d.switches ≤ max_switches
  pub nodes_most : length d.nodes ≤ max_nodes
  pub outs_least : 1 ≤ length d.outs
  pub outs_most : length d.outs ≤ max_outputs

-- a diagram has the facts that grounds 1 to 10 leave, its text is this one, and `(end)` is its last line, after 2 lines, N and K
pub record IsRead (s : List ℕ) (t : ReadText) : Type 0 where
  pub facts : Facts t.diagram
  pub sizes : HeadSizes t.diagram
  pub text : s ≡ job_text t.diagram
  pub last : t.last ≡ 3 + length t.diagram.nodes + length t.diagram.outs

-- the same with ground 11
pub record IsAccepted (s : List ℕ) (d : Diagram) : Type 0 where
  pub facts : Facts d
  pub sizes : Sizes d
  pub text : s ≡ job_text d

pub record OneText : Type 0 where
  -- a text is read without a fault of 1 to 10 exactly where it is the text of a diagram with these facts and sizes
  pub read : (s : List ℕ) (t : ReadText) → (read_text s ≡ done t) ↔ IsRead s t
  -- a text is accepted exactly where it is the text of a diagram with the facts and the sizes of an accepted job
  pub accepts : (s : List ℕ) (d : Diagram) → (accepted s ≡ done d) ↔ IsAccepted s d
  -- so two accepted texts of one diagram are equal
  pub same_text : (s s' : List ℕ) (d : Diagram) → accepted s ≡ done d → accepted s' ≡ done d → s ≡ s'
