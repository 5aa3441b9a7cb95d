-- Document 01, "Job text", line by line, and "Grounds for sending a job back": "Text is read line by line; the first faulty line decides,
-- and in it the lowest number." Each step takes the line due, number n of the text, and ends as the rest of the reading ends.
use Rattle.std.specs.Prelude.{ℕ, zero, suc, ◌+◌, List, [], ◌∷◌, get_or}
use Rattle.common.specs.Outcome.{Outcome, done, ◌then◌, ◌when◌, lowest, unless}
use Rattle.figures.specs.Line.{Lines, lines_of, follows}
use Rattle.forms.specs.Due.{due}
use Rattle.forms.specs.Forms.{job_form, one_form, node_form, out_form, end_form}
use Rattle.diagram.specs.declared.Node.{Node}
use Rattle.diagram.specs.Diagram.{Diagram, bare, with_node, with_out}
use Rattle.diagram.specs.Faults.{head_fault, one_fault, node_fault, out_fault}

-- a diagram as its lines say it, and the line of `(end)`
pub record ReadText : Type 0 where
  pub diagram : Diagram
  pub last : ℕ

-- the node of `(node I X (L H) T)`, whose values are I, X, L, H and T
unfoldable pub node_of : List ℕ → Node
node_of vs = record { x = get_or vs 1 0; l = get_or vs 2 0; h = get_or vs 3 0; t = get_or vs 4 0 }

-- 5: `(end)`. Ground 10: "Bytes follow `(end)`; the line is the one after it."
unfoldable pub read_end : Diagram → ℕ → Lines → Outcome ReadText
read_end d n ls =
    due end_form n ls
    then λ e. unless (lowest ((10 when follows e.later) ∷ [])) (n + 1) (done (record { diagram = d; last = n }))

-- 4: k lines `(out J I)`
unfoldable pub read_outs : ℕ → Diagram → ℕ → Lines → Outcome ReadText
read_outs zero d n ls = read_end d n ls
read_outs (suc k) d n ls =
    due out_form n ls
    then λ o.
    unless (out_fault d (get_or o.vals 0 0) (get_or o.vals 1 0)) n
    (read_outs k (with_out d (get_or o.vals 1 0)) (n + 1) o.later)

-- 3: m lines `(node I X (L H) T)`, then k outputs
unfoldable pub read_nodes : ℕ → ℕ → Diagram → ℕ → Lines → Outcome ReadText
read_nodes zero k d n ls = read_outs k d n ls
read_nodes (suc m) k d n ls =
    due node_form n ls
    then λ o.
    unless (node_fault d (get_or o.vals 0 0) (node_of o.vals)) n
    (read_nodes m k (with_node d (node_of o.vals)) (n + 1) o.later)

-- 2: `(one T)`
unfoldable pub read_one : ℕ → ℕ → ℕ → ℕ → Lines → Outcome ReadText
read_one v m k n ls =
    due one_form n ls
    then λ o. unless (one_fault (get_or o.vals 0 0)) n (read_nodes m k (bare v (get_or o.vals 0 0)) (n + 1) o.later)

-- 1: `(job V N K)`
unfoldable pub read_head : ℕ → Lines → Outcome ReadText
read_head n ls =
    due job_form n ls
    then λ o.
    unless (head_fault (get_or o.vals 0 0) (get_or o.vals 1 0) (get_or o.vals 2 0)) n
    (read_one (get_or o.vals 0 0) (get_or o.vals 1 0) (get_or o.vals 2 0) (n + 1) o.later)

-- a job's text, held to 1 to 10; the first line is line 1
unfoldable pub read_text : List ℕ → Outcome ReadText
read_text s = read_head 1 (lines_of s)
