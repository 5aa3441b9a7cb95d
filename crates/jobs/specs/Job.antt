-- Document 01: accepted jobs, the node table, and walk's outcome.
use Rattle.std.specs.Prelude.{ℕ, ◌-◌, not, ◌&&◌, List, [], ◌∷◌, ◌++◌, length, get_or, replicate, ltb}
use Rattle.common.specs.Limits.{max_nodes}
use Rattle.common.specs.Outcome.{Outcome, done, ◌then◌, ◌when◌, lowest, unless, value_of}
use Rattle.cells.specs.Setting.{is_setting}
use Rattle.diagram.specs.declared.Node.{Node}
use Rattle.diagram.specs.Diagram.{Diagram, no_node}
use Rattle.diagram.specs.Walk.{walk_value}
use Rattle.diagram.specs.Wires.{too_large}
use Rattle.jobs.specs.Reading.{ReadText, read_text}

-- Ground 11, on a text that was read: "R or C exceeds 128; the line is that of `(end)`"
unfoldable pub size_tested : Outcome ReadText → Outcome Diagram
size_tested o = o then λ t. unless (lowest ((11 when too_large t.diagram) ∷ [])) t.last (done t.diagram)

-- "What an output reads": "A job is accepted when its text breaks none of 1 to 11." Ground 11 comes after 10.
unfoldable pub accepted : List ℕ → Outcome Diagram
accepted s = size_tested (read_text s)

-- "Job text": "The reader fills a lent table of nodes .. 254 entries of X, L, H and T ..; entries without a line are zeros, and after a refusal it
-- holds zeros only."
unfoldable pub table : Outcome Diagram → List Node
table o = value_of (replicate max_nodes no_node) (λ d. d.nodes ++ replicate (max_nodes - length d.nodes) no_node) o

-- "The services": walk: "job text, setting and output number in; the diagram's value, 0 or 1, out." "Walk gives 11 too." Ground 13: "The setting is
-- not V bytes of 0 or 1, or walk's output number is not below K", line 0.
unfoldable pub walk : List ℕ → List ℕ → ℕ → Outcome ℕ
walk s setting j =
    accepted s
    then λ d.
    unless (lowest ((13 when not (is_setting d.switches setting && ltb j (length d.outs))) ∷ [])) 0
    (done (walk_value d setting (get_or d.outs j 0)))
