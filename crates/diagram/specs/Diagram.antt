-- Document 01, "Job text": what a job says, once its lines are read.
use Rattle.std.specs.Prelude.{ℕ, ◌+◌, List, [], ◌∷◌, ◌++◌, length, get_or}
use Rattle.diagram.specs.declared.Node.{Node}

-- V switches, the label of terminal 1, the nodes in rising id from id 2 on, and the ids that the outputs name, output 0 first
pub record Diagram : Type 0 where
  pub switches : ℕ
  pub one : ℕ
  pub nodes : List Node
  pub outs : List ℕ

-- "Ids 0 and 1 are the terminals." They stand in the list of all ids like nodes: a terminal tests no switch of the job, is its own
-- child, and terminal 0 has no label.
unfoldable pub terminal : ℕ → ℕ → ℕ → Node
terminal v i t = record { x = v; l = i; h = i; t = t }

-- every id's entry, id 0 first
unfoldable pub entries : Diagram → List Node
entries d = terminal d.switches 0 0 ∷ terminal d.switches 1 d.one ∷ d.nodes

-- the entry of an id
unfoldable pub entry : Diagram → ℕ → Node
entry d i = get_or (entries d) i (terminal d.switches 0 0)

-- the switch that an id tests, its children taken when that is 0 and 1, and its label
abbrev pub switch_at : Diagram → ℕ → ℕ
switch_at d i = (entry d i).x

abbrev pub low_at : Diagram → ℕ → ℕ
low_at d i = (entry d i).l

abbrev pub high_at : Diagram → ℕ → ℕ
high_at d i = (entry d i).h

abbrev pub label_at : Diagram → ℕ → ℕ
label_at d i = (entry d i).t

-- how many ids there are: the terminals and N nodes, so the ids are 0 to N + 1
unfoldable pub id_count : Diagram → ℕ
id_count d = 2 + length d.nodes

-- a diagram before its first node, with one node more, with one output more
unfoldable pub bare : ℕ → ℕ → Diagram
bare v t = record { switches = v; one = t; nodes = []; outs = [] }

unfoldable pub with_node : Diagram → Node → Diagram
with_node d n = record { switches = d.switches; one = d.one; nodes = d.nodes ++ (n ∷ []); outs = d.outs }

unfoldable pub with_out : Diagram → ℕ → Diagram
with_out d i = record { switches = d.switches; one = d.one; nodes = d.nodes; outs = d.outs ++ (i ∷ []) }

-- an entry of the node table that has no line: "entries without a line are zeros"
unfoldable pub no_node : Node
no_node = record { x = 0; l = 0; h = 0; t = 0 }
