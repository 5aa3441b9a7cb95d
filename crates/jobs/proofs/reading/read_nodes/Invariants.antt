-- `jobs::reading::read_nodes`: at entry k the nodes so far are read and their places are marked.
use Rattle.std.proofs.Common.{length}
use Rattle.jobs.proofs.Steps.{NodesSoFar}
use Rattle.jobs.proofs.reading.read_nodes.Given as goal

abbrev pub invariant-loop-k : goal.invariant-loop-k
invariant-loop-k l = NodesSoFar l.fn.head.switches l.one l.fn.head.outputs (length l.fn.nodes) l.line l.text l.nodes l.rest l.seen l.k
