-- `jobs::reading::clear`: the entries from `from` up to k are zeros.
use Rattle.std.proofs.Common.{◌≡◌, ◌-◌, ◌++◌, take, replicate}
use Rattle.diagram.specs.Diagram.{no_node}
use Rattle.jobs.proofs.reading.clear.Given as goal

abbrev pub invariant-loop-k : goal.invariant-loop-k
invariant-loop-k l = take l.k l.nodes ≡ take l.from l.fn.nodes ++ replicate (l.k - l.from) no_node
