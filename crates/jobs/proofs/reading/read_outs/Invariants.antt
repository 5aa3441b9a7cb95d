-- `jobs::reading::read_outs`: at output j the outputs so far are read.
use Rattle.std.proofs.Common.{length}
use Rattle.jobs.proofs.Steps.{OutsSoFar}
use Rattle.jobs.proofs.reading.read_outs.Given as goal

abbrev pub invariant-loop-j : goal.invariant-loop-j
invariant-loop-j l = OutsSoFar l.diagram (length l.fn.outs) l.line l.text l.outs l.rest l.j
