-- `streams::read` meets its contract: the first `count` bytes of the buffer have come, and each read leaves fewer.
use Rattle.std.proofs.Common.{◌≤◌, ◌-◌, length}
use Rattle.streams.proofs.read.Given as goal

abbrev pub invariant-loop-count : goal.invariant-loop-count
invariant-loop-count g l = l.count ≤ length l.input

abbrev pub decreases-loop-count : goal.decreases-loop-count
decreases-loop-count g l = length l.initial.input - l.count
