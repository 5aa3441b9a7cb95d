-- `crossbar::bytes::write_numbers` meets its contract: before each number those before it are in the buffer.
use mathlib.Core.Path.{◌≡◌}
use lib.ListN.{length, take}
use Rattle.common.specs.Lists.{padded}
use Rattle.crossbar.specs.Bytes.{pairs}
use Rattle.crossbar.proofs.bytes.write_numbers.Given as goal

abbrev pub invariant-loop-i : goal.invariant-loop-i
invariant-loop-i l = l.bytes ≡ padded (length l.initial.bytes) (pairs (take l.i l.numbers))
