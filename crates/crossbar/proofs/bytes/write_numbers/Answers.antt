-- `crossbar::bytes::write_numbers` meets its contract: before each number those before it are in the buffer.
use mathlib.Core.Path.{◌≡◌, ◌∙◌}
use native.Mathlib.Omega.{arith}
use lib.ListN.{length}
use Rattle.std.proofs.Common.{rules}
use Rattle.common.specs.Lists.{zeros}
use Rattle.crossbar.proofs.Pairs.{no_numbers, number_next}
use Rattle.crossbar.proofs.bytes.write_numbers.Goals as goal

pub loop-i-init : goal.loop-i-init
loop-i-init c =
    let z : c.fill.new.self ≡ zeros (length c.fill.new.self) = search rules in
    z ∙ no_numbers (length c.fill.new.self)

pub loop-i-preserved : goal.loop-i-preserved
loop-i-preserved c =
    number_next _ _ _ _ _ _ (omega arith) (omega arith) (search rules) (search rules) c.loop-i.invariant
