-- `programs::readings::LitCrossbar::print_readings` meets its contract: the readings are written into a clear buffer.
use mathlib.Core.Path.{◌≡◌}
use lib.ListN.{length}
use native.Mathlib.Omega.{arith}
use Rattle.std.proofs.Common.{rules}
use Rattle.common.specs.Lists.{zeros}
use Rattle.programs.proofs.Texts.{said_written}
use Rattle.programs.proofs.readings.LitCrossbar.print_readings.Goals as goal

pub returns : goal.returns
returns c =
    let z : c.fill.new.self ≡ zeros (length c.args.out.now) = search rules in
    let k : length c.write_readings-past.new.out ≡ length c.args.out.now = omega arith in
    said_written _ _ _ _ _ _ (rw z at c.write_readings-past.ensures) (rw k at c.said.ensures)
