-- `diagram::faults::Earlier::node_fault` meets its contract: ground 5 is met by the low child or by the high one.
use native.Mathlib.Omega.{arith}
use Rattle.std.proofs.lemmas.Bool.Decides.{nat_tests}
use Rattle.diagram.specs.Held.{held, node_given}
use Rattle.diagram.proofs.FaultLaws.{node_tested, tested_numbers}
use Rattle.diagram.proofs.faults.Earlier.node_fault.Goals as goal

pub returns-then-values : goal.returns-then-values
unfolding held node_given
returns-then-values c = grind (arith, nat_tests, node_tested, tested_numbers)
