-- `crossbar::crossbar_print` meets its contract: what print answers, as one number.
use Rattle.crossbar.proofs.Calls.{answered}
use Rattle.crossbar.proofs.Ends.{print_ends}
use Rattle.crossbar.proofs.crossbar_print.Goals as goal

pub returns : goal.returns
returns c = answered _ _ _ _ _ _ _ (print_ends _ _ _) c.print_bytes.ensures c.pack.ensures
