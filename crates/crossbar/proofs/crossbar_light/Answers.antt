-- `crossbar::crossbar_light` meets its contract: what light answers, as one number.
use Rattle.crossbar.proofs.Calls.{answered}
use Rattle.crossbar.proofs.Ends.{light_ends}
use Rattle.crossbar.proofs.crossbar_light.Goals as goal

pub returns : goal.returns
returns c = answered _ _ _ _ _ _ _ (light_ends _ _ _ _) c.light_bytes.ensures c.pack.ensures
