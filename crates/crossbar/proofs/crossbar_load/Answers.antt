-- `crossbar::crossbar_load` meets its contract: load answers, and its crossbar is handed over as bytes.
use mathlib.Core.Path.{◌≡◌}
use native.Mathlib.Omega.{arith}
use lib.ListN.{length}
use Rattle.listings.proofs.Refusals.{loaded_ends}
use Rattle.crossbar.specs.Host.{host_load}
use Rattle.crossbar.proofs.Deliveries.{delivered}
use Rattle.crossbar.proofs.crossbar_load.Goals as goal

pub returns : goal.returns
unfolding host_load
returns c =
    let a = c.args in
    let long : length c.load-loaded.new.cells ≡ length a.cells.now = omega arith in
    let made = c.load-loaded.ensures in
    delivered _ _ _ _ _ _ _ _ (loaded_ends a.text.now (length a.cells.now)) made.answer made.buffer c.deliver.ensures.refused (rw long at c.deliver.ensures.short)
    c.deliver.ensures.delivered
