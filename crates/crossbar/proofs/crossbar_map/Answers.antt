-- `crossbar::crossbar_map` meets its contract: map answers, and its crossbar is handed over as bytes.
use mathlib.Core.Path.{◌≡◌}
use native.Mathlib.Omega.{arith}
use lib.ListN.{length}
use Rattle.placement.proofs.Maps.{mapped_ends}
use Rattle.crossbar.specs.Host.{host_map}
use Rattle.crossbar.proofs.Deliveries.{delivered}
use Rattle.crossbar.proofs.crossbar_map.Goals as goal

pub returns : goal.returns
unfolding host_map
returns c =
    let a = c.args in
    let long : length c.map-mapped.new.cells ≡ length a.cells.now = omega arith in
    let made = c.map-mapped.ensures in
    delivered _ _ _ _ _ _ _ _ (mapped_ends a.text.now (length a.cells.now)) made.answer made.buffer c.deliver.ensures.refused (rw long at c.deliver.ensures.short)
    c.deliver.ensures.delivered
