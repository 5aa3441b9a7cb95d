-- `conduction::stamping::cross` meets its contract: the wires that were reached have their places among the stamps.
use Prim.Native.Nat.{◌<◌}
use native.Mathlib.Omega.{arith}
use lib.ListN.{length}
use lib.Seq.{get_or-take, length-take-le}
use Rattle.conduction.specs.Wires.{no_key}
use Rattle.conduction.proofs.Sorting.{exchanged_all}
use Rattle.conduction.proofs.stamping.cross.Goals as goal

pub mark-requires : goal.mark-requires
mark-requires c =
    let dark = c.spread-reached.new.dark in
    let reached = c.spread-reached.result in
    let sorted = c.spread-reached.ensures in
    λ k h.
    let below : k < reached = omega (arith, h, length-take-le reached dark (omega (arith, sorted.upto, c.spread-reached.auto.dark))) in
    rw (get_or-take reached dark k no_key below)
    (exchanged_all (λ w. w.place < length c.args.stamps.now) _ _ _ sorted.exchanged c.requires.1 k (omega (arith, below, sorted.upto)))
