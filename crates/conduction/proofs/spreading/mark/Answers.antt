-- `conduction::spreading::mark` meets its contract: the wires so far have the new stamp.
use Prim.Native.Nat.{◌<◌}
use mathlib.Core.Path.{refl}
use native.Mathlib.Omega.{arith}
use lib.ListN.{length, length-set}
use Rattle.conduction.proofs.Parts.{marked_none, marked_more}
use Rattle.conduction.proofs.spreading.mark.Goals as goal

pub loop-key-init : goal.loop-key-init
loop-key-init c = (refl, marked_none c.args.new c.args.stamps.now)

pub loop-key-preserved : goal.loop-key-preserved
loop-key-preserved c =
    let inv = c.loop-key.invariant in
    let within : c.from.result < length c.loop-key.stamps =
    omega (arith, inv.0, c.from.ensures, c.requires c.loop-key.key-index c.loop-key-test.true) in
    (simp length-set inv.0, marked_more _ _ _ _ _ _ c.loop-key-test.true c.from.ensures within inv.1)
