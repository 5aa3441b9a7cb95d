-- `conduction::stamping::round` meets its contract, across from rows to columns and back.
use Prim.Native.Nat.{◌+◌}
use native.Mathlib.Omega.{arith}
use Rattle.conduction.proofs.Crossing.{Turned, asks_across, asks_back, stamp_fits, turn_across, turn_back}
use Rattle.conduction.proofs.stamping.round.Goals as goal
use Rattle.conduction.proofs.stamping.round.Goals.{then-t-eq0, else-t-eq0}

pub overflow_add-t : goal.overflow_add-t
overflow_add-t c =
    omega (arith, stamp_fits _ _ _ c.args.rows.now c.args.stamps.now c.args.stamps.now _ _ _ _ 0 c.requires.fits.0 c.requires.standing c.requires.fits.1)

pub cross-reached-requires : goal.cross-reached-requires
cross-reached-requires c =
    asks_across _ _ _ c.args.rows.now c.args.stamps.now c.args.stamps.now _ _ _ _ 0 c.requires.fits.0 c.requires.standing c.if-t-eq0.true

pub overflow_add-t-else-t-eq0 : goal.overflow_add-t-else-t-eq0
overflow_add-t-else-t-eq0 c =
    omega (arith, stamp_fits _ _ _ c.args.rows.now c.args.stamps.now c.args.stamps.now _ _ _ _ 0 c.requires.fits.0 c.requires.standing c.requires.fits.1)

pub cross-reached-requires-else-t-eq0 : goal.cross-reached-requires-else-t-eq0
cross-reached-requires-else-t-eq0 c =
    asks_back _ _ _ c.args.rows.now c.args.stamps.now c.args.stamps.now _ _ _ _ 0 c.requires.fits.0 c.requires.standing c.if-t-eq0.false

pub returns : goal.returns
returns c =
    let front = c.args.front in
    let turned : Turned c.args.lamp c.args.rows.now c.args.columns.now c.args.stamps.now c.if-t-eq0.rows c.if-t-eq0.columns c.if-t-eq0.stamps c.args.t front.tail front.dark (front.dark + c.if-t-eq0.reached) =
    elim c.if-t-eq0.branch [
      | then-t-eq0 w ↦
          let crossed = w.cross-reached in
          rw (w.rows-is, w.columns-is, w.stamps-is, w.reached-is)
          (turn_across _ _ _ _ _ _ _ _ _ _ _ c.requires.fits.0 c.requires.standing c.requires.stamps_value crossed.auto.stamps
          w.if-t-eq0.true crossed.auto.dark crossed.ensures)
      | else-t-eq0 w ↦
          let crossed = w.cross-reached-else-t-eq0 in
          rw (w.rows-is, w.columns-is, w.stamps-is, w.reached-is)
          (turn_back _ _ _ _ _ _ _ _ _ _ _ c.requires.fits.0 c.requires.standing c.requires.stamps_value crossed.auto.stamps
          w.if-t-eq0.false crossed.auto.dark crossed.ensures)
    ] in
    record { new_wires = turned.rounded; ready = turned.standing }
