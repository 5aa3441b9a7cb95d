-- `jobs::reading::read_outs` meets its contract.
use native.Mathlib.Omega.{arith}
use Rattle.std.proofs.Common.{rules, add-one}
use Rattle.diagram.proofs.Valid.{out_below}
use Rattle.common.proofs.Faults.{tested_passed}
use Rattle.common.specs.Limits.{max_nodes}
use Rattle.forms.proofs.Told.{out_not, out_due}
use Rattle.diagram.specs.Diagram.{id_count}
use Rattle.diagram.specs.Held.{held}
use Rattle.jobs.specs.Reading.{read_outs}
use Rattle.jobs.proofs.Steps.{line_not, line_stops, line_goes, outs_stop, outs_more, outs_all, goes_err}
use Rattle.jobs.proofs.reading.read_outs.Goals as goal

pub returns-in_default : goal.returns-in_default
unfolding read_outs
returns-in_default c =
    outs_stop _ _ _ _ _ c.loop-j.auto.outs _ _ c.loop-j.invariant c.loop-j-test.true _
    (line_not _ _ _ _ _ _ (out_not c.out_line-read.ensures c.in_default.not-Out) c.refusal_of.ensures)

pub returns-in_err-map_err : goal.returns-in_err-map_err
unfolding read_outs
returns-in_err-map_err c =
    goes_err _ _ _ _ c.from_residual.ensures
    (outs_stop _ _ _ _ _ c.loop-j.auto.outs _ _ c.loop-j.invariant c.loop-j-test.true _
    (line_stops _ _ _ _ _ _ _ (out_due c.out_line-read.ensures c.in-Out.is) _ _ c.out_fault.ensures (search rules)))

pub overflow_cast-outs : goal.overflow_cast-outs
unfolding held id_count max_nodes
overflow_cast-outs c =
    let below = out_below _ _ _ (tested_passed _ _ c.out_fault.ensures (search rules)) in omega (arith, below, c.args.diagram.now.few)

pub loop-j-preserved : goal.loop-j-preserved
unfolding read_outs
loop-j-preserved c =
    rw add-one
    (outs_more _ _ _ _ _ c.loop-j.auto.outs _ _ c.loop-j.invariant c.loop-j-test.true _ _
    (line_goes _ _ _ _ _ _ _ (out_due c.out_line-read.ensures c.in-Out.is) _ c.out_fault.ensures (search rules)))

pub returns : goal.returns
returns c = outs_all _ _ _ _ _ c.loop-j.auto.outs _ _ c.loop-j.invariant c.loop-j-test.false c.loop-j.auto.j-end
