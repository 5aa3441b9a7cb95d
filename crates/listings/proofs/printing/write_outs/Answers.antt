-- `listings::printing::write_outs` meets its contract: the lines of the outputs from output j on are still to be written.
use native.Mathlib.Omega.{arith}
use Rattle.common.specs.Limits.{max_outputs}
use Rattle.forms.proofs.Parts.{going_part, going_stop, going_end}
use Rattle.listings.proofs.Text.{out_more, outs_none}
use Rattle.listings.proofs.printing.write_outs.Goals as goal

pub overflow_cast-j : goal.overflow_cast-j
unfolding max_outputs
overflow_cast-j c = omega arith

pub returns-in_err-out_line : goal.returns-in_err-out_line
returns-in_err-out_line c =
    let line = rw c.from.ensures at c.in_err-out_line.ensures in
    going_stop _ c.loop-j.invariant (out_more c.args.outs.now c.loop-j.j _ c.loop-j-test.true) line c.from_residual.ensures

pub loop-j-preserved : goal.loop-j-preserved
loop-j-preserved c =
    let line = rw c.from.ensures at c.in_ok-out_line.ensures in
    going_part c.loop-j.invariant (out_more c.args.outs.now c.loop-j.j _ c.loop-j-test.true) line

pub returns : goal.returns
returns c = going_end c.loop-j.invariant (outs_none c.args.outs.now c.loop-j.j (omega arith))
