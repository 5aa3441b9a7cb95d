-- `programs::readings::LitCrossbar::write_reads` meets its contract: the lines of the outputs from output j on are still to be written.
use native.Mathlib.Omega.{arith}
use lib.ListN.{take}
use Rattle.forms.proofs.Parts.{going_part, going_stop, going_end}
use Rattle.programs.proofs.Texts.{reads_more, reads_none}
use Rattle.programs.proofs.readings.LitCrossbar.write_reads.Goals as goal

pub returns-in_err-reads_line : goal.returns-in_err-reads_line
returns-in_err-reads_line c =
    let lit = c.args.self.now in
    let more = reads_more lit.firsts.now (take c.from.result lit.crossbar.outs) c.loop-j.j c.loop-j-test.true in
    rw (← c.from.ensures)
    (going_stop _ c.loop-j.invariant (rw (← c.from-in-loop-j.ensures, ← c.reading.ensures) at more) c.in_err-reads_line.ensures c.from_residual.ensures)

pub loop-j-preserved : goal.loop-j-preserved
loop-j-preserved c =
    let lit = c.args.self.now in
    let more = reads_more lit.firsts.now (take c.from.result lit.crossbar.outs) c.loop-j.j c.loop-j-test.true in
    going_part c.loop-j.invariant (rw (← c.from-in-loop-j.ensures, ← c.reading.ensures) at more) c.in_ok-reads_line.ensures

pub returns : goal.returns
returns c = rw (← c.from.ensures) (going_end c.loop-j.invariant (reads_none _ _ _ (omega arith)))
