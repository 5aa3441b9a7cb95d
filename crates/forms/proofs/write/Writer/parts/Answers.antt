-- `forms::write::Writer::parts` meets its contract: the parts from part i on, and the last word, are still to be written.
use native.Mathlib.Omega.{arith}
use Rattle.forms.proofs.Parts.{going_part, going_stop, going_last, going_as, part_more, parts_none}
use Rattle.forms.proofs.write.Writer.parts.Goals as goal

pub returns-in_err-figure : goal.returns-in_err-figure
returns-in_err-figure c =
    let a = c.args in
    let more = part_more a.parts.now _ c.loop-word.word-index a.last.now c.loop-word-test.true in
    going_stop _ c.loop-word.invariant more c.in_err-figure.ensures c.from_residual.ensures

pub loop-word-preserved : goal.loop-word-preserved
loop-word-preserved c =
    let a = c.args in
    let more = part_more a.parts.now _ c.loop-word.word-index a.last.now c.loop-word-test.true in
    going_part c.loop-word.invariant more c.in_ok-figure.ensures

pub returns : goal.returns
returns c =
    let a = c.args in
    going_last (going_as c.loop-word.invariant (parts_none a.parts.now a.last.now _ (omega arith))) c.word.ensures
