-- `forms::write::Writer::figure` meets its contract: the room decides, and then the word is written and the figure after it.
use mathlib.Core.Path.{refl, ◌∙◌}
use native.Mathlib.Omega.{arith}
use Rattle.figures.proofs.Writing.{length_most, front_whole}
use Rattle.forms.proofs.Parts.{written_cut, written_then, wrote_there}
use Rattle.forms.proofs.write.Writer.figure.Goals as goal

pub overflow_add-word : goal.overflow_add-word
overflow_add-word c = omega (arith, length_most c.args.n)

pub returns : goal.returns
returns c =
    wrote_there refl (written_then c.args.self.now.fits
    (written_cut (omega arith) refl (omega arith) c.copy_from_slice.ensures.after)
    (written_cut (omega arith) (omega arith) (omega arith) (c.write_figure.ensures ∙ front_whole _ _ (omega arith))))
