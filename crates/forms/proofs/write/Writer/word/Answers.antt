-- `forms::write::Writer::word` meets its contract: the room decides, and then the word is written.
use mathlib.Core.Path.{refl}
use native.Mathlib.Omega.{arith}
use Rattle.forms.proofs.Parts.{written_cut, wrote_there}
use Rattle.forms.proofs.write.Writer.word.Goals as goal

pub returns : goal.returns
returns c = wrote_there refl (written_cut (omega arith) refl (omega arith) c.copy_from_slice.ensures.after)
