-- `forms::write::Writer::parts` meets its contract: the parts from part i on, and the last word, are still to be written.
use lib.ListN.{drop}
use Rattle.forms.specs.Written.{parts_text}
use Rattle.forms.proofs.Parts.{Going}
use Rattle.forms.proofs.write.Writer.parts.Given as goal

abbrev pub invariant-loop-word : goal.invariant-loop-word
invariant-loop-word l =
    Going l.initial.self (parts_text l.parts l.last) l.self (parts_text (drop l.word-index l.parts) l.last)
