-- `forms::write::Writer::line` meets its contract: what is written in the same buffer ends within it.
use Rattle.forms.proofs.Parts.{written_ends}
use Rattle.forms.proofs.write.Writer.line.Goals as goal

pub invariant_of-self-2 : goal.invariant_of-self-2
invariant_of-self-2 c = record { fits = written_ends c.line_at.ensures c.in-Some.is c.args.self.now.fits }
