-- `listings::printing::write_outs` meets its contract: the lines of the outputs from output j on are still to be written.
use lib.ListN.{drop}
use Rattle.forms.specs.Forms.{out_lines}
use Rattle.forms.proofs.Parts.{Going}
use Rattle.listings.proofs.printing.write_outs.Given as goal

abbrev pub invariant-loop-j : goal.invariant-loop-j
invariant-loop-j l = Going l.initial.writer (out_lines 0 l.outs) l.writer (out_lines l.j (drop l.j l.outs))
