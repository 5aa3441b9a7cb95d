-- `listings::printing::write_from` meets its contract: the lines of the cells from cell i on are still to be written.
use Prim.Native.Nat.{◌+◌}
use lib.ListN.{drop}
use Rattle.forms.proofs.Parts.{Going}
use Rattle.listings.specs.Printing.{row_lines}
use Rattle.listings.proofs.printing.write_from.Given as goal

abbrev pub invariant-loop-i : goal.invariant-loop-i
invariant-loop-i l = Going l.initial.writer (row_lines l.r l.c l.cells) l.writer (row_lines l.r (l.c + l.i) (drop l.i l.cells))
