-- `listings::printing::write_row` meets its contract: the lines of the cells from the eight of place i on are still to be written.
use Prim.Native.Nat.{◌*◌}
use lib.ListN.{drop}
use Rattle.forms.proofs.Parts.{Going}
use Rattle.listings.specs.Printing.{row_lines}
use Rattle.listings.proofs.printing.write_row.Given as goal

abbrev pub invariant-loop-i : goal.invariant-loop-i
invariant-loop-i l = Going l.initial.writer (row_lines l.r 0 l.row) l.writer (row_lines l.r (8 * l.i) (drop (8 * l.i) l.row))
