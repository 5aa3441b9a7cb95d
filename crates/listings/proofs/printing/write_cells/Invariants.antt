-- `listings::printing::write_cells` meets its contract: the lines of the rows that are left are still to be written.
use Prim.Native.Nat.{max, ◌*◌}
use lib.ListN.{length}
use Rattle.std.specs.Slice.Iter.{chunks_rest, chunks_size}
use Rattle.std.specs.Iterator.Adapters.{enumerate_source, enumerate_count}
use Rattle.forms.proofs.Parts.{Going}
use Rattle.listings.specs.Listing.{cell_lines}
use Rattle.listings.proofs.Text.{Pieces}
use Rattle.listings.proofs.printing.write_cells.Given as goal

abbrev pub invariant-loop-r : goal.invariant-loop-r
invariant-loop-r l =
    goal.iterator-loop-r.can_next l.r-iterator
    × goal.iterator-loop-r.is_finite l.r-iterator
    × Pieces (max l.columns 1) (length l.cells) (enumerate_count l.r-iterator) (chunks_rest (enumerate_source l.r-iterator)) (chunks_size (enumerate_source l.r-iterator))
    × Going l.initial.writer (cell_lines l.columns 0 l.cells) l.writer (cell_lines (max l.columns 1) (enumerate_count l.r-iterator * max l.columns 1) (chunks_rest (enumerate_source l.r-iterator)))
