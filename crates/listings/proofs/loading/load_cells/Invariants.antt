-- `listings::loading::load_cells` meets its contract: between two lines the definition has still to read what is left, and the buffer holds
-- the cells before it. The measure is what is left of the text.
use lib.ListN.{length}
use Rattle.listings.proofs.Reader.{Going}
use Rattle.listings.proofs.loading.load_cells.Given as goal

abbrev pub invariant-loop-f : goal.invariant-loop-f
invariant-loop-f l = Going l.from.text.now l.s l.from.line (length l.initial.cells) l.cells l.left.text.now l.left.line l.count

abbrev pub decreases-loop-f : goal.decreases-loop-f
decreases-loop-f l = length l.left.text.now
