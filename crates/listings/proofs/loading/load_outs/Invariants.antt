-- `listings::loading::load_outs` meets its contract: between two lines the definition has still to read what is left, and the array holds the
-- output rows before it.
use Rattle.listings.proofs.Stands.{StandsRead}
use Rattle.listings.proofs.loading.load_outs.Given as goal

abbrev pub invariant-loop-j : goal.invariant-loop-j
invariant-loop-j l = StandsRead l.from.text.now l.s l.from.line l.out-items l.text l.j
