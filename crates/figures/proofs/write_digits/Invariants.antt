-- `figures::write_digits` meets its contract: what is still to be stored, stored into what is there, is the same list in each turn.
use mathlib.Core.Path.{◌≡◌}
use Rattle.figures.proofs.Writing.{fill}
use Rattle.figures.proofs.write_digits.Given as goal

abbrev pub invariant-loop-j : goal.invariant-loop-j
invariant-loop-j l = fill l.j l.left l.out ≡ fill l.count l.n l.initial.out
