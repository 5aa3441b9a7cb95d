-- `figures::write_digits` meets its contract: what is still to be stored, stored into what is there, is the same list in each turn.
use mathlib.Core.Path.{sym, ◌∙◌}
use native.Mathlib.Omega.{arith}
use Rattle.figures.proofs.Writing.{fill_done, fill_decimal}
use Rattle.figures.proofs.write_digits.Goals as goal

pub returns : goal.returns
returns c =
    let a = c.args in
    sym (fill_done _ c.loop-j.left c.loop-j.out (omega arith)) ∙ c.loop-j.invariant ∙ fill_decimal _ a.n a.out.now c.figure_length-count.ensures c.requires
