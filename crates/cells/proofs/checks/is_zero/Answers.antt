-- `cells::checks::is_zero` meets its contract.
use Rattle.std.proofs.Common.{rules, tests, eqb, ◌∙◌}
use Rattle.cells.proofs.Every.{list_all_is}
use Rattle.cells.proofs.checks.is_zero.Goals as goal

pub returns : goal.returns
returns c = c.every.ensures (λ b. eqb b 0) (λ x r k. search (rules, tests)) ∙ list_all_is _ _
