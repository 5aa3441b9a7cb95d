-- `cells::checks::outs_fit` meets its contract.
use Rattle.std.proofs.Common.{rules, tests, arith, ◌∙◌, eqb, ltb}
use Rattle.common.specs.Limits.{max_outputs}
use Rattle.cells.specs.Record.{outs_fit}
use Rattle.cells.proofs.Every.{list_all_is}
use Rattle.cells.proofs.checks.outs_fit.Goals as goal

pub split_at-requires : goal.split_at-requires
unfolding max_outputs
split_at-requires c = omega (arith, c.requires, c.from.ensures)

pub returns-then-every : goal.returns-then-every
unfolding outs_fit
returns-then-every c =
    let x = c.args.x in
    let parts = c.split_at.ensures in
    let low = c.every.ensures (λ r. ltb r x.rows) (λ r t k. search (rules, tests)) ∙ list_all_is (λ r. ltb r x.rows) c.split_at.result.0.now in
    let unused = c.every-then-every.ensures (λ r. eqb r 0) (λ r t k. search (rules, tests)) ∙ list_all_is (λ r. eqb r 0) c.split_at.result.1.now in
    rw (outs_fit, ← c.from.ensures, ← parts.front, ← parts.back, ← low, c.if-every.true) unused

pub returns-else-every : goal.returns-else-every
unfolding outs_fit
returns-else-every c =
    let x = c.args.x in
    let parts = c.split_at.ensures in
    let low = c.every.ensures (λ r. ltb r x.rows) (λ r t k. search (rules, tests)) ∙ list_all_is (λ r. ltb r x.rows) c.split_at.result.0.now in
    rw (outs_fit, ← c.from.ensures, ← parts.front, ← low, c.if-every.false)
