-- `cells::checks::cells_fit` meets its contract.
use Rattle.std.proofs.Common.{arith, sym, ◌∙◌}
use Rattle.common.specs.Limits.{max_switches}
use Rattle.cells.proofs.Sizes.{in_range_lem, cells_fit_split, cells_fit_short}
use Rattle.cells.proofs.checks.cells_fit.Goals as goal

pub overflow_mul-most : goal.overflow_mul-most
unfolding max_switches
overflow_mul-most c = omega (arith, (in_range_lem _ _ _ _ c.requires).switches_most)

pub overflow_add-most : goal.overflow_add-most
unfolding max_switches
overflow_add-most c = omega (arith, (in_range_lem _ _ _ _ c.requires).switches_most)

pub overflow_cast-most : goal.overflow_cast-most
unfolding max_switches
overflow_cast-most c = omega (arith, (in_range_lem _ _ _ _ c.requires).switches_most)

pub returns-then-is_zero : goal.returns-then-is_zero
returns-then-is_zero c =
    let x = c.args.x in
    let split = c.in-Some.ensures.cases in
    let zero = sym c.is_zero.ensures ∙ c.if-is_zero.true in
    let low = c.at_most.ensures in
    sym (cells_fit_split x c.args.cells.now c.in-Some.codes.now c.in-Some.past.now (rw c.size.ensures at split.0) (rw c.size.ensures at split.1) (rw c.size.ensures at split.2) ∙ rw zero (sym low))

pub returns-else-is_zero : goal.returns-else-is_zero
returns-else-is_zero c =
    let x = c.args.x in
    let split = c.in-Some.ensures.cases in
    let none = sym c.is_zero.ensures ∙ c.if-is_zero.false in
    sym (cells_fit_split x c.args.cells.now c.in-Some.codes.now c.in-Some.past.now (rw c.size.ensures at split.0) (rw c.size.ensures at split.1) (rw c.size.ensures at split.2) ∙ rw none (sym c.if-is_zero.false))

pub returns-in-None : goal.returns-in-None
returns-in-None c = sym (cells_fit_short c.args.x c.args.cells.now (rw (← c.size.ensures) c.in-None.ensures.cases))
