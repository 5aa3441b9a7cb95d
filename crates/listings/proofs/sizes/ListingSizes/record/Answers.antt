-- `listings::sizes::ListingSizes::record` meets its contract: sizes in their ranges fit.
use native.Mathlib.Omega.{arith}
use Rattle.common.specs.Limits.{max_rows, max_columns, max_switches, max_outputs}
use Rattle.listings.proofs.Steps.{ranged}
use Rattle.listings.proofs.sizes.ListingSizes.record.Goals as goal

pub overflow_cast-result : goal.overflow_cast-result
unfolding max_rows
overflow_cast-result c = omega (arith, (ranged c.args.self).rows_most)

pub overflow_cast-result-2 : goal.overflow_cast-result-2
unfolding max_columns
overflow_cast-result-2 c = omega (arith, (ranged c.args.self).columns_most)

pub overflow_cast-result-3 : goal.overflow_cast-result-3
unfolding max_switches
overflow_cast-result-3 c = omega (arith, (ranged c.args.self).switches_most)

pub overflow_cast-result-4 : goal.overflow_cast-result-4
unfolding max_outputs
overflow_cast-result-4 c = omega (arith, (ranged c.args.self).outputs_most)
