-- `listings::sizes::ListingSizes::cells` meets its contract: the product of two numbers up to 128 fits.
use native.Mathlib.Omega.{arith}
use Rattle.common.specs.Limits.{max_rows, max_columns}
use Rattle.listings.proofs.Steps.{ranged}
use Rattle.listings.proofs.sizes.ListingSizes.cells.Goals as goal

pub overflow_mul-result : goal.overflow_mul-result
unfolding max_rows max_columns
overflow_mul-result c = omega (arith, (ranged c.args.self).cells_most)
