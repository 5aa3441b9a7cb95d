-- `listings::sizes::ListingSizes::place` meets its contract: the place is below the number of cells.
use native.Mathlib.Omega.{arith}
use lib.Arith.{digits_lt}
use Rattle.common.specs.Limits.{max_rows, max_columns}
use Rattle.listings.proofs.Steps.{ranged}
use Rattle.listings.proofs.sizes.ListingSizes.place.Goals as goal

pub overflow_mul-result : goal.overflow_mul-result
unfolding max_rows max_columns
overflow_mul-result c =
    let a = c.args in
    omega (arith, (ranged a.self).cells_most, digits_lt c.requires.0 c.requires.1)

pub overflow_add-result : goal.overflow_add-result
unfolding max_rows max_columns
overflow_add-result c =
    let a = c.args in
    omega (arith, (ranged a.self).cells_most, digits_lt c.requires.0 c.requires.1)
