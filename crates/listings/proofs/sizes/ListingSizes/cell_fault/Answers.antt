-- `listings::sizes::ListingSizes::cell_fault` meets its contract: each return knows the tests that the cell passed.
use Prim.Native.Nat.{ℕ}
use mathlib.Core.Path.{sym, ap, ◌∙◌}
use mathlib.Core.Bool.{true, false}
use native.Mathlib.Omega.{arith}
use lib.ListN.{length-replicate}
use Rattle.common.specs.Outcome.{lowest}
use Rattle.common.specs.Fault.{tested}
use Rattle.listings.proofs.Faults.{out_of_place, row_out, column_out, cell_early, cell_named}
use Rattle.listings.proofs.sizes.ListingSizes.cell_fault.Goals.{else-f-self-via-then-f-self+then-f-self-2+then-count-place+else-switch_below, else-f-self-via-then-f-self+then-f-self-2+else-count-place, else-f-self-via-then-f-self+else-f-self-2, else-f-self-via-else-f-self}
use Rattle.listings.proofs.sizes.ListingSizes.cell_fault.Goals as goal

pub returns-then-switch_below : goal.returns-then-switch_below
unfolding lowest tested
returns-then-switch_below c =
    sym (ap tested (cell_named _ _ true (omega arith) (omega arith) (omega (arith, length-replicate {A = ℕ} c.args.count 0)) (sym c.switch_below.ensures ∙ c.if-switch_below.true)))

pub returns : goal.returns
unfolding lowest
returns c =
    elim c.else-f-self.branch [
      | else-f-self-via-then-f-self+then-f-self-2+then-count-place+else-switch_below w ↦
          out_of_place _
          (cell_named _ _ false (omega arith) (omega arith) (omega (arith, length-replicate {A = ℕ} c.args.count 0)) (sym w.switch_below.ensures ∙ w.if-switch_below.false))
      | else-f-self-via-then-f-self+then-f-self-2+else-count-place w ↦ out_of_place _ (cell_early _ _ (omega arith) (omega arith) (omega (arith, length-replicate {A = ℕ} c.args.count 0)))
      | else-f-self-via-then-f-self+else-f-self-2 w ↦ out_of_place _ (column_out _ _ (omega arith) (omega arith))
      | else-f-self-via-else-f-self w ↦ out_of_place _ (row_out _ _ (omega arith))
    ]
