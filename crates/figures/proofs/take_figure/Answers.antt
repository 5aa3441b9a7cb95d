-- `figures::take_figure` meets its contract: after each digit the figure is still to be read on, and what is read of it is small.
use Prim.Native.Nat.{◌+◌, ◌-◌}
use mathlib.Core.Path.{◌≡◌, ◌∙◌}
use native.Mathlib.Omega.{arith}
use Rattle.figures.proofs.Digits.{take_first, first_small, few_digits, place_more, on_more}
use Rattle.figures.proofs.take_figure.Goals as goal

pub loop-init : goal.loop-init
loop-init c = record { same = take_first _ _ c.in_ok-read.ensures; below = first_small _ _ c.in_ok-read.ensures }

pub overflow_add-read : goal.overflow_add-read
overflow_add-read c = omega (arith, few_digits _ _ c.loop-test.true c.loop.invariant.below, first_small _ _ c.in-Some.ensures)

pub loop-preserved : goal.loop-preserved
loop-preserved c = record {
  same = c.loop.invariant.same ∙ on_more _ _ _ _ c.in-Some.ensures (5 - (c.loop.counter + 1)) (omega arith) (λ (z : c.loop.read.figure ≡ 0). omega arith);
  below = place_more _ _ _ c.loop.invariant.below (first_small _ _ c.in-Some.ensures);
}
