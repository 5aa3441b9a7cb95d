-- The answer of an outcome from what a call hands over: the ground of a refusal has its number.
use Prim.Native.Nat.{ℕ, ◌≤◌}
use mathlib.Core.Path.{◌≡◌}
use native.Mathlib.Omega.{arith}
use Rattle.std.specs.Prelude.{Result}
use Rattle.common.specs.declared.Fault.{Fault}
use Rattle.common.specs.declared.Fault.TheVariants as fault
use Rattle.common.specs.declared.Refusal.{Refusal}
use Rattle.common.specs.Fault.{number_of_fault, handed}
use Rattle.common.specs.Outcome.{Outcome, done, refused, most_number}
use Rattle.common.proofs.Faults.{number_faulted}
use Rattle.common.proofs.Within.{EndsWithin, ends_refused}
use Rattle.crossbar.specs.Host.{packed, packed_from}

-- no number of a ground is above 15
pub number_most : (f : Fault) → number_of_fault f ≤ 15
unfolding number_of_fault
number_most fault.NotDue = omega arith
number_most fault.OutOfRange = omega arith
number_most fault.OutOfTurn = omega arith
number_most fault.NoSwitch = omega arith
number_most fault.NoId = omega arith
number_most fault.Unordered = omega arith
number_most fault.SameChildren = omega arith
number_most fault.Doubled = omega arith
number_most fault.Alike = omega arith
number_most fault.BytesFollow = omega arith
number_most fault.TooLarge = omega arith
number_most fault.Misplaced = omega arith
number_most fault.WrongSetting = omega arith
number_most fault.NoRoom = omega arith
number_most fault.Unsettled = omega arith

-- a call refuses for a ground, so its answer is that of the outcome
pub packed_is :
    {A : Type 0} {P : A → Type 0} {b : ℕ} (value : A → ℕ) (o : Outcome A) (r : Result ℕ Refusal)
    → EndsWithin P b o
    → r ≡ handed value o
    → packed_from r ≡ packed value o
unfolding packed packed_from handed most_number
packed_is value (done a) r p e = rw e
packed_is value (refused k n) r (ends_refused low high l) e = rw (e, number_faulted k low high)
