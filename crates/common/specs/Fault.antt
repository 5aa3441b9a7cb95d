-- Document 01, "Grounds for sending a job back": the fifteen grounds as the calls name them, and the number of each.
use Rattle.std.specs.Prelude.{ℕ, zero, suc, ◌-◌, ◌≡◌, List, [], ◌∷◌, get_or, Result, Ok, Err, MatchResult}
use Rattle.common.specs.declared.Fault.{Fault}
use Rattle.common.specs.declared.Fault.TheVariants as fault
use Rattle.common.specs.declared.Refusal.{Refusal}
use Rattle.common.specs.Outcome.{Outcome, done, refused}

unfoldable pub number_of_fault : Fault → ℕ
number_of_fault fault.NotDue = 1
number_of_fault fault.OutOfRange = 2
number_of_fault fault.OutOfTurn = 3
number_of_fault fault.NoSwitch = 4
number_of_fault fault.NoId = 5
number_of_fault fault.Unordered = 6
number_of_fault fault.SameChildren = 7
number_of_fault fault.Doubled = 8
number_of_fault fault.Alike = 9
number_of_fault fault.BytesFollow = 10
number_of_fault fault.TooLarge = 11
number_of_fault fault.Misplaced = 12
number_of_fault fault.WrongSetting = 13
number_of_fault fault.NoRoom = 14
number_of_fault fault.Unsettled = 15

-- the grounds in their order, 1 first
unfoldable pub faults : List Fault
faults =
    fault.NotDue
    ∷ fault.OutOfRange
    ∷ fault.OutOfTurn
    ∷ fault.NoSwitch
    ∷ fault.NoId
    ∷ fault.Unordered
    ∷ fault.SameChildren
    ∷ fault.Doubled
    ∷ fault.Alike
    ∷ fault.BytesFollow
    ∷ fault.TooLarge
    ∷ fault.Misplaced
    ∷ fault.WrongSetting
    ∷ fault.NoRoom
    ∷ fault.Unsettled
    ∷ []

-- the ground of a number from 1 to 15
unfoldable pub fault_of : ℕ → Fault
fault_of k = get_or faults (k - 1) fault.Unsettled

-- what a test of grounds answers: the ground that it met, or nothing for number 0
unfoldable pub tested : ℕ → Result (Unit {0}) Fault
tested zero = Ok tt
tested (suc k) = Err (fault_of (suc k))

-- what is handed over for an outcome: what f makes of what was asked for, or the refusal
unfoldable pub handed : {A B : Type 0} → (A → B) → Outcome A → Result B Refusal
handed f (done a) = Ok (f a)
handed f (refused k l) = Err (record { fault = fault_of k; line = l })

-- a reading that begins with a step which handed over r: it goes on as `rest` says of the step's value, or ends with the step's refusal
abbrev pub Goes : {A V : Type 0} → Outcome A → Result V Refusal → (V → Outcome A) → Type 0
Goes whole r rest = MatchResult r (λ v. whole ≡ rest v) (λ e. handed (λ a. a) whole ≡ Err e)
