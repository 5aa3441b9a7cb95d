-- How a call or a reading ends. Document 01, "Grounds for sending a job back": "A refusal is its number and a line .., zeros in
-- the whole output buffer, and 0 as value, rounds or field of a record."
use Rattle.std.specs.Prelude.{ℕ, zero, suc, Bool, true, false, ◌≡◌, List, [], ◌∷◌}
use Rattle.common.specs.Lists.{zeros, padded}

infixl 20 ◌then◌
infix 10 ◌when◌
-- what was asked for, or the number and the line of a refusal
pub data Outcome (A : Type 0) : Type 0 where
  done : A → Outcome A
  refused : (number line : ℕ) → Outcome A

-- a refusal stands; what is done goes on
unfoldable pub ◌then◌ : {A B : Type 0} → Outcome A → (A → Outcome B) → Outcome B
done a then f = f a
refused k l then f = refused k l

-- one ground: its number, and whether it is met
pub data Ground : Type 0 where
  ◌when◌ : (number : ℕ) (met : Bool) → Ground

-- "the lowest number": of grounds in rising order, the number of the first that is met; 0 where none is
unfoldable pub lowest : List Ground → ℕ
lowest [] = 0
lowest ((k when true) ∷ gs) = k
lowest ((k when false) ∷ gs) = lowest gs

-- the largest number of a ground
unfoldable pub most_number : ℕ
most_number = 15

-- what is to follow, unless there is a number: then the refusal with that number and this line
unfoldable pub unless : {A : Type 0} → (number line : ℕ) → Outcome A → Outcome A
unless zero line rest = rest
unless (suc k) line rest = refused (suc k) line

-- the number and the line of an outcome, 0 and 0 where nothing is refused
unfoldable pub number_of : {A : Type 0} → Outcome A → ℕ
number_of (done a) = 0
number_of (refused k l) = k

unfoldable pub line_of : {A : Type 0} → Outcome A → ℕ
line_of (done a) = 0
line_of (refused k l) = l

-- the value of an outcome, and what stands in its place after a refusal
unfoldable pub value_of : {A B : Type 0} → B → (A → B) → Outcome A → B
value_of otherwise f (done a) = f a
value_of otherwise f (refused k l) = otherwise

-- an output buffer of n entries, which are bytes or 16-bit numbers: the answer's entries and zeros past them, or zeros in the whole of it
unfoldable pub buffer_of : {A : Type 0} → ℕ → (A → List ℕ) → Outcome A → List ℕ
buffer_of n f (done a) = padded n (f a)
buffer_of n f (refused k l) = zeros n

-- what a call promises of its outcome o: its answer r, which is what it hands over for that outcome, and every entry of the buffer of
-- `room` entries that is lent to it, by what the buffer holds after the call
pub record Answered {A B : Type 0} (o : Outcome A) (handed : Outcome A → B) (entries : A → List ℕ) (room : ℕ) (r : B) (after : List ℕ) : Type 0 where
  pub answer : r ≡ handed o
  pub buffer : after ≡ buffer_of room entries o
