-- The wires' first rounds as the code keeps them: a stamp for each wire, which is its first round by the rounds run so far. Stamps stand as the
-- wires do, rows then columns. m, n and joined are as in Round. There may be more places than wires; those past the last wire are 0.
use Rattle.std.specs.Prelude.{ℕ, ◌+◌, ◌<◌, ◌≡◌, Bool, true, false, List, Option, Some, None}
use Rattle.common.specs.Lists.{padded}
use Rattle.conduction.specs.Round.{at_rest, first_rounds}

-- the stamps after t rounds, in k places
unfoldable pub stamps_after : ℕ → ℕ → ℕ → (ℕ → ℕ → Bool) → ℕ → List ℕ
stamps_after k m n joined t = padded k (first_rounds m n joined t)

-- a count of rounds that is the first at rest, and the stamps after so many rounds, in k places
pub record Counted (m n : ℕ) (joined : ℕ → ℕ → Bool) (k : ℕ) (after : List ℕ) (count : ℕ) : Type 0 where
  pub least : (t : ℕ) → t < count → at_rest m n joined t ≡ false
  pub rests : at_rest m n joined count ≡ true
  pub stamps : after ≡ stamps_after k m n joined count

-- what the rounds come to: their count, or that no number of rounds below m + n is at rest
abbrev pub Settled : (m n : ℕ) → (ℕ → ℕ → Bool) → (k : ℕ) → (after : List ℕ) → Option ℕ → Type 0
Settled m n joined k after None = (t : ℕ) → t < m + n → at_rest m n joined t ≡ false
Settled m n joined k after (Some count) = Counted m n joined k after count
