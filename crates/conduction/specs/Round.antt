-- Document 01, "Conduction": the rounds. R and C, the numbers of rows and columns, are m and n here, and joined r c says whether the
-- cell at row r and column c conducts. A set of lit wires is one entry a wire, rows then columns, 1 lit, 0 dark.
use Rattle.std.specs.Prelude.{ℕ, zero, suc, ◌+◌, ◌-◌, ◌≡◌, Bool, true, false, not, ◌&&◌, ◌||◌, List, ◌++◌, length, get_or, eqb}
use Rattle.common.specs.Lists.{bit, tab, some_below, same}

-- whether a set has a wire
unfoldable pub lit : List ℕ → ℕ → Bool
lit set w = eqb (get_or set w 0) 1

-- "Before round 1 only row 0 is lit."
unfoldable pub start : ℕ → ℕ → List ℕ
start m n = tab (m + n) (λ w. bit (eqb w 0))

-- "Each round keeps every lit wire and adds each wire that a conducting cell joins to a wire lit before the round"
unfoldable pub round : ℕ → ℕ → (ℕ → ℕ → Bool) → List ℕ → List ℕ
round m n joined set =
    tab m (λ r. bit (lit set r || some_below n (λ c. joined r c && lit set (m + c))))
    ++ tab n (λ c. bit (lit set (m + c) || some_below m (λ r. joined r c && lit set r)))

-- the set after t rounds
unfoldable pub rounds : ℕ → ℕ → (ℕ → ℕ → Bool) → ℕ → List ℕ
rounds m n joined zero = start m n
rounds m n joined (suc t) = round m n joined (rounds m n joined t)

-- whether the sets after t and t + 1 rounds are equal
unfoldable pub at_rest : ℕ → ℕ → (ℕ → ℕ → Bool) → ℕ → Bool
at_rest m n joined t = same (rounds m n joined t) (rounds m n joined (suc t))

-- the least such t from t on, among k + 1 candidates; the last is taken without a test, since ground 15 makes that test
unfoldable pub first_rest : ℕ → ℕ → (ℕ → ℕ → Bool) → ℕ → ℕ → ℕ
first_rest m n joined zero t = t
first_rest m n joined (suc k) t = elim (at_rest m n joined t) [ true ↦ t | false ↦ first_rest m n joined k (suc t) ]

-- "the count of rounds is .. the least t with the sets after t and t + 1 rounds equal. It is at most R + C − 1."
unfoldable pub round_count : ℕ → ℕ → (ℕ → ℕ → Bool) → ℕ
round_count m n joined = first_rest m n joined (m + n - 1) 0

-- Document 02, Req 01: "The single round must therefore promise which wires are new": whether wire w is new in round t + 1, lit after it and
-- not before it
unfoldable pub is_new : ℕ → ℕ → (ℕ → ℕ → Bool) → ℕ → ℕ → Bool
is_new m n joined t w = lit (rounds m n joined (suc t)) w && not (lit (rounds m n joined t) w)

-- of the k sets after t, t + 1, .. rounds, the first that has the wire: 1 plus its count of rounds, or 0 where none has it
unfoldable pub first_among : ℕ → ℕ → (ℕ → ℕ → Bool) → (w k t : ℕ) → ℕ
first_among m n joined w zero t = 0
first_among m n joined w (suc k) t = elim (lit (rounds m n joined t) w) [ true ↦ 1 + t | false ↦ first_among m n joined w k (suc t) ]

-- Req 01: "0 if dark, otherwise 1 plus the round in which it was first lit, so row 0 gives 1": a wire's number after t rounds, by the sets
-- after 0, 1, .. t rounds
unfoldable pub first_round : ℕ → ℕ → (ℕ → ℕ → Bool) → (t w : ℕ) → ℕ
first_round m n joined t w = first_among m n joined w (suc t) 0

-- the first rounds of all wires, rows then columns
unfoldable pub first_rounds : ℕ → ℕ → (ℕ → ℕ → Bool) → ℕ → List ℕ
first_rounds m n joined t = tab (m + n) (first_round m n joined t)

-- what round t + 1 promises, over the wires' first rounds before it and after it, with other places past the wires: each wire that is new gets
-- 1 plus that round, which is t + 2, and every other place keeps what it had; `added` says whether any wire is new
pub record Rounded (m n : ℕ) (joined : ℕ → ℕ → Bool) (t : ℕ) (before after : List ℕ) (added : Bool) : Type 0 where
  pub new_wires : after ≡ tab (length before) (λ w. elim (is_new m n joined t w) [ true ↦ t + 2 | false ↦ get_or before w 0 ])
  pub adds : added ≡ not (at_rest m n joined t)
