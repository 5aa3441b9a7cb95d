-- Document 01, "Job text": "Figures are decimal, no leading zero, at most 5 digits."
use Rattle.std.specs.Prelude.{ℕ, zero, suc, ◌+◌, ◌-◌, ◌*◌, ◌/◌, ◌%◌, Bool, true, false, not, ◌&&◌, ◌||◌, List, [], ◌∷◌, length, drop, eqb, leb, ltb}
use Rattle.std.proofs.Math.Option.{Option, some, none}

-- the bytes of the digits 0 to 9 are 48 to 57
unfoldable pub is_digit : ℕ → Bool
is_digit b = leb 48 b && leb b 57

-- the digits that a text begins with
unfoldable pub digits_of : List ℕ → List ℕ
digits_of [] = []
digits_of (b ∷ s) = elim (is_digit b) [ true ↦ b ∷ digits_of s | false ↦ [] ]

-- at least one digit and at most 5, the first not 0 unless it stands alone
unfoldable pub is_figure : List ℕ → Bool
is_figure [] = false
is_figure (b ∷ ds) = leb (length ds) 4 && (eqb (length ds) 0 || not (eqb b 48))

-- the number that digits write, after those of the number n
unfoldable pub number_from : ℕ → List ℕ → ℕ
number_from n [] = n
number_from n (b ∷ ds) = number_from (n * 10 + (b - 48)) ds

-- a figure and what follows it in the text
pub record Figured : Type 0 where
  pub figure : ℕ
  pub rest : List ℕ

-- the figure that a text begins with: all the digits there, or nothing where they are no figure
unfoldable pub take_figure : List ℕ → Option Figured
take_figure s =
    elim (is_figure (digits_of s)) [
      | true ↦ some (record { figure = number_from 0 (digits_of s); rest = drop (length (digits_of s)) s })
      | false ↦ none
    ]

-- the digits of a number below 10 to the power k, k at least 1, in front of a text
unfoldable pub digits : ℕ → ℕ → List ℕ → List ℕ
digits zero n s = s
digits (suc k) n s = elim (ltb n 10) [ true ↦ (48 + n) ∷ s | false ↦ digits k (n / 10) ((48 + n % 10) ∷ s) ]

-- the figure of a number up to 99999
unfoldable pub decimal : ℕ → List ℕ
decimal n = digits 5 n []
