-- Document 01, "Job text": "One bracketed form a line, ended by a line feed, the last line too."
use Rattle.std.specs.Prelude.{ℕ, Bool, true, false, List, [], ◌∷◌, eqb}

infixr 40 ◌⏎◌
-- the lines of a text: each line's bytes, without the line feed that ends it, and last the bytes that no line feed ends
pub data Lines : Type 0 where
  left : List ℕ → Lines
  ◌⏎◌ : List ℕ → Lines → Lines

-- one byte more in front of the first line
unfoldable pub onto : ℕ → Lines → Lines
onto b (left s) = left (b ∷ s)
onto b (l ⏎ ls) = (b ∷ l) ⏎ ls

-- a line feed is byte 10
unfoldable pub lines_of : List ℕ → Lines
lines_of [] = left []
lines_of (b ∷ s) = elim (eqb b 10) [ true ↦ [] ⏎ lines_of s | false ↦ onto b (lines_of s) ]

-- whether any byte is left
unfoldable pub follows : Lines → Bool
follows (left []) = false
follows (left (b ∷ s)) = true
follows (l ⏎ ls) = true
