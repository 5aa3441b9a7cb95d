-- A text written into a buffer, and the text of the parts of a line.
use Rattle.std.specs.Prelude.{ℕ, ◌+◌, ◌<◌, ◌≡◌, List, [], ◌∷◌, ◌++◌, length, Option, Some, None}
use Rattle.std.specs.Borrow.{Bor}
use Rattle.figures.specs.Bytes.{bytes}
use Rattle.figures.specs.Figure.{decimal}
use Rattle.figures.specs.Position.{splice}

-- the bytes w were to be written at a position of a buffer that held s and now holds t. They stand there, and r is the position past
-- them; or they do not fit, r is None, and the buffer holds anything.
pub record Written (s t : List ℕ) (at : ℕ) (w : List ℕ) (r : Option ℕ) : Type 0 where
  pub kept : length t ≡ length s
  pub within : (n : ℕ) → r ≡ Some n → (n ≡ at + length w) × (t ≡ splice s at w)
  pub beyond : r ≡ None → length s < at + length w

-- a line's words, each with the figure after it, and its last word
unfoldable pub parts_text : List (Bor (List ℕ) × ℕ) → List ℕ → List ℕ
parts_text [] last = last
parts_text (p ∷ ps) last = p.0.now ++ (decimal p.1 ++ parts_text ps last)

-- the line of a cell with a switch, by the word before the switch
unfoldable pub switch_text : ℕ → ℕ → List ℕ → ℕ → List ℕ
switch_text r c word x = bytes "(cell " ++ (decimal r ++ (bytes " " ++ (decimal c ++ (word ++ (decimal x ++ bytes "))\n")))))
