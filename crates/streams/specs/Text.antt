-- How a program hands over its text.
use Rattle.std.specs.Prelude.{ℕ, ◌≡◌, ◌≤◌, List, length, take}

-- the first n bytes of a buffer are the text
pub record IsText (text : List ℕ) (n : ℕ) (out : List ℕ) : Type 0 where
  pub fits : n ≤ length out
  pub whole : take n out ≡ text
