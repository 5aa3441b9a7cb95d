-- A text with bytes written at a position.
use Rattle.std.specs.Prelude.{ℕ, ◌+◌, List, ◌++◌, length, take, drop}

-- a text with the bytes w in place of those from a position on
unfoldable pub splice : List ℕ → ℕ → List ℕ → List ℕ
splice s at w = take at s ++ w ++ drop (at + length w) s
