-- Texts as bytes.
use Rattle.std.specs.Prelude.{ℕ, true, false, List, [], ◌∷◌, eqb}
use Prim.Native.Char.{code}
use Prim.Native.String.{String, [] as no_more, ◌∷◌ as ◌then-more◌}
use Rattle.std.proofs.Math.Option.{Option, some, none}

-- the bytes of a word that a definition quotes; all of them are ASCII
unfoldable pub bytes : String → List ℕ
bytes no_more = []
bytes (c then-more s) = code c ∷ bytes s

-- what follows the word w at the front of a text, or nothing where the text does not begin with w
unfoldable pub after : List ℕ → List ℕ → Option (List ℕ)
after [] s = some s
after (a ∷ w) [] = none
after (a ∷ w) (b ∷ s) = elim (eqb a b) [ true ↦ after w s | false ↦ none ]
