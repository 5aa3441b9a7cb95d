-- What a function that reads hands over for an option of the law.
use Rattle.std.specs.Prelude.{ℕ, ◌-◌, ◌≡◌, true, false, List, [], ◌∷◌, Option, Some, None}
use Rattle.std.proofs.Math.Option.{some, none}
use Rattle.std.proofs.Math.Option as maybe
use Rattle.figures.specs.declared.Figured.{Figured}
use Rattle.figures.specs.Figure as law
use Rattle.figures.specs.Figure.{is_digit}

-- nothing for nothing, and otherwise a value that stands for the law's
abbrev pub Given : {A B : Type 0} → maybe.Option A → (B → A) → Option B → Type 0
Given o f None = o ≡ none
Given o f (Some b) = o ≡ some (f b)

-- a figure and what follows it, as the law has them
abbrev pub figured : Figured → law.Figured
figured f = record { figure = f.figure; rest = f.rest.now }

-- the value of the digit that a text begins with, and what follows it
unfoldable pub first_digit : List ℕ → maybe.Option law.Figured
first_digit [] = none
first_digit (b ∷ s) = elim (is_digit b) [ true ↦ some (record { figure = b - 48; rest = s }) | false ↦ none ]
