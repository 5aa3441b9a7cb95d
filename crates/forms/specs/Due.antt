-- Document 01, "Job text": "Each line yields one form, or a refusal with its number and line, and a line that is not the form due
-- stops the reading."
use Rattle.std.specs.Prelude.{ℕ, ◌+◌, List, [], ◌∷◌}
use Rattle.std.proofs.Math.Option.{some, none}
use Rattle.common.specs.Outcome.{Outcome, done, refused, ◌then◌, ◌when◌, lowest, unless}
use Rattle.figures.specs.Line.{Lines, left, ◌⏎◌, follows}
use Rattle.forms.specs.Template.{Template, values}
use Rattle.forms.specs.Forms.{end_form}

-- what a line gave, and the lines after it
pub record Taken : Type 0 where
  pub vals : List ℕ
  pub later : Lines

-- the line due, number n of the text. Ground 1: "The line is missing or not the form due."
unfoldable pub due : Template → ℕ → Lines → Outcome Taken
due t n (left s) = refused 1 n
due t n (l ⏎ ls) = elim (values t l) [ none ↦ refused 1 n | some vs ↦ done (record { vals = vs; later = ls }) ]

-- `(end)`, and nothing after it. Ground 10: "Bytes follow `(end)`; the line is the one after it."
unfoldable pub last_line : ℕ → Lines → Outcome (Unit {0})
last_line n ls = due end_form n ls then λ e. unless (lowest ((10 when follows e.later) ∷ [])) (n + 1) (done tt)
