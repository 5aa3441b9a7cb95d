-- What a program hands over for its text: the whole text at the start of a buffer and zeros past it, or no bytes where it does not fit.
use Rattle.std.specs.Prelude.{ℕ, ◌≡◌, List, [], ◌∷◌, length, ltb, Result, MatchResult}
use Rattle.common.specs.declared.Refusal.{Refusal}
use Rattle.common.specs.Fault.{number_of_fault}
use Rattle.common.specs.Outcome.{Outcome, done, ◌when◌, lowest, unless, value_of, Answered}
use Rattle.forms.specs.Template.{line}
use Rattle.forms.specs.Forms.{refused_form}

-- bytes that take n places of a buffer of `room` bytes, or ground 14 where they do not fit. The number is told to nobody: see `Said`
unfoldable pub in_room : ℕ → ℕ → List ℕ → Outcome (List ℕ)
in_room room n s = unless (lowest ((14 when ltb room n) ∷ [])) 0 (done s)

-- a text that fits the buffer, whole, or none of it
unfoldable pub whole_or_none : ℕ → List ℕ → Outcome (List ℕ)
whole_or_none room s = in_room room (length s) s

-- the count of bytes handed over, 0 and no number where the text does not fit, and every byte of the buffer of `room` bytes
abbrev pub Said : ℕ → List ℕ → ℕ → List ℕ → Type 0
Said room s n out = Answered (whole_or_none room s) (λ o. value_of {B = ℕ} 0 length o) (λ t. t) room n out

-- the line of a refusal
unfoldable pub refusal_line : Refusal → List ℕ
refusal_line r = line refused_form (number_of_fault r.fault ∷ r.line ∷ [])

-- a program's text t, by what was handed over before a refusal is printed: the text itself, or a refusal whose line is the text
abbrev pub Untold : (room : ℕ) (t : List ℕ) → Result ℕ Refusal → (out : List ℕ) → Type 0
Untold room t r out = MatchResult r (λ n. Said room t n out) (λ e. refusal_line e ≡ t)
