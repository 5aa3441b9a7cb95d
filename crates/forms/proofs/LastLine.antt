-- What the last line says: it is not `(end)`, bytes follow it, or it ends the text.
use Prim.Native.Nat.{ℕ, ◌+◌}
use mathlib.Core.Path.{◌≡◌, refl}
use mathlib.Core.Bool.{true, false}
use mathlib.Core.List.{List, [], ◌∷◌}
use lib.ListN.{length}
use lib.Dec.{eqb}
use Rattle.std.specs.Prelude.{Result, Ok, Err}
use Rattle.common.specs.declared.Fault.TheVariants as fault
use Rattle.common.specs.declared.Refusal.{Refusal}
use Rattle.common.specs.Fault.{fault_of, faults, handed, Goes}
use Rattle.common.specs.Outcome.{Outcome, done, refused, ◌then◌, ◌when◌, lowest, unless}
use Rattle.common.proofs.Outcome.{unless_then, then_then}
use Rattle.figures.specs.Line.{Lines, lines_of, follows}
use Rattle.figures.proofs.Ends.{follows_is}
use Rattle.forms.specs.declared.Form.{Form}
use Rattle.forms.specs.Due.{due, last_line}
use Rattle.forms.specs.Forms.{end_form}
use Rattle.forms.specs.Read.{refusal_in}
use Rattle.forms.proofs.Told.{IsDue, IsNotDue}

module _ (n : ℕ) (s : List ℕ) where
  pub last_not : (g : Form) → IsNotDue end_form n s g → Err (refusal_in n g) ≡ handed (λ o. o) (last_line n (lines_of s))
  unfolding last_line ◌then◌ handed fault_of faults
  last_not g d = rw (d.0, d.1)

  module _ (rest : List ℕ) (d : IsDue end_form n s [] rest) where
    pub last_more : eqb (length rest) 0 ≡ false → Err (record { fault = fault.BytesFollow; line = n + 1 }) ≡ handed (λ o. o) (last_line n (lines_of s))
    unfolding last_line ◌then◌ handed fault_of faults lowest unless
    last_more e = rw (d, follows_is, e)

    pub last_ends : eqb (length rest) 0 ≡ true → Ok tt ≡ handed (λ o. o) (last_line n (lines_of s))
    unfolding last_line ◌then◌ handed lowest unless
    last_ends e = rw (d, follows_is, e)

-- the same of a reading that ends with that line and hands on what it has read
module _ {A : Type 0} (a : A) (n : ℕ) (ls : Lines) where
  abbrev LastRead : Outcome A
  LastRead = due end_form n ls then λ e. unless (lowest ((10 when follows e.later) ∷ [])) (n + 1) (done a)

  pub last_hands : LastRead ≡ last_line n ls then λ o. done a
  unfolding last_line ◌then◌
  last_hands = then_then _ (due end_form n ls) _ _ (λ e. unless_then _ _ (n + 1) _ _ refl)

  pub last_goes : (r : Result (Unit {0}) Refusal) → r ≡ handed (λ o. o) (last_line n ls) → Goes LastRead r (λ o. done a)
  unfolding handed ◌then◌
  last_goes r e = rw (e, last_hands) (by (last_line n ls))
    where
      by : (o : Outcome (Unit {0})) → Goes (o then λ z. done a) (handed (λ o. o) o) (λ z. done a)
      by (done z) = refl
      by (refused k l) = refl
