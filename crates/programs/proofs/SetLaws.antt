-- What the law says of a set line, whatever stands in it: how it ends, and how many figures it has.
use Prim.Native.Nat.{ℕ, ◌≤◌}
use mathlib.Core.Path.{◌≡◌, refl, sym, ◌∙◌}
use mathlib.Core.Logic.{◌⊎◌, inl, inr, ⊎_elim}
use mathlib.Core.Bool.{true, false, ◌&&◌}
use mathlib.Core.Option.{Option, some, none}
use mathlib.Core.List.{List}
use native.Mathlib.Omega.{arith}
use lib.ListN.{length}
use lib.Dec.{leb}
use borrow.Author.Tests.{leb-true}
use Rattle.std.proofs.lemmas.Bool.{cases_Bool}
use Rattle.common.specs.Limits.{max_switches}
use Rattle.common.specs.Lists.{all_of}
use Rattle.common.specs.Outcome.{Outcome, done, refused, lowest, unless}
use Rattle.common.proofs.Lists.{and_left}
use Rattle.figures.specs.Line.{Lines, left, ◌⏎◌}
use Rattle.figures.proofs.Line.{after_first}
use Rattle.forms.specs.Due.{Taken}
use Rattle.forms.specs.Template.{values}
use Rattle.forms.specs.Forms.{set_form}
use Rattle.programs.specs.Programs.{blanks, set_line}

-- the set line is refused with ground 1 on line 1, or the lines that follow are those after the first
pub set_told :
    (ls : Lines)
    → ((o : Taken) × (set_line ls ≡ done o) × (o.later ≡ after_first ls)) ⊎ (set_line ls ≡ refused 1 1)
unfolding set_line after_first lowest unless
set_told (left s) = inr refl
set_told (l ⏎ ls) = by (values (set_form (blanks l)) l) refl
  where
    by :
        (o : Option (List ℕ))
        → values (set_form (blanks l)) l ≡ o
        → ((o : Taken) × (set_line (l ⏎ ls) ≡ done o) × (o.later ≡ ls)) ⊎ (set_line (l ⏎ ls) ≡ refused 1 1)
    by none e = inr (rw (e, set_line))
    by (some vs) e =
        ⊎_elim
        (λ (h : leb (length vs) max_switches && all_of (λ b. leb b 1) vs ≡ true).
        inl (record { vals = vs; later = ls }, rw (e, h, set_line), refl))
        (λ (h : leb (length vs) max_switches && all_of (λ b. leb b 1) vs ≡ false). inr (rw (e, h, set_line)))
        (cases_Bool (leb (length vs) max_switches && all_of (λ b. leb b 1) vs))

-- its figures are at most as many as the switches
pub set_few : (ls : Lines) (o : Taken) → set_line ls ≡ done o → length o.vals ≤ max_switches
unfolding set_line lowest unless
set_few (left s) o h = absurd (let z : ◌≡◌ {A = ℕ} 0 1 = cc in omega arith)
set_few (l ⏎ ls) o h = by (values (set_form (blanks l)) l) refl
  where
    by : (u : Option (List ℕ)) → values (set_form (blanks l)) l ≡ u → length o.vals ≤ max_switches
    by none e =
        let f : set_line (l ⏎ ls) ≡ refused 1 1 = rw (e, set_line) in
        absurd (let z : ◌≡◌ {A = ℕ} 0 1 = cc in omega arith)
    by (some vs) e =
        ⊎_elim
        (λ (k : leb (length vs) max_switches && all_of (λ b. leb b 1) vs ≡ true).
        let f : set_line (l ⏎ ls) ≡ done (record { vals = vs; later = ls }) = rw (e, k, set_line) in
        let g : ◌≡◌ {A = Outcome Taken} (done (record { vals = vs; later = ls })) (done o) = sym f ∙ h in
        let same : ◌≡◌ {A = Taken} (record { vals = vs; later = ls }) o = cc in
        rw (← same) (leb-true (length vs) max_switches (and_left (leb (length vs) max_switches) (all_of (λ b. leb b 1) vs) k)))
        (λ (k : leb (length vs) max_switches && all_of (λ b. leb b 1) vs ≡ false).
        let f : set_line (l ⏎ ls) ≡ refused 1 1 = rw (e, k, set_line) in
        absurd (let z : ◌≡◌ {A = ℕ} 0 1 = cc in omega arith))
        (cases_Bool (leb (length vs) max_switches && all_of (λ b. leb b 1) vs))
