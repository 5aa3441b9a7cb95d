-- What load answers, by the step at which it stops or comes to its end.
use Prim.Native.Nat.{ℕ, zero, suc, ◌+◌, ◌*◌, ◌≤◌, ◌<◌}
use mathlib.Core.Path.{◌≡◌, refl, sym, ap, ◌∙◌}
use mathlib.Core.Bool.{true, false}
use mathlib.Core.List.{List, [], ◌∷◌, ◌++◌}
use lib.ListN.{length, get_or, take}
use borrow.Author.Tests.{lt-ltb, le-ltb}
use Rattle.std.specs.Prelude.{Result, Ok, Err, IfOk, is_err}
use Rattle.common.specs.declared.Fault.TheVariants as fault
use Rattle.common.specs.declared.Refusal.{Refusal}
use Rattle.common.specs.Limits.{max_outputs}
use Rattle.common.specs.Lists.{zeros, padded}
use Rattle.common.specs.Outcome.{Outcome, done, refused, ◌then◌, lowest, unless, buffer_of, Answered}
use Rattle.common.specs.Fault.{fault_of, faults, handed}
use Rattle.common.proofs.Faults.{handed_ok, handed_on}
use Rattle.common.proofs.Lists.{padded_full}
use Rattle.common.proofs.Outcome.{unless_then, then_then}
use Rattle.figures.specs.Line.{Lines, lines_of}
use Rattle.cells.specs.Record.{Whole, size}
use Rattle.forms.specs.declared.SizeForm.{SizeForm}
use Rattle.forms.specs.Forms.{crossbar_form, out_form, end_form}
use Rattle.forms.specs.Due.{due}
use Rattle.forms.proofs.Told.{IsDue}
use Rattle.listings.specs.Loading.{Listed, out_row_fault, with_out_row, load_end, load_outs, sized, size_fault, load_cells, load_from, record_of, cells_of, fitted, load_at}
use Rattle.listings.specs.Loader.{listed, sizes_in, kept}
use Rattle.listings.proofs.Kept.{rows_again, kept-padded, kept-cells}
use Rattle.listings.proofs.Stands.{rows_read}
use mathlib.Core.Logic.{⊎_elim}
use Rattle.std.proofs.lemmas.Bool.{cases_lt}

-- the first line
module _ (text : List ℕ) (n room : ℕ) where
  pub first_missing : due crossbar_form n (lines_of text) ≡ refused 1 n → handed (λ w. w.head) (load_at n (lines_of text) room) ≡ Err (record { fault = fault.NotDue; line = n })
  unfolding load_from ◌then◌ handed fault_of faults
  first_missing d = rw d refl

  module _ (f : SizeForm) (rest : List ℕ) (d : IsDue crossbar_form n text (f.rows ∷ f.columns ∷ f.switches ∷ f.outputs ∷ []) rest) where
    pub first_fault : sizes_in f ≡ false → handed (λ w. w.head) (load_at n (lines_of text) room) ≡ Err (record { fault = fault.OutOfRange; line = n })
    unfolding load_from ◌then◌ sized size_fault lowest unless handed fault_of faults
    first_fault h = rw (d, h) refl

    first_in : sizes_in f ≡ true → load_at n (lines_of text) room ≡ load_cells (listed f [] []) (n + 1) (lines_of rest) then λ x. fitted room x
    unfolding load_from ◌then◌ sized size_fault lowest unless
    first_in h = rw (d, h) refl

    pub first_right :
        (s : SizeForm)
        → (s ≡ f) × (sizes_in f ≡ true)
        → load_at n (lines_of text) room ≡ load_cells (listed s [] []) (n + 1) (lines_of rest) then λ x. fitted room x
    first_right s h = rw h.0 (first_in h.1)

-- the record and the cells of a listing, by the room of the buffer
module _ (s : SizeForm) (codes outs : List ℕ) (room : ℕ) where
  pub fitted_short : room < s.rows * s.columns → fitted room (listed s codes outs) ≡ refused 14 0
  unfolding lowest unless size record_of
  fitted_short h = rw (lt-ltb room (s.rows * s.columns) h)

  pub fitted_long :
      s.rows * s.columns ≤ room
      → fitted room (listed s codes outs) ≡ done (record { head = record_of (listed s codes outs); codes = cells_of (listed s codes outs) })
  unfolding lowest unless size record_of
  fitted_long h = rw (le-ltb room (s.rows * s.columns) h)

-- the output lines are read alike whatever the cells
outs_alike :
    (s : SizeForm) (codes outs : List ℕ) (k n : ℕ) (ls : Lines)
    → load_outs k (listed s codes outs) n ls ≡ load_outs k (listed s [] outs) n ls then λ x. done (listed s codes x.outs)
unfolding load_outs load_end with_out_row out_row_fault ◌then◌
outs_alike s codes outs zero n ls = then_then _ (due end_form n ls) _ _ (λ e. unless_then _ _ (n + 1) _ _ refl)
outs_alike s codes outs (suc k) n ls =
    then_then _ (due out_form n ls) _ _
    (λ o. unless_then _ _ n _ _ (outs_alike s codes (outs ++ (get_or o.vals 1 0 ∷ [])) k (n + 1) o.later))

-- so what is handed over for a listing without cells is a refusal of every listing, and gives the output rows of each as the record has them
module _ (s : SizeForm) (codes : List ℕ) (room n : ℕ) (ls : Lines) where
  abbrev outs_fitted : Outcome Whole
  outs_fitted = load_outs s.outputs (listed s codes []) n ls then λ x. fitted room x

  pub outs_stop : (e : Refusal) → Err e ≡ handed rows_read (load_outs s.outputs (listed s [] []) n ls) → handed (λ w. w.head) outs_fitted ≡ Err e
  outs_stop e h =
      ap (λ o. handed (λ (w : Whole). w.head) (o then λ x. fitted room x)) (outs_alike s codes [] s.outputs n ls)
      ∙ handed_on (λ (x : Listed). x) (λ w. w.head) _ _ e (handed_on rows_read (λ x. x) _ _ e (sym h))

  pub outs_done : (outs : List ℕ) → Ok outs ≡ handed rows_read (load_outs s.outputs (listed s [] []) n ls) → outs_fitted ≡ fitted room (listed s codes outs)
  unfolding ◌then◌ record_of cells_of
  outs_done outs h =
      let d = handed_ok rows_read _ outs (sym h) in
      ap (λ o. o then λ x. fitted room x) (outs_alike s codes [] s.outputs n ls ∙ ap (λ o. o then λ x. done (listed s codes x.outs)) d.1)
      ∙ rw (rows_again max_outputs d.0.outs (sym d.2)) refl

-- the buffer and the array hold what the lines say
pub fitted-same :
    (s : SizeForm) (codes stands cells outs : List ℕ) (room : ℕ)
    → cells ≡ kept room codes
    → length codes ≤ s.rows * s.columns
    → padded max_outputs stands ≡ outs
    → fitted room (listed s codes stands) ≡ fitted room (listed s (take (s.rows * s.columns) cells) outs)
unfolding record_of cells_of
fitted-same s codes stands cells outs room e h o =
    let n = s.rows * s.columns in
    ⊎_elim
    (λ (short : room < s.rows * s.columns). fitted_short s codes stands room short ∙ sym (fitted_short s (take n cells) outs room short))
    (λ (long : s.rows * s.columns ≤ room).
    fitted_long s codes stands room long
    ∙ sym
    (fitted_long s (take n cells) outs room long
    ∙ rw (rows_again max_outputs stands o, e, kept-cells room (s.rows * s.columns) codes h long)))
    (cases_lt room (s.rows * s.columns))

-- the record and the cells are handed over
module _ (s : SizeForm) (codes outs : List ℕ) (room : ℕ) (wide : length outs ≡ max_outputs) (long : s.rows * s.columns ≤ room) where
  record_done : fitted room (listed s codes outs) ≡ done (record { head = record { rows = s.rows; columns = s.columns; switches = s.switches; outputs = s.outputs; outs = outs }; codes = cells_of (listed s codes outs) })
  unfolding record_of
  record_done = fitted_long s codes outs room long ∙ rw (padded_full max_outputs outs wide) refl

  pub fitted_head : Ok (record { rows = s.rows; columns = s.columns; switches = s.switches; outputs = s.outputs; outs = outs }) ≡ handed (λ w. w.head) (fitted room (listed s codes outs))
  unfolding handed
  fitted_head = rw record_done refl

  pub fitted_cells :
      {cells : List ℕ}
      → cells ≡ kept room codes
      → length codes ≤ s.rows * s.columns
      → cells ≡ buffer_of room (λ w. w.codes) (fitted room (listed s codes outs))
  unfolding cells_of buffer_of
  fitted_cells holds short = rw record_done (holds ∙ kept-padded room (s.rows * s.columns) codes short long)

-- what a call promises, of an equal outcome and an equal room
pub handed_as :
    {A B : Type 0} {o : Outcome A} {f : Outcome A → B} {bytes : A → List ℕ} {m : ℕ} {r : B} {after : List ℕ} (p : Outcome A) (room : ℕ)
    → p ≡ o
    → m ≡ room
    → Answered o f bytes m r after
    → Answered p f bytes room r after
handed_as p room e k h = rw (e, ← k) h

-- what a reader of lines answers, and the buffer: cleared after a refusal, and otherwise as the reader left it
module _ {B : Type 0} (o : Outcome Whole) (f : Whole → B) (room : ℕ) (r : Result B Refusal) (is : r ≡ handed f o) where
  pub answers_refused : (after : List ℕ) → is_err r ≡ true → after ≡ zeros room → Answered o (handed f) (λ w. w.codes) room r after
  unfolding handed buffer_of
  answers_refused after bad clear = by o is
    where
      by : (p : Outcome Whole) → r ≡ handed f p → Answered p (handed f) (λ w. w.codes) room r after
      by (done a) e = absurd cc
      by (refused k l) e = record { answer = e; buffer = clear }

  pub answers_done :
      (after : List ℕ)
      → is_err r ≡ false
      → IfOk r (λ x. after ≡ buffer_of room (λ w. w.codes) o)
      → Answered o (handed f) (λ w. w.codes) room r after
  answers_done after good filled = by r refl filled
    where
      by : (q : Result B Refusal) → r ≡ q → IfOk q (λ x. after ≡ buffer_of room (λ w. w.codes) o) → Answered o (handed f) (λ w. w.codes) room r after
      by (Ok x) e h = record { answer = is; buffer = h }
      by (Err x) e h = absurd (cc (ap is_err e))
