-- A slice that holds a record: when it does, that a record's bytes with zeros past them do, and that they are read as that record.
use Prim.Native.Nat.{ℕ, ◌-◌, ◌≤◌, ◌<◌}
use mathlib.Core.Path.{◌≡◌, refl, ap, ◌∙◌}
use mathlib.Core.Logic.{⊎_elim}
use mathlib.Core.Bool.{true, false}
use mathlib.Core.List.{List, ◌∷◌}
use native.Mathlib.Omega.{arith}
use lib.ListN.{length, drop}
use lib.Seq.{drop_at}
use lib.Dec.{eqb, leb}
use borrow.Author.Tests.{leb-true, le-leb, lt-leb}
use Rattle.common.specs.Limits.{max_outputs}
use Rattle.common.specs.Lists.{all_of, padded}
use Rattle.common.specs.Outcome.{Outcome, done, refused, lowest, unless}
use Rattle.common.proofs.Lists.{and_left, all_of_zeros, length-padded, get_or-padded_any}
use Rattle.cells.specs.declared.Crossbar.{Crossbar}
use Rattle.std.specs.Prelude.{Ok, Err}
use Rattle.std.proofs.lemmas.Bool.{cases_Bool}
use Rattle.crossbar.specs.Bytes.{record_length, numbers_of, record_bytes, holds_record, number_at, record_from}
use Rattle.crossbar.specs.Host.{of_record}
use Rattle.crossbar.specs.Records.{RecordIs}
use Rattle.crossbar.specs.declared.bytes.Record.{Record}
use Rattle.common.specs.declared.Fault.TheVariants as fault
use Rattle.common.specs.declared.Refusal.{Refusal}
use Rattle.common.specs.Fault.{faults, fault_of, handed}
use Rattle.crossbar.proofs.Pairs.{length_pairs, record_back}

-- what follows ground 12 on a slice that does not hold a record, and on one that does
pub none_held : {A : Type 0} (s : List ℕ) (rest : Outcome A) → holds_record s ≡ false → of_record s rest ≡ refused 12 0
unfolding of_record lowest unless
none_held s rest h = rw h

pub one_held : {A : Type 0} (s : List ℕ) (rest : Outcome A) → holds_record s ≡ true → of_record s rest ≡ rest
unfolding of_record lowest unless
one_held s rest h = rw h

-- the test, by its two parts, and what is handed over for the record
module _ (s : List ℕ) where
  none_is : holds_record s ≡ false → RecordIs s (Err (record { fault = fault.Misplaced; line = 0 }))
  unfolding handed fault_of faults
  none_is h = rw (none_held s (done (record_from s)) h)

  pub holds_short : length s < record_length → holds_record s ≡ false
  unfolding holds_record
  holds_short h = rw (lt-leb record_length (length s) h)

  pub none_short : length s < record_length → RecordIs s (Err (record { fault = fault.Misplaced; line = 0 }))
  unfolding holds_record
  none_short h = none_is (rw (lt-leb record_length (length s) h))

  pub holds_long : (past : List ℕ) → record_length ≤ length s → past ≡ drop record_length s → holds_record s ≡ all_of (λ b. eqb b 0) past
  unfolding holds_record
  holds_long past h d = rw (le-leb record_length (length s) h, d)

  pub none_past :
      (past : List ℕ)
      → record_length ≤ length s
      → past ≡ drop record_length s
      → all_of (λ b. eqb b 0) past ≡ false
      → RecordIs s (Err (record { fault = fault.Misplaced; line = 0 }))
  none_past past h d e = none_is (holds_long past h d ∙ e)

  pub one_is :
      (past : List ℕ) (x : Crossbar)
      → record_length ≤ length s
      → past ≡ drop record_length s
      → all_of (λ b. eqb b 0) past ≡ true
      → x ≡ record_from s
      → RecordIs s (Ok (record { 0 = x }))
  unfolding handed
  one_is past x h d e f = rw (one_held s (done (record_from s)) (holds_long past h d ∙ e), f)

  pub holds_enough : holds_record s ≡ true → record_length ≤ length s
  unfolding holds_record
  holds_enough h = leb-true record_length (length s) (and_left (leb record_length (length s)) _ h)

  -- so the test held of what was read, and not where it is refused
  pub was_held : (x : Record) → RecordIs s (Ok x) → (holds_record s ≡ true) × (x.0 ≡ record_from s)
  unfolding handed
  was_held x e =
      ⊎_elim
      (λ (t : holds_record s ≡ true). let d = rw (one_held s (done (record_from s)) t) at e in (t, ap (λ (r : Record). r.0) cc))
      (λ (f : holds_record s ≡ false). let d = rw (none_held s (done (record_from s)) f) at e in absurd cc)
      (cases_Bool (holds_record s))

  pub not_held : (e : Refusal) → RecordIs s (Err e) → (holds_record s ≡ false) × (e ≡ record { fault = fault.Misplaced; line = 0 })
  unfolding handed fault_of faults
  not_held e h =
      ⊎_elim
      (λ (t : holds_record s ≡ true). let d = rw (one_held s (done (record_from s)) t) at h in absurd cc)
      (λ (f : holds_record s ≡ false). let d = rw (none_held s (done (record_from s)) f) at h in (f, cc))
      (cases_Bool (holds_record s))

pub ruleset none = (none_short, none_past)

-- zeros past a record change nothing that is read
read_padded : (n : ℕ) (s : List ℕ) → record_from (padded n s) ≡ record_from s
unfolding record_from number_at
read_padded n s = simp get_or-padded_any

module _ (x : Crossbar) (rows : length x.outs ≡ max_outputs) where
  pub length_record : length (record_bytes x) ≡ record_length
  unfolding record_bytes numbers_of record_length
  length_record = length_pairs (x.rows ∷ x.columns ∷ x.switches ∷ x.outputs ∷ x.outs) ∙ rw rows (omega arith)

  -- a buffer of n bytes that a record was written to
  pub holds_written : (n : ℕ) → record_length ≤ n → holds_record (padded n (record_bytes x)) ≡ true
  unfolding padded
  holds_written n h =
      let long : length (padded n (record_bytes x)) ≡ n = length-padded n (record_bytes x) (rw length_record h) in
      holds_long (padded n (record_bytes x)) _ (rw long h) refl
      ∙ rw (drop_at (record_bytes x) _ record_length length_record) (all_of_zeros (λ b. eqb b 0) (n - length (record_bytes x)) refl)

  pub record_written : (n : ℕ) → record_from (padded n (record_bytes x)) ≡ x
  record_written n = read_padded n (record_bytes x) ∙ record_back x rows
