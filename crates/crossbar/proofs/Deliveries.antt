-- What map and load hand over for a crossbar: a refusal from beneath, ground 14 on the record's buffer, or the record and the cells.
use Prim.Native.Nat.{ℕ, ◌*◌, ◌≤◌, ◌<◌}
use mathlib.Core.Path.{◌≡◌, refl, ◌∙◌}
use mathlib.Core.Logic.{⊎_elim}
use mathlib.Core.List.{List}
use borrow.Author.Tests.{lt-ltb, le-ltb}
use Rattle.std.specs.Prelude.{Result, Err, IfOk, IfErr}
use Rattle.std.proofs.lemmas.Bool.{cases_lt}
use Rattle.common.specs.declared.Fault.TheVariants as fault
use Rattle.common.specs.declared.Refusal.{Refusal}
use Rattle.common.specs.Fault.{number_of_fault, handed}
use Rattle.common.specs.Lists.{zeros, padded}
use Rattle.common.specs.Outcome.{Outcome, done, refused, ◌then◌, lowest, unless, buffer_of}
use Rattle.common.proofs.Within.{EndsWithin}
use Rattle.cells.specs.declared.Crossbar.{Crossbar}
use Rattle.cells.specs.Record.{Whole, size}
use Rattle.crossbar.specs.Bytes.{record_length, record_bytes}
use Rattle.crossbar.specs.Host.{packed, packed_from, for_record, cells_due, Delivered}
use Rattle.crossbar.proofs.Numbers.{packed_is}

-- a record's buffer that is too short, and one that is long enough
for_short : (n : ℕ) (w : Whole) → n < record_length → for_record n (done w) ≡ refused 14 0
unfolding for_record ◌then◌ lowest unless
for_short n w short = rw (lt-ltb n record_length short)

for_long : (n : ℕ) (w : Whole) → record_length ≤ n → for_record n (done w) ≡ done w
unfolding for_record ◌then◌ lowest unless
for_long n w room = rw (le-ltb n record_length room)

-- zeros in both buffers after a refusal
both_refused :
    (k l n m r : ℕ) (head cells : List ℕ)
    → r ≡ packed {A = Whole} cells_due (refused k l)
    → head ≡ zeros n
    → cells ≡ zeros m
    → Delivered (refused k l) n m r head cells
unfolding buffer_of
both_refused k l n m r head cells a z c = record { to_record = record { answer = a; buffer = z }; to_cells = record { answer = a; buffer = c } }

-- what is handed over for an outcome, by what was made of it and what the cells' buffer held: a refusal, a record's buffer that is too short,
-- and one that is long enough
pub delivered :
    {P : Whole → Type 0} {b : ℕ} (o : Outcome Whole) (n m r : ℕ) (made : Result Crossbar Refusal) (held head cells : List ℕ)
    → EndsWithin P b o
    → made ≡ handed (λ w. w.head) o
    → held ≡ buffer_of m (λ w. w.codes) o
    → IfErr made (λ e. (r ≡ packed_from (Err e)) × (head ≡ zeros n) × (cells ≡ held))
    → (n < record_length
    → IfOk made (λ x. (r ≡ packed_from (Err (record { fault = fault.NoRoom; line = 0 }))) × (head ≡ zeros n) × (cells ≡ zeros m)))
    → (record_length ≤ n → IfOk made (λ x. (r ≡ x.rows * x.columns) × (head ≡ padded n (record_bytes x)) × (cells ≡ held)))
    → Delivered (for_record n o) n m r head cells
unfolding handed packed packed_from number_of_fault buffer_of for_record ◌then◌ size cells_due
delivered (done w) n m r made held head cells ends is before stop short long =
    ⊎_elim
    (λ (few : n < record_length). let d = (rw is at short) few in rw (for_short n w few) (both_refused 14 0 n m r head cells d.0 d.1 d.2))
    (λ (room : record_length ≤ n).
    let d = (rw is at long) room in
    rw (for_long n w room)
    (record { to_record = record { answer = d.0; buffer = d.1 }; to_cells = record { answer = d.0; buffer = d.2 ∙ before } }))
    (cases_lt n record_length)
delivered (refused k l) n m r made held head cells ends is before stop short long =
    let d = rw is at stop in
    both_refused k l n m r head cells (d.0 ∙ packed_is cells_due (refused k l) _ ends refl) d.1 (d.2 ∙ before)
