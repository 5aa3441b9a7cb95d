-- The calls of the host library: the answer and every byte lent, from what the calls beneath hand over.
use Prim.Native.Nat.{ℕ, ◌*◌, ◌/◌, ◌≤◌}
use mathlib.Core.Path.{◌≡◌, refl, sym, ap, ◌∙◌}
use mathlib.Core.List.{List, []}
use native.Mathlib.Omega.{arith}
use lib.ListN.{length}
use Rattle.std.specs.Prelude.{Result, Ok, Err}
use Rattle.common.specs.declared.Refusal.{Refusal}
use Rattle.common.specs.Fault.{faults, fault_of, handed}
use Rattle.common.specs.Lists.{zeros, padded}
use Rattle.common.specs.Outcome.{Outcome, done, refused, buffer_of, Answered}
use Rattle.cells.specs.declared.Crossbar.{Crossbar}
use Rattle.conduction.specs.Light.{Lit, light}
use Rattle.common.proofs.Within.{EndsWithin}
use Rattle.conduction.proofs.Light.{light_answers}
use Rattle.crossbar.specs.Bytes.{record_from, pairs, holds_record}
use Rattle.crossbar.specs.declared.bytes.Record.{Record}
use Rattle.crossbar.specs.Records.{RecordIs}
use Rattle.crossbar.specs.Host.{packed, packed_from, of_record, number_unit, host_light, host_print, LightCall, PrintCall}
use Rattle.crossbar.proofs.Records.{not_held, was_held, none_held, one_held}
use Rattle.crossbar.proofs.Numbers.{packed_is}
use Rattle.crossbar.proofs.Lent.{lent_numbers, lent_most, light_lent}
use Rattle.crossbar.proofs.Pairs.{pairs-padded, no_numbers}
use mathlib.Core.Bool.{false}
use Rattle.listings.specs.Listing.{print}

-- a call that reads a record: where the slice holds none, and where it holds one and the call beneath answers
module _ {A : Type 0} (value : A → ℕ) (bytes : A → List ℕ) (s : List ℕ) (rest : Crossbar → Outcome A) (room : ℕ) where
  pub none_answered :
      (e : Refusal) (after : List ℕ)
      → RecordIs s (Err e)
      → after ≡ zeros room
      → Answered (of_record s (rest (record_from s))) (handed value) bytes room (Err e) after
  unfolding handed fault_of faults buffer_of
  none_answered e after h z =
      let no = not_held s e h in
      rw (none_held s (rest (record_from s)) no.0) (record { answer = ap Err no.1; buffer = z })

  pub one_answered :
      (x : Record) (r : Result ℕ Refusal) (after : List ℕ)
      → RecordIs s (Ok x)
      → Answered (rest x.0) (handed value) bytes room r after
      → Answered (of_record s (rest (record_from s))) (handed value) bytes room r after
  one_answered x r after h a =
      let found = was_held s x h in
      rw (one_held s (rest (record_from s)) found.0, ← found.1) a

-- a slice that holds no record is refused
refused_12 :
    {A : Type 0} (value : A → ℕ) (bytes : A → List ℕ) (s : List ℕ) (rest : Outcome A) (room r : ℕ) (after : List ℕ)
    → holds_record s ≡ false
    → r ≡ 12 * number_unit
    → after ≡ zeros room
    → Answered (of_record s rest) (packed value) bytes room r after
unfolding packed buffer_of
refused_12 value bytes s rest room r after h e f = rw (none_held s rest h) (record { answer = e; buffer = f })

pub light_refused :
    (s cells setting before after : List ℕ) (r : ℕ)
    → holds_record s ≡ false
    → r ≡ 12 * number_unit
    → after ≡ zeros (length before)
    → LightCall s cells setting before r after
unfolding host_light
light_refused s cells setting before after r =
    refused_12 (λ a. a.count) (λ a. pairs a.firsts) s (light (record_from s) cells setting (length before / 2)) (length before) r after

pub print_refused :
    (s cells before after : List ℕ) (r : ℕ)
    → holds_record s ≡ false
    → r ≡ 12 * number_unit
    → after ≡ zeros (length before)
    → PrintCall s cells before r after
unfolding host_print
print_refused s cells before after r =
    refused_12 length (λ t. t) s (print (record_from s) cells (length before)) (length before) r after

-- its answer as one number
pub answered :
    {A : Type 0} {P : A → Type 0} {b : ℕ} (value : A → ℕ) (bytes : A → List ℕ) (room : ℕ) (o : Outcome A) (v : Result ℕ Refusal) (r : ℕ) (after : List ℕ)
    → EndsWithin P b o
    → Answered o (handed value) bytes room v after
    → r ≡ packed_from v
    → Answered o (packed value) bytes room r after
answered value bytes room o v r after ends h f = record { answer = f ∙ packed_is value o v ends h.answer; buffer = h.buffer }

-- the bytes of the numbers that light left
pairs_left :
    (k n : ℕ) (o : Outcome Lit) → 2 * k ≤ n → ((a : Lit) → o ≡ done a → length a.firsts ≤ k)
    → padded n (pairs (buffer_of k (λ a. a.firsts) o)) ≡ buffer_of n (λ a. pairs a.firsts) o
unfolding buffer_of pairs
pairs_left k n (done a) h long = pairs-padded n k a.firsts (long a refl) h
pairs_left k n (refused number line) h long =
    ap (λ (l : List ℕ). padded n (pairs l)) (no_numbers k) ∙ pairs-padded n k [] (omega arith) h ∙ sym (no_numbers n)

pub light-bytes :
    (x : Crossbar) (cells setting before after numbers : List ℕ) (k : ℕ) (lit : Result ℕ Refusal)
    → k ≡ lent_numbers x (length before)
    → Answered (light x cells setting k) (handed (λ a. a.count)) (λ a. a.firsts) k lit numbers
    → after ≡ padded (length before) (pairs numbers)
    → Answered (light x cells setting (length before / 2)) (handed (λ a. a.count)) (λ a. pairs a.firsts) (length before) lit after
light-bytes x cells setting before after numbers k lit is a written =
    let same : light x cells setting k ≡ light x cells setting (length before / 2) =
    ap (light x cells setting) is ∙ light_lent x cells setting (length before) in
    let long : (b : Lit) → light x cells setting k ≡ done b → length b.firsts ≤ k =
    λ b e. let lights = light_answers x cells setting k b e in omega (arith, lights.wires_fit, lights.answer.size) in
    rw (← same)
    (record {
      answer = a.answer;
      buffer =
          written
          ∙ ap (λ (l : List ℕ). padded (length before) (pairs l)) a.buffer
          ∙ pairs_left k (length before) (light x cells setting k) (rw is (lent_most x (length before))) long;
    })
