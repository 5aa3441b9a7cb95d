-- The two parts of a call's answer, as CROSSBAR_NUMBER, CROSSBAR_VALUE and CROSSBAR_LINE of include/crossbar.h take them out of its 64
-- bits. No value and no line reaches the highest byte, so that none is taken for the number of a refusal. By its contract the answer of
-- each call is `packed` of the outcome that is named here. The proof is `calls_read` in proofs/Parts.antt: CallsRead.
use Rattle.std.specs.Prelude.{ℕ, ◌+◌, ◌-◌, ◌*◌, ◌/◌, ◌%◌, ◌≤◌, ◌≡◌, ◌↔◌, List, length}
use Rattle.common.specs.Limits.{max_rows, max_columns, max_text}
use Rattle.common.specs.Outcome.{Outcome, done, refused, number_of}
use Rattle.jobs.specs.Job.{walk}
use Rattle.crossbar.specs.Host.{number_unit, packed, cells_due, host_map, host_load, host_light, host_print}

-- CROSSBAR_NUMBER: the highest byte
unfoldable pub number_part : ℕ → ℕ
number_part answer = answer / number_unit

-- CROSSBAR_VALUE and CROSSBAR_LINE: the 56 bits below it
unfoldable pub low_part : ℕ → ℕ
low_part answer = answer % number_unit

-- an outcome is read back from its answer: the refusal's number, which is 0 exactly when nothing is refused; then the value, which is at
-- most this number, or else the refusal's line
pub record Parts {A : Type 0} (value : A → ℕ) (most : ℕ) (o : Outcome A) : Type 0 where
  pub number : number_part (packed value o) ≡ number_of o
  pub none_refused : (number_part (packed value o) ≡ 0) ↔ ((a : A) × (o ≡ done a))
  pub value_low : (a : A) → o ≡ done a → low_part (packed value o) ≡ value a
  pub value_most : (a : A) → o ≡ done a → value a ≤ most
  pub line_low : (k n : ℕ) → o ≡ refused k n → low_part (packed value o) ≡ n

-- so is the outcome of each call, for every input and every length of the buffers
pub record CallsRead : Type 0 where
  pub of_map :
      (text : List ℕ) (record_room cells_room : ℕ)
      → Parts cells_due (max_rows * max_columns) (host_map text record_room cells_room)
  pub of_walk : (text setting : List ℕ) (output : ℕ) → Parts (λ v. v) 1 (walk text setting output)
  pub of_light :
      (s cells setting : List ℕ) (room : ℕ)
      → Parts (λ a. a.count) (max_rows + max_columns - 1) (host_light s cells setting room)
  pub of_print : (s cells : List ℕ) (room : ℕ) → Parts length max_text (host_print s cells room)
  pub of_load :
      (text : List ℕ) (record_room cells_room : ℕ)
      → Parts cells_due (max_rows * max_columns) (host_load text record_room cells_room)
