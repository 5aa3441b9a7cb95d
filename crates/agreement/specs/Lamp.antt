-- Demand 2 of light, of the call that a C program links, for every crossbar that it does not refuse, whether map gave it or not: a wire's
-- number is not 0 exactly where a chain of conducting cells joins it to row 0, and then it is 1 plus the round in which the wire was first
-- lit; the value is the least count of rounds at which nothing is added (`Lights` in crates/conduction/specs/Lit.antt). LightCall is the
-- contract of `crossbar_light` (crates/crossbar/specs/Host.antt), and number_part and low_part are CROSSBAR_NUMBER and CROSSBAR_VALUE of
-- include/crossbar.h.
-- The statement is LampOfCalls, and its proof `lamp_of_calls` in proofs/Lamp.antt.
use Rattle.std.specs.Prelude.{ℕ, ◌+◌, ◌/◌, ◌≤◌, ◌<◌, ◌≡◌, List, length, get_or}
use Rattle.common.specs.Limits.{max_rows, max_columns}
use Rattle.common.specs.Lists.{padded}
use Rattle.conduction.specs.Light.{Lit}
use Rattle.conduction.specs.Lit.{Lights}
use Rattle.crossbar.specs.Bytes.{pairs, number_at, record_from}
use Rattle.crossbar.specs.Host.{LightCall}
use Rattle.crossbar.specs.Parts.{number_part, low_part}
use Rattle.agreement.specs.Demand3.{Reads, Shows, stands_on}
use Rattle.agreement.specs.Calls.{in_buffers}

-- what light shows of the crossbar in a record's slice and a cells' slice, by its answer and what it left in a buffer of that many bytes
pub record LampShows (head cells setting : List ℕ) (room answer : ℕ) (firsts : List ℕ) : Type 0 where
  pub lit : Lit
  pub lights : Lights (record_from head) cells setting (room / 2) lit
  pub rounds : low_part answer ≡ lit.count
  -- document 02, Req 01: "two bytes, low first"; every byte past the last wire's is 0
  pub bytes : firsts ≡ padded room (pairs lit.firsts)
  pub numbers : (i : ℕ) → number_at firsts i ≡ get_or lit.firsts i 0
  pub most : (i : ℕ) → number_at firsts i ≤ max_rows + max_columns
  -- "An output reads 1 exactly when its number is not 0."
  pub reads :
      (j : ℕ) → j < (record_from head).outputs
      → Shows (number_at firsts (stands_on (in_buffers head cells) j)) (Reads (in_buffers head cells) setting j)

abbrev pub LampOfCalls : Type 0
LampOfCalls =
    (head cells setting firsts₀ : List ℕ) (answer : ℕ) (firsts : List ℕ)
    → LightCall head cells setting firsts₀ answer firsts
    → number_part answer ≡ 0
    → LampShows head cells setting (length firsts₀) answer firsts
