-- Demand 2 of light, of the call: from its promise and `light_answers`.
use Prim.Native.Nat.{ℕ, ◌+◌, ◌/◌, ◌<◌}
use mathlib.Core.Path.{◌≡◌, ap, ◌∙◌}
use mathlib.Core.Bool.{true}
use mathlib.Core.List.{List}
use native.Mathlib.Omega.{arith}
use lib.ListN.{length, get_or, take}
use lib.Seq.{get_or-take, length-take-le}
use lib.Dec.{ltb}
use borrow.Author.Tests.{ltb-true}
use Rattle.common.specs.Limits.{max_outputs}
use Rattle.common.specs.Lists.{padded}
use Rattle.common.specs.Outcome.{buffer_of}
use Rattle.common.proofs.Lists.{length-tab, all_of_at}
use Rattle.cells.specs.Record.{sound}
use Rattle.cells.proofs.Sizes.{sound_facts}
use Rattle.conduction.specs.Chain.{row, place, Within}
use Rattle.conduction.specs.Light.{Lit, light}
use Rattle.conduction.proofs.Light.{light_answers}
use Rattle.crossbar.specs.Bytes.{pairs, number_at, record_from}
use Rattle.crossbar.specs.Host.{host_light}
use Rattle.crossbar.proofs.Pairs.{numbers_back}
use Rattle.crossbar.proofs.Parts.{calls_read}
use Rattle.agreement.specs.Demand3.{Reads, stands_on}
use Rattle.agreement.specs.Calls.{in_buffers}
use Rattle.agreement.specs.Lamp.{LampOfCalls}
use Rattle.agreement.proofs.Demand3.{shows}
use Rattle.agreement.proofs.Acceptance.{held_done}

-- an output of a sound record stands on one of its rows
out_below :
    (head cells : List ℕ) → sound (record_from head) cells ≡ true → (j : ℕ) → j < (record_from head).outputs
    → get_or (record_from head).outs j 0 < (record_from head).rows
unfolding record_from
out_below head cells s j h =
    let x = record_from head in
    let facts = sound_facts x cells s in
    let outs : length x.outs ≡ max_outputs = length-tab max_outputs (λ i. number_at head (4 + i)) in
    let long = length-take-le x.outputs x.outs (omega (arith, facts.sizes.outputs_most)) in
    ltb-true (get_or x.outs j 0) x.rows
    (rw (get_or-take x.outputs x.outs j 0 h) at (all_of_at (λ r. ltb r x.rows) (take x.outputs x.outs) j facts.rows_low (omega arith)))

pub lamp_of_calls : LampOfCalls
unfolding host_light buffer_of in_buffers place Within
lamp_of_calls head cells setting firsts₀ answer firsts kept none =
    let room = length firsts₀ in
    let read = calls_read.of_light head cells setting room in
    let found = read.none_refused.0 (rw kept.answer at none) in
    let a = found.0 in
    let holds = held_done head (light (record_from head) cells setting (room / 2)) a found.1 in
    let bytes : firsts ≡ padded room (pairs a.firsts) = kept.buffer ∙ ap (buffer_of room (λ (x : Lit). pairs x.firsts)) found.1 in
    let lights = light_answers (record_from head) cells setting (room / 2) a holds.1 in
    let number : (i : ℕ) → number_at firsts i ≡ get_or a.firsts i 0 = λ i. ap (λ (s : List ℕ). number_at s i) bytes ∙ numbers_back room a.firsts i in
    let sizes = (sound_facts (record_from head) cells lights.record_sound).sizes in
    record {
      lit = a;
      lights = lights;
      rounds = rw kept.answer (read.value_low a found.1);
      bytes = bytes;
      numbers = number;
      most = λ i. rw (number i) (omega (arith, lights.answer.most i, sizes.rows_most, sizes.columns_most));
      reads =
          λ j h.
          let r = stands_on (in_buffers head cells) j in
          rw (number r)
          (shows (get_or a.firsts r 0) (Reads (in_buffers head cells) setting j)
          (lights.answer.chains (row r) (out_below head cells lights.record_sound j h)));
    }
