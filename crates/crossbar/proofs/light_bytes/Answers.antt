-- `crossbar::light_bytes` meets its contract: light is lent the front of the numbers, and they are written as bytes.
use Prim.Native.Nat.{ℕ, ◌+◌, ◌≤◌, ◌/◌}
use mathlib.Core.Path.{◌≡◌, ap, ◌∙◌}
use mathlib.Core.List.{List, [], ◌∷◌, ◌++◌}
use native.Mathlib.Omega.{arith}
use lib.ListN.{length, take, length-drop}
use lib.Seq.{length-take-le, take_at}
use Rattle.std.proofs.Common.{rules, Err, append-nil}
use Rattle.common.specs.Limits.{max_rows, max_columns}
use Rattle.common.specs.Lists.{zeros, padded}
use Rattle.conduction.specs.Light.{light}
use Rattle.crossbar.specs.Bytes.{pairs}
use Rattle.crossbar.specs.Host.{host_light}
use Rattle.crossbar.proofs.Lent.{lent_numbers}
use Rattle.crossbar.proofs.Calls.{none_answered, one_answered, light-bytes}
use Rattle.crossbar.proofs.light_bytes.Goals as goal

-- all the numbers that a front holds are written, into a whole buffer
front_written :
    (m n k : ℕ) (numbers rest after : List ℕ) → after ≡ padded m (pairs (take k (numbers ++ rest)))
    → length numbers ≡ k → m ≡ n → after ≡ padded n (pairs numbers)
front_written m n k numbers rest after e long all = e ∙ rw (all, take_at numbers rest k long)

-- it also holds of a whole buffer that is lent by a range
nothing_past : (s past t : List ℕ) → length past ≡ 0 → s ≡ t → s ++ past ≡ t
nothing_past s [] t h e = append-nil s ∙ e
nothing_past s (b ∷ past) t h e = absurd (omega arith)

pub returns-in_err-x : goal.returns-in_err-x
unfolding host_light
returns-in_err-x c =
    let a = c.args in
    let q : c.from_residual.result ≡ Err c.in_err-x.field-0.0 = search rules in
    rw q (none_answered (λ b. b.count) (λ b. pairs b.firsts) _ (λ x. light x a.cells.now a.setting.now (length a.firsts.now / 2)) _ _ _ c.in_err-x.ensures.read c.in_err-x.ensures.buffer)

pub returns : goal.returns
unfolding host_light max_rows max_columns lent_numbers
returns c =
    let a = c.args in
    let x = c.in_ok-x.field-0.0 in
    let k = c.min-room.result in
    let same : length c.record_of.new.out ≡ length a.firsts.now = ap length c.in_ok-x.ensures.buffer in
    let room : k ≤ max_rows + max_columns = omega (arith, c.min-room.ensures, c.min-wires.ensures) in
    let is : k ≡ lent_numbers x (length a.firsts.now) =
    omega (arith, same, c.min-room.ensures, c.min-wires.ensures, c.from.ensures, c.from-2.ensures) in
    let front : length (take k (zeros (max_rows + max_columns))) ≡ k = length-take-le k (zeros (max_rows + max_columns)) room in
    let kept : length c.light-rounds.new.firsts ≡ k = c.light-rounds.auto.firsts ∙ front in
    let same_answer : c.map.result ≡ c.light-rounds.result = search rules in
    let written : c.write_numbers.new.bytes ≡ padded (length a.firsts.now) (pairs c.light-rounds.new.firsts) =
    front_written _ (length a.firsts.now) _ _ _ _ c.write_numbers.ensures (omega (arith, kept)) (grind (arith, length-take-le)) in
    let l = light-bytes x a.cells.now a.setting.now a.firsts.now _ c.light-rounds.new.firsts k _ is
    (rw front at c.light-rounds.ensures)
    (search (arith, nothing_past, length-drop, written)) in
    one_answered (λ b. b.count) (λ b. pairs b.firsts) _ (λ x. light x a.cells.now a.setting.now (length a.firsts.now / 2)) _ _ _ _ c.in_ok-x.ensures.read (rw same_answer l)
