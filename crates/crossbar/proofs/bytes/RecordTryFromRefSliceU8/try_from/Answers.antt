-- `crossbar::bytes::Record::try_from` meets its contract: what is tested is the bytes past a record.
use Prim.Native.Nat.{ℕ, ◌≤◌}
use mathlib.Core.Path.{◌≡◌, sym, ◌∙◌}
use mathlib.Core.Bool.{Bool}
use mathlib.Core.List.{List}
use native.Mathlib.Omega.{arith}
use lib.Dec.{eqb}
use lib.ListN.{length, take, drop}
use Rattle.std.proofs.Common.{rules}
use Rattle.std.proofs.lemmas.List.{take_all}
use Rattle.common.specs.Limits.{max_outputs}
use Rattle.common.specs.Lists.{all_of}
use Rattle.crossbar.specs.Bytes.{record_length}
use Rattle.crossbar.proofs.Records.{none_short, none_past, one_is}
use Rattle.crossbar.proofs.bytes.RecordTryFromRefSliceU8.try_from.Goals as goal
use Rattle.crossbar.proofs.bytes.RecordTryFromRefSliceU8.try_from.Goals.{in_default-via-in-Some+else-is_zero, in_default-via-in_default}

-- a part that is the whole: the bytes that are tested may be named by a range of those past a record
part_whole : (s : List ℕ) (from n : ℕ) → from ≡ 0 → length s ≤ n → take n (drop from s) ≡ s
part_whole s from n e h = rw (e, take_all n s h)

-- what a test of some bytes says of the bytes past a record, where they are the same
zero_of : (past tested : List ℕ) (r b : Bool) → r ≡ all_of (λ b. eqb b 0) tested → r ≡ b → tested ≡ past → all_of (λ b. eqb b 0) past ≡ b
zero_of past tested r b e is same = rw (← same) (sym e ∙ is)

pub returns-in-Some : goal.returns-in-Some
unfolding record_length max_outputs
returns-in-Some c =
    let split = c.in-Some.ensures.cases in
    let zero = zero_of c.in-Some.past.now _ _ _ c.is_zero.ensures c.if-is_zero.true (search (arith, part_whole)) in
    one_is c.args.s.now c.in-Some.past.now _ split.0 (search rules) zero c.read_record.ensures

pub returns-in_default : goal.returns-in_default
unfolding record_length max_outputs
returns-in_default c =
    let s = c.args.s.now in
    rw c.at.ensures
    (elim c.in_default.branch [
      | in_default-via-in-Some+else-is_zero w ↦
          let split = w.in-Some.ensures.cases in
          let other = zero_of w.in-Some.past.now _ _ _ w.is_zero.ensures w.if-is_zero.false (search (arith, part_whole)) in
          none_past s w.in-Some.past.now split.0 (search rules) other
      | in_default-via-in_default w ↦ none_short s (search rules)
    ])
