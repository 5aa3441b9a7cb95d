-- `crossbar::bytes::read_record` meets its contract: the output rows are the table of the numbers from place 4 on.
use Prim.Native.Nat.{ℕ, ◌+◌, ◌<◌}
use mathlib.Core.Path.{◌≡◌, sym, ◌∙◌}
use native.Mathlib.Omega.{arith}
use mathlib.Core.List.{List, []}
use Rattle.std.proofs.Common.{rules}
use Rattle.std.specs.Int.{w16, from_le_bytes}
use lib.ListN.{length, get_or}
use Rattle.std.proofs.lemmas.List.{take_all}
use Rattle.common.specs.Limits.{max_outputs}
use Rattle.common.specs.Lists.{tab}
use Rattle.cells.specs.declared.Crossbar.{Crossbar}
use Rattle.crossbar.specs.Bytes.{record_length, record_from, number_at}
use Rattle.common.proofs.FromFn.{made_tab}
use Rattle.common.proofs.Lists.{tab_agree}
use Rattle.crossbar.proofs.Pairs.{number_from}
use Rattle.crossbar.proofs.bytes.read_record.Goals as goal

record_is :
    (s outs : List ℕ) (r c v k : ℕ)
    → r ≡ number_at s 0
    → c ≡ number_at s 1
    → v ≡ number_at s 2
    → k ≡ number_at s 3
    → outs ≡ tab max_outputs (λ i. number_at s (4 + i))
    → ◌≡◌ {A = Crossbar} (record { rows = r; columns = c; switches = v; outputs = k; outs = outs }) (record_from s)
unfolding record_from
record_is s outs r c v k er ec ev ek e = rw (er, ec, ev, ek, e)

pub returns : goal.returns
unfolding record_length max_outputs
returns c =
    let s = c.args.s.now in
    let ps = c.as_chunks.result.0.now in
    let read : (i : ℕ) → i < 4 + max_outputs → from_le_bytes w16 (get_or ps i []) ≡ number_at s i =
    λ i below. number_from s (length s) s ps i (omega arith) (sym (take_all (length s) s (omega arith))) c.as_chunks.ensures.front (omega arith)
    in
    let made = made_tab 0 _ (λ j. from_le_bytes w16 (get_or ps (4 + j) [])) _ (λ q i y k. search rules) _ _ c.from_fn.ensures.items in
    record_is s _ _ _ _ _
    (c.from_le_bytes.ensures ∙ read 0 (omega arith))
    (c.from_le_bytes-2.ensures ∙ read 1 (omega arith))
    (c.from_le_bytes-3.ensures ∙ read 2 (omega arith))
    (c.from_le_bytes-4.ensures ∙ read 3 (omega arith))
    (made ∙ tab_agree max_outputs _ _ (λ k below. read (4 + k) (omega arith)))
