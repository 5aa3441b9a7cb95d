-- `listings::printing::write_row` meets its contract: the lines of the cells from the eight of place i on are still to be written.
use native.Mathlib.Omega.{arith}
use Prim.Native.Nat.{◌+◌, ◌*◌}
use mathlib.Core.Path.{◌≡◌}
use lib.ListN.{drop}
use Rattle.common.specs.Limits.{max_columns}
use Rattle.forms.proofs.Parts.{going_start, going_as, going_part, going_stop, going_last}
use Rattle.listings.proofs.Text.{row_parts, row_parts_off, zeros_of, eight_at, eights_left}
use Rattle.listings.proofs.printing.write_row.Goals.{then-ne+in_ok-write_from, else-ne}
use Rattle.listings.proofs.printing.write_row.Goals as goal

pub loop-i-init : goal.loop-i-init
loop-i-init c = going_start _ _

pub overflow_cast-i : goal.overflow_cast-i
unfolding max_columns
overflow_cast-i c = omega (arith, c.requires, c.as_chunks.ensures.front_len, c.loop-i-test.true)

pub overflow_mul-i : goal.overflow_mul-i
unfolding max_columns
overflow_mul-i c = omega (arith, c.requires, c.as_chunks.ensures.front_len, c.loop-i-test.true)

pub returns-in_err-write_from : goal.returns-in_err-write_from
returns-in_err-write_from c =
    let k = c.as_chunks.ensures in
    let parts = eight_at c.args.row.now _ c.loop-i.i k.front (omega (arith, k.front_len, c.loop-i-test.true)) in
    going_stop _ c.loop-i.invariant (row_parts c.args.r _ 8 _ parts) c.in_err-write_from.ensures c.from_residual.ensures

pub loop-i-preserved : goal.loop-i-preserved
loop-i-preserved c =
    let k = c.as_chunks.ensures in
    let i = c.loop-i.i in
    let left = drop (8 * i) c.args.row.now in
    let parts = eight_at c.args.row.now _ i k.front (omega (arith, k.front_len, c.loop-i-test.true)) in
    let e : 8 * i + 8 ≡ 8 * (i + 1) = omega arith in
    elim c.if-ne.branch [
      | then-ne+in_ok-write_from w ↦
          rw (w.writer-is, ← e) (going_part c.loop-i.invariant (row_parts c.args.r (8 * i) 8 left parts) w.in_ok-write_from.ensures)
      | else-ne w ↦
          let off = zeros_of _ _ _ c.ne.ensures w.if-ne.false in
          rw (w.writer-is, ← e) (going_as c.loop-i.invariant (row_parts_off c.args.r (8 * i) 8 left parts off))
    ]

pub overflow_cast-eights : goal.overflow_cast-eights
unfolding max_columns
overflow_cast-eights c = omega (arith, c.requires, c.as_chunks.ensures.front_len)

pub overflow_mul-eights : goal.overflow_mul-eights
unfolding max_columns
overflow_mul-eights c = omega (arith, c.requires, c.as_chunks.ensures.front_len)

pub returns : goal.returns
returns c =
    let k = c.as_chunks.ensures in
    let left = eights_left c.args.r c.args.row.now _ c.loop-i.i _ (omega (arith, k.front_len)) k.front_len k.back in
    going_last (going_as c.loop-i.invariant left) c.write_from-2.ensures
