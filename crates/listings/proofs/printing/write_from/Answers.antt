-- `listings::printing::write_from` meets its contract: the lines of the cells from cell i on are still to be written.
use native.Mathlib.Omega.{arith}
use Rattle.common.specs.Limits.{max_columns}
use Rattle.forms.proofs.Parts.{going_start, going_as, going_part, going_stop, going_end}
use Rattle.listings.proofs.Text.{row_at, cell_more, cell_none, row_none}
use Rattle.listings.proofs.printing.write_from.Goals as goal
use Rattle.listings.proofs.printing.write_from.Goals.{then-code-ne-OFF+in_ok-write_cell, else-code-ne-OFF}

pub loop-i-init : goal.loop-i-init
loop-i-init c = let a = c.args in going_as (going_start a.writer.now _) (row_at a.r _ _ a.cells.now (omega arith))

pub overflow_cast-i : goal.overflow_cast-i
unfolding max_columns
overflow_cast-i c = omega arith

pub overflow_add-c : goal.overflow_add-c
unfolding max_columns
overflow_add-c c = omega arith

pub returns-in_err-write_cell : goal.returns-in_err-write_cell
returns-in_err-write_cell c =
    let a = c.args in
    let more = cell_more a.r a.c a.cells.now c.loop-i.i _ c.from_code.result c.loop-i-test.true c.from_code.ensures in
    going_stop _ c.loop-i.invariant more c.in_err-write_cell.ensures c.from_residual.ensures

pub loop-i-preserved : goal.loop-i-preserved
loop-i-preserved c =
    let a = c.args in
    elim c.if-code-ne-OFF.branch [
      | then-code-ne-OFF+in_ok-write_cell w ↦
          let more = cell_more a.r a.c a.cells.now c.loop-i.i _ w.from_code.result c.loop-i-test.true w.from_code.ensures in
          rw w.writer-is (going_part c.loop-i.invariant more w.in_ok-write_cell.ensures)
      | else-code-ne-OFF w ↦
          rw w.writer-is (going_as c.loop-i.invariant (cell_none a.r a.c a.cells.now c.loop-i.i _ c.loop-i-test.true w.if-code-ne-OFF.false))
    ]

pub returns : goal.returns
returns c =
    let a = c.args in
    going_end c.loop-i.invariant (row_none a.r _ a.cells.now c.loop-i.i (omega arith))
