-- `listings::loading::load_cells` meets its contract: between two lines the definition has still to read what is left, and the buffer holds
-- the cells before it.
use mathlib.Core.Path.{◌≡◌}
use native.Mathlib.Omega.{arith}
use borrow.Author.Rules.{rules}
use Rattle.std.specs.Prelude.{Err}
use Rattle.common.specs.Limits.{max_rows, max_columns, max_input}
use Rattle.listings.proofs.Steps.{ranged, cell_shorter}
use Rattle.listings.proofs.Reader.{going_start, going_other, going_fault, going_right, going_more}
use Rattle.listings.proofs.loading.load_cells.Goals as goal

pub loop-f-init : goal.loop-f-init
loop-f-init c = let a = c.args in going_start a.from.text.now a.s a.from.line a.cells.now c.requires.1

pub returns-in_default : goal.returns-in_default
returns-in_default c = going_other c.loop-f.invariant c.cell_line-read.ensures c.in_default.not-Cell

pub returns-in_err-map_err : goal.returns-in_err-map_err
returns-in_err-map_err c =
    let v = c.loop-f.invariant in
    let q : c.from_residual.result ≡ Err c.in_err-map_err.field-0.0 = search rules in
    rw q (going_fault v c.cell_line-read.ensures c.in-Cell.is _ _ c.cell_fault.ensures (search rules))

pub place-place-requires : goal.place-place-requires
place-place-requires c =
    let z = ranged c.args.s in
    let v = c.loop-f.invariant in
    let w = going_right v c.cell_line-read.ensures c.in-Cell.is _ c.cell_fault.ensures (search rules) in
    (w.row_in, w.column_in)

pub overflow_cast-to_code : goal.overflow_cast-to_code
overflow_cast-to_code c =
    let v = c.loop-f.invariant in
    let w = going_right v c.cell_line-read.ensures c.in-Cell.is _ c.cell_fault.ensures (search rules) in
    omega (arith, w.code_small, c.to_code.ensures)

pub overflow_add-count : goal.overflow_add-count
unfolding max_rows max_columns
overflow_add-count c =
    let z = ranged c.args.s in
    let v = c.loop-f.invariant in
    let w = going_right v c.cell_line-read.ensures c.in-Cell.is _ c.cell_fault.ensures (search rules) in
    omega (arith, w.inside, z.cells_most, c.place-place.ensures)

pub overflow_add-left : goal.overflow_add-left
unfolding max_rows max_columns max_input
overflow_add-left c =
    let z = ranged c.args.s in
    omega (arith, c.loop-f.invariant.lines, c.loop-f.invariant.short, z.cells_most)

pub loop-f-smaller : goal.loop-f-smaller
loop-f-smaller c = cell_shorter c.cell_line-read.ensures c.in-Cell.is

pub loop-f-preserved : goal.loop-f-preserved
loop-f-preserved c =
    let v = c.loop-f.invariant in
    going_more v c.cell_line-read.ensures c.in-Cell.is _ c.cell_fault.ensures (search rules) c.place-place.ensures c.to_code.ensures c.store.ensures
