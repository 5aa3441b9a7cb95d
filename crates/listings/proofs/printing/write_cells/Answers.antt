-- `listings::printing::write_cells` meets its contract: the lines of the rows that are left are still to be written.
use mathlib.Core.Path.{◌∙◌}
use native.Mathlib.Omega.{arith}
use borrow.Author.Rules.{rules}
use Rattle.common.specs.Limits.{max_rows, max_columns}
use Rattle.forms.proofs.Parts.{going_start, going_as, going_part, going_stop, going_end}
use Rattle.listings.proofs.Text.{piece, pieces_start, pieces_next, piece_inside, rows_piece, rows_of, row_small, rows_start, cells_nothing}
use Rattle.listings.proofs.printing.write_cells.Goals as goal

pub loop-r-init : goal.loop-r-init
loop-r-init c =
    let a = c.args in (
      search rules,
      tt,
      pieces_start _ _ _ _ _ (search rules) (search rules) (search rules),
      going_as (going_start a.writer.now _) (rows_of a.columns a.cells.now max_rows c.requires.1 ∙ rows_start _ _ _ _ (search rules) (search rules)),
    )

pub overflow_cast-r : goal.overflow_cast-r
unfolding max_rows max_columns
overflow_cast-r c =
    let s = c.in-Some.ensures.steps in
    let p = piece c.loop-r.invariant.2 s.0.1.0 s.0.1.1 s.0.1.2 in
    omega (arith, s.1, row_small _ _ _ _ _ _ (piece_inside p c.loop-r.invariant.2) c.requires.1 c.requires.0)

pub write_row-requires : goal.write_row-requires
unfolding max_columns
write_row-requires c =
    let s = c.in-Some.ensures.steps in
    let p = piece c.loop-r.invariant.2 s.0.1.0 s.0.1.1 s.0.1.2 in
    omega (arith, p.long)

pub returns-in_err-write_row : goal.returns-in_err-write_row
returns-in_err-write_row c =
    let s = c.in-Some.ensures.steps in
    let p = piece c.loop-r.invariant.2 s.0.1.0 s.0.1.1 s.0.1.2 in
    going_stop _ c.loop-r.invariant.3 (rows_piece p _ s.1 s.2) c.in_err-write_row.ensures c.from_residual.ensures

pub loop-r-preserved : goal.loop-r-preserved
loop-r-preserved c =
    let s = c.in-Some.ensures.steps in
    let p = piece c.loop-r.invariant.2 s.0.1.0 s.0.1.1 s.0.1.2 in (
      search rules,
      tt,
      pieces_next p c.loop-r.invariant.2 s.0.0 s.2,
      going_part c.loop-r.invariant.3 (rows_piece p _ s.1 s.2) c.in_ok-write_row.ensures,
    )

pub returns : goal.returns
returns c = going_end c.loop-r.invariant.3 (cells_nothing _ _ _ c.in-None.ensures.steps.0.1.0)
