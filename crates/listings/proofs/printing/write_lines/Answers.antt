-- `listings::printing::write_lines` meets its contract: the four parts of a listing, one after the other.
use mathlib.Core.Path.{refl, sym}
use native.Mathlib.Omega.{arith}
use Rattle.cells.specs.Record.{size}
use Rattle.cells.proofs.Sizes.{sound_facts}
use native.Mathlib.Nat.{mul-le-mul_right}
use Rattle.std.proofs.lemmas.List.{length-take, length-take-le}
use Rattle.common.specs.Limits.{max_outputs}
use Rattle.forms.proofs.Parts.{going_start, going_part, going_stop, going_last}
use Rattle.listings.proofs.Answers.{listing-parts}
use Rattle.listings.proofs.printing.write_lines.Goals as goal

pub returns-in_err-size_line : goal.returns-in_err-size_line
returns-in_err-size_line c =
    let a = c.args in
    let sizes = rw c.from.ensures at c.in_err-size_line.ensures in
    going_stop _ (going_start a.writer.now _) (listing-parts a.x a.cells.now) sizes c.from_residual.ensures

pub slice_bounds-write_cells-end : goal.slice_bounds-write_cells-end
slice_bounds-write_cells-end c =
    let a = c.args in
    rw c.size.ensures (sym (length-take-le _ a.cells.now (sound_facts a.x a.cells.now c.requires).enough))

pub write_cells-requires : goal.write_cells-requires
unfolding size
write_cells-requires c =
    let a = c.args in
    let f = sound_facts a.x a.cells.now c.requires in
    let cells_most = mul-le-mul_right a.x.columns f.sizes.rows_most in (
      rw c.from-2.ensures f.sizes.columns_most,
      rw (c.from-2.ensures, c.size.ensures, length-take-le _ a.cells.now f.enough) cells_most,
    )

pub returns-in_err-write_cells : goal.returns-in_err-write_cells
returns-in_err-write_cells c =
    let a = c.args in
    let sizes = rw c.from.ensures at c.in_ok-size_line.ensures in
    let cells = rw (c.from-2.ensures, c.size.ensures) at c.in_err-write_cells.ensures in
    let head = going_part (going_start a.writer.now _) (listing-parts a.x a.cells.now) sizes in
    going_stop _ head refl cells c.from_residual-in_err-write_cells.ensures

pub slice_bounds-outs-end : goal.slice_bounds-outs-end
unfolding max_outputs
slice_bounds-outs-end c = omega (arith, (sound_facts c.args.x c.args.cells.now c.requires).sizes.outputs_most)

pub slice_bounds-write_outs-end : goal.slice_bounds-write_outs-end
unfolding max_outputs
slice_bounds-write_outs-end c =
    let a = c.args in
    rw c.from-3.ensures (sym (length-take-le a.x.outputs a.x.outs (omega (arith, (sound_facts a.x a.cells.now c.requires).sizes.outputs_most))))

pub write_outs-requires : goal.write_outs-requires
write_outs-requires c =
    let a = c.args in
    omega (arith, length-take c.from-3.result a.x.outs, c.from-3.ensures, (sound_facts a.x a.cells.now c.requires).sizes.outputs_most)

pub returns-in_err-write_outs : goal.returns-in_err-write_outs
returns-in_err-write_outs c =
    let a = c.args in
    let sizes = rw c.from.ensures at c.in_ok-size_line.ensures in
    let cells = rw (c.from-2.ensures, c.size.ensures) at c.in_ok-write_cells.ensures in
    let outs = rw c.from-3.ensures at c.in_err-write_outs.ensures in
    let head = going_part (going_start a.writer.now _) (listing-parts a.x a.cells.now) sizes in
    going_stop _ (going_part head refl cells) refl outs c.from_residual-in_err-write_outs.ensures

pub returns : goal.returns
returns c =
    let a = c.args in
    let sizes = rw c.from.ensures at c.in_ok-size_line.ensures in
    let cells = rw (c.from-2.ensures, c.size.ensures) at c.in_ok-write_cells.ensures in
    let outs = rw c.from-3.ensures at c.in_ok-write_outs.ensures in
    let head = going_part (going_start a.writer.now _) (listing-parts a.x a.cells.now) sizes in
    going_last (going_part (going_part head refl cells) refl outs) c.end_line.ensures
