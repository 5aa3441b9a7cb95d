-- `listings::loading::load_outs` meets its contract: between two lines the definition has still to read what is left, and the array holds the
-- output rows before it.
use mathlib.Core.Path.{◌≡◌, sym, ap, ◌∙◌}
use native.Mathlib.Omega.{arith}
use borrow.Author.Rules.{rules}
use lib.Seq.{length-take-le}
use Rattle.common.specs.Lists.{zeros}
use Rattle.common.specs.Limits.{max_rows, max_columns, max_outputs, max_input}
use Rattle.std.specs.Prelude.{Err}
use Rattle.common.proofs.Faults.{handed_ok}
use Rattle.forms.proofs.Told.{out_due, out_not}
use Rattle.listings.proofs.Steps.{ranged}
use Rattle.listings.proofs.Stands.{standing_start, standing_stop, standing_done, standing_missing, standing_fault, target_small, standing_more}
use Rattle.listings.proofs.loading.load_outs.Goals as goal

pub slice_bounds-outs-end : goal.slice_bounds-outs-end
unfolding max_outputs
slice_bounds-outs-end c = (ranged c.args.s).outputs_most

pub slice_bounds-out-items-end : goal.slice_bounds-out-items-end
unfolding max_outputs
slice_bounds-out-items-end c = sym (length-take-le c.args.s.form.outputs (zeros 32) (ranged c.args.s).outputs_most)

pub loop-j-init : goal.loop-j-init
loop-j-init c = let a = c.args in standing_start a.from.text.now a.s a.from.line

pub overflow_add-line : goal.overflow_add-line
unfolding max_rows max_columns max_outputs max_input
overflow_add-line c = let z = ranged c.args.s in omega (arith, c.loop-j.invariant.long, z.outputs_most)

pub returns-in_default : goal.returns-in_default
returns-in_default c =
    let v = c.loop-j.invariant in
    let d = out_not c.out_line-read.ensures c.in_default.not-Out in
    ap (λ r. Err r) (c.refusal_of.ensures ∙ d.1) ∙ sym (standing_missing v (omega arith) d.0)

pub returns-in_err-map_err : goal.returns-in_err-map_err
returns-in_err-map_err c =
    let v = c.loop-j.invariant in
    let d = out_due c.out_line-read.ensures c.in-Out.is in
    let q : c.from_residual.result ≡ Err c.in_err-map_err.field-0.0 = search rules in
    q ∙ sym (standing_fault v (omega arith) _ d _ _ c.row_fault.ensures (search rules))

pub overflow_cast-out : goal.overflow_cast-out
unfolding max_rows
overflow_cast-out c =
    let v = c.loop-j.invariant in
    let d = out_due c.out_line-read.ensures c.in-Out.is in
    omega (arith, target_small v (omega arith) _ d _ c.row_fault.ensures (search rules))

pub loop-j-preserved : goal.loop-j-preserved
loop-j-preserved c =
    let v = c.loop-j.invariant in
    let d = out_due c.out_line-read.ensures c.in-Out.is in
    standing_more v (omega arith) _ d _ c.row_fault.ensures (search rules)

pub overflow_add-from : goal.overflow_add-from
unfolding max_rows max_columns max_outputs max_input
overflow_add-from c = let z = ranged c.args.s in omega (arith, z.outputs_most)

pub last_line-requires : goal.last_line-requires
unfolding max_rows max_columns max_outputs max_input
last_line-requires c = let z = ranged c.args.s in omega (arith, z.outputs_most)

pub returns-in_err-last_line : goal.returns-in_err-last_line
returns-in_err-last_line c =
    let v = c.loop-j.invariant in
    let q : c.from_residual-in_err-last_line.result ≡ Err c.in_err-last_line.field-0.0 = search rules in
    q ∙ sym (standing_stop v (omega arith) (sym c.in_err-last_line.ensures))

pub returns : goal.returns
returns c =
    let v = c.loop-j.invariant in
    let o = handed_ok (λ o. o) _ _ (sym c.in_ok-last_line.ensures) in
    sym (standing_done v (omega arith) o.1)
