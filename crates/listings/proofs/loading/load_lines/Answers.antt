-- `listings::loading::load_lines` meets its contract: the step at which the reading stops, or its end.
use mathlib.Core.Path.{◌≡◌, sym, ap, ◌∙◌}
use native.Mathlib.Omega.{arith}
use borrow.Author.Rules.{rules}
use lib.ListN.{length}
use Rattle.std.specs.Prelude.{Ok, Err}
use Rattle.common.specs.Limits.{max_outputs, max_input}
use Rattle.common.specs.Outcome.{◌then◌, buffer_of}
use Rattle.common.specs.Fault.{handed, fault_of, faults}
use Rattle.common.proofs.Faults.{handed_on}
use Rattle.forms.proofs.Told.{size_due, size_not}
use mathlib.Core.Bool.{false}
use Rattle.common.specs.declared.Fault.TheVariants as fault
use Rattle.listings.specs.Loader.{sizes_in}
use Rattle.listings.specs.Loading.{fitted}
use Rattle.listings.proofs.Steps.{ranged}
use Rattle.listings.proofs.Loads.{first_missing, first_fault, first_right, outs_stop, outs_done, fitted_short, fitted_head, fitted_cells}
use Rattle.listings.proofs.loading.load_lines.Goals as goal

pub returns-in_default-clause-answer : goal.returns-in_default-clause-answer
returns-in_default-clause-answer c =
    let d = size_not c.size_line-read.ensures c.in_default.not-Size in
    ap (λ r. Err r) (c.refusal_of.ensures ∙ d.1) ∙ sym (first_missing c.args.text.now c.args.line _ d.0)

pub returns-in_err-s-clause-answer : goal.returns-in_err-s-clause-answer
returns-in_err-s-clause-answer c =
    let d = size_due c.size_line-read.ensures c.in-Size.is in
    let q : c.from_residual.result ≡ Err c.in_err-s.field-0.0 = search rules in
    let out : sizes_in c.in-Size.f ≡ false = search rules in
    let at : c.in_err-s.field-0.0 ≡ record { fault = fault.OutOfRange; line = c.args.line } = search rules in
    q ∙ ap (λ r. Err r) at ∙ sym (first_fault c.args.text.now c.args.line _ c.in-Size.f _ d out)

pub overflow_add-first : goal.overflow_add-first
unfolding max_input
overflow_add-first c = omega arith

pub load_cells-requires : goal.load_cells-requires
load_cells-requires c = (omega arith, search rules)

pub returns-in_err-left-clause-answer : goal.returns-in_err-left-clause-answer
returns-in_err-left-clause-answer c =
    let d = size_due c.size_line-read.ensures c.in-Size.is in
    let right = first_right c.args.text.now c.args.line (length c.args.cells.now) c.in-Size.f _ d c.in_ok-s.s.form (search rules) in
    let q : c.from_residual-in_err-left.result ≡ Err c.in_err-left.field-0.0 = search rules in
    q ∙ sym (ap (handed (λ w. w.head)) right ∙ handed_on (λ x. x) (λ w. w.head) _ _ _ c.in_err-left.ensures)

pub load_outs-requires : goal.load_outs-requires
load_outs-requires c =
    let d = c.in_ok-left.ensures in
    omega (arith, d.lines, d.short, (ranged c.in_ok-s.s).cells_most)

pub returns-in_err-outs-clause-answer : goal.returns-in_err-outs-clause-answer
returns-in_err-outs-clause-answer c =
    let room = length c.args.cells.now in
    let d = size_due c.size_line-read.ensures c.in-Size.is in
    let right = first_right c.args.text.now c.args.line room c.in-Size.f _ d c.in_ok-s.s.form (search rules) in
    let k = c.in_ok-left.ensures in
    let q : c.from_residual-in_err-outs.result ≡ Err c.in_err-outs.field-0.0 = search rules in
    q
    ∙ sym
    (ap (handed (λ w. w.head)) (right ∙ ap (λ o. o then λ x. fitted room x) k.same) ∙ outs_stop c.in_ok-s.s.form k.codes room _ _ _ c.in_err-outs.ensures)

pub returns-then-cells-clause-answer : goal.returns-then-cells-clause-answer
unfolding handed fault_of faults
returns-then-cells-clause-answer c =
    let room = length c.args.cells.now in
    let d = size_due c.size_line-read.ensures c.in-Size.is in
    let right = first_right c.args.text.now c.args.line room c.in-Size.f _ d c.in_ok-s.s.form (search rules) in
    let k = c.in_ok-left.ensures in
    let same = right ∙ ap (λ o. o then λ x. fitted room x) k.same ∙ outs_done c.in_ok-s.s.form k.codes room _ _ _ c.in_ok-outs.ensures in
    ap (λ r. Err r) c.at.ensures ∙ sym (ap (handed (λ w. w.head)) (same ∙ fitted_short c.in_ok-s.s.form k.codes c.in_ok-outs.outs room (omega (arith, c.cells.ensures))))

pub returns-clause-answer : goal.returns-clause-answer
unfolding max_outputs
returns-clause-answer c =
    let room = length c.args.cells.now in
    let d = size_due c.size_line-read.ensures c.in-Size.is in
    let right = first_right c.args.text.now c.args.line room c.in-Size.f _ d c.in_ok-s.s.form (search rules) in
    let k = c.in_ok-left.ensures in
    let same = right ∙ ap (λ o. o then λ x. fitted room x) k.same ∙ outs_done c.in_ok-s.s.form k.codes room _ _ _ c.in_ok-outs.ensures in
    ap (λ x. Ok x) c.record.ensures
    ∙ fitted_head c.in_ok-s.s.form k.codes c.in_ok-outs.outs room (omega arith) (omega (arith, c.cells.ensures))
    ∙ sym (ap (handed (λ w. w.head)) same)

pub returns-clause-filled : goal.returns-clause-filled
unfolding max_outputs
returns-clause-filled c =
    let room = length c.args.cells.now in
    let d = size_due c.size_line-read.ensures c.in-Size.is in
    let right = first_right c.args.text.now c.args.line room c.in-Size.f _ d c.in_ok-s.s.form (search rules) in
    let k = c.in_ok-left.ensures in
    let same = right ∙ ap (λ o. o then λ x. fitted room x) k.same ∙ outs_done c.in_ok-s.s.form k.codes room _ _ _ c.in_ok-outs.ensures in
    let e : length c.fill.new.self ≡ room = omega arith in
    fitted_cells c.in_ok-s.s.form k.codes c.in_ok-outs.outs room (omega arith) (omega (arith, c.cells.ensures)) (rw e at k.holds) k.short
    ∙ ap (buffer_of room (λ w. w.codes)) (sym same)
