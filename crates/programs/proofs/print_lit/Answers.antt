-- `programs::print_lit` meets its contract: the input's length, the set line, load and light, step by step.
use mathlib.Core.Path.{◌≡◌, sym, ap, ◌∙◌}
use Rattle.std.proofs.Common.{rules, arith, None, Some, Err}
use Rattle.common.specs.declared.Fault.TheVariants as fault
use Rattle.common.specs.Limits.{max_rows, max_columns, max_input}
use Rattle.programs.specs.Programs.{program_text, light_program}
use Rattle.programs.proofs.Printing.{input_long, input_short, lighting, light_ended, told_refused, set_stops, listing_stops, lamp_stops, lamp_goes}
use Rattle.programs.proofs.print_lit.Goals as goal

pub returns-in_err-fits : goal.returns-in_err-fits
unfolding light_program
returns-in_err-fits c =
    let s = c.args.input.now in
    told_refused _ _ _ _ _ (light_ended s) c.from_residual.ensures (input_long s (lighting s) _ c.in_err-fits.ensures)

pub returns-in_err-count : goal.returns-in_err-count
unfolding light_program
returns-in_err-count c =
    let s = c.args.input.now in
    let fits = input_short s (lighting s) c.in_ok-fits.ensures in
    let none : c.set_line.result ≡ None = grind arith in
    let is : c.in_err-count.field-0.0 ≡ record { fault = fault.NotDue; line = 1 } = grind arith in
    told_refused _ _ _ _ _ (light_ended s) c.from_residual-in_err-count.ensures
    (set_stops s fits (rw none at c.set_line.ensures.answer) ∙ ap Err (sym is))

pub load_at-requires : goal.load_at-requires
unfolding max_input
load_at-requires c = search rules

pub returns-in_err-x : goal.returns-in_err-x
unfolding light_program max_rows max_columns
returns-in_err-x c =
    let s = c.args.input.now in
    let fits = input_short s (lighting s) c.in_ok-fits.ensures in
    let some : c.set_line.result ≡ Some (c.in_ok-count.count, c.in_ok-count.text) = grind arith in
    let found = rw some at c.set_line.ensures.answer in
    told_refused _ _ _ _ _ (light_ended s) c.from_residual-in_err-x.ensures
    (listing_stops s fits _ _ found.1 _ (sym c.in_err-x.ensures.answer))

pub returns-in_err-rounds : goal.returns-in_err-rounds
unfolding light_program max_rows max_columns
returns-in_err-rounds c =
    let s = c.args.input.now in
    let fits = input_short s (lighting s) c.in_ok-fits.ensures in
    let some : c.set_line.result ≡ Some (c.in_ok-count.count, c.in_ok-count.text) = grind arith in
    let found = rw some at c.set_line.ensures.answer in
    let x = c.in_ok-x.ensures in
    told_refused _ _ _ _ _ (light_ended s) c.from_residual-in_err-rounds.ensures
    (lamp_stops s fits _ _ found.1 _ _ (sym x.answer) x.buffer _ (sym c.in_err-rounds.ensures.answer))

pub invariant_of-lit : goal.invariant_of-lit
unfolding max_rows max_columns
invariant_of-lit c =
    let s = c.args.input.now in
    let fits = input_short s (lighting s) c.in_ok-fits.ensures in
    let some : c.set_line.result ≡ Some (c.in_ok-count.count, c.in_ok-count.text) = grind arith in
    let found = rw some at c.set_line.ensures.answer in
    let x = c.in_ok-x.ensures in
    let rounds = c.in_ok-rounds.ensures in
    record { few = (lamp_goes s fits _ _ found.1 _ _ (sym x.answer) x.buffer _ _ (sym rounds.answer) rounds.buffer).0 }

pub returns : goal.returns
unfolding light_program program_text max_rows max_columns
returns c =
    let s = c.args.input.now in
    let fits = input_short s (lighting s) c.in_ok-fits.ensures in
    let some : c.set_line.result ≡ Some (c.in_ok-count.count, c.in_ok-count.text) = grind arith in
    let found = rw some at c.set_line.ensures.answer in
    let x = c.in_ok-x.ensures in
    let rounds = c.in_ok-rounds.ensures in
    let goes = lamp_goes s fits _ _ found.1 _ _ (sym x.answer) x.buffer _ _ (sym rounds.answer) rounds.buffer in
    rw (goes.1, ← c.from.ensures) c.print_readings.ensures
