-- `programs::print_mapped` meets its contract: the input's length, map and print, step by step.
use mathlib.Core.Path.{sym}
use Rattle.common.specs.Limits.{max_rows, max_columns}
use Rattle.programs.specs.Programs.{map_program}
use Rattle.programs.proofs.Printing.{input_long, input_short, mapping, map_ended, told_refused, map_stops, map_goes}
use Rattle.programs.proofs.print_mapped.Goals as goal

pub returns-in_err-fits : goal.returns-in_err-fits
unfolding map_program
returns-in_err-fits c =
    let s = c.args.input.now in
    told_refused _ _ _ _ _ (map_ended s) c.from_residual.ensures (input_long s (mapping s) _ c.in_err-fits.ensures)

pub returns-in_err-x : goal.returns-in_err-x
unfolding map_program max_rows max_columns
returns-in_err-x c =
    let s = c.args.input.now in
    told_refused _ _ _ _ _ (map_ended s) c.from_residual-in_err-x.ensures (map_stops s (input_short s (mapping s) c.in_ok-fits.ensures) _ (sym c.in_err-x.ensures.answer))

pub returns : goal.returns
unfolding map_program max_rows max_columns
returns c =
    let s = c.args.input.now in
    map_goes s (input_short s (mapping s) c.in_ok-fits.ensures) _ _ (sym c.in_ok-x.ensures.answer) c.in_ok-x.ensures.buffer _ _ _ _ c.print.ensures c.unwrap_or.ensures
