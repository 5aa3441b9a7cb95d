-- `cells::checks::is_sound` meets its contract.
use Rattle.std.proofs.Common.{sym, ◌≡◌, true, false}
use Rattle.cells.specs.Record.{in_range}
use Rattle.cells.proofs.Sizes.{in_range_lem, sound_none, sound_some}
use Rattle.cells.proofs.checks.is_sound.Goals as goal

pub returns-then-not-in_range : goal.returns-then-not-in_range
returns-then-not-in_range c =
    let x = c.args.x in
    let out : in_range x.rows x.columns x.switches x.outputs ≡ false = cc in
    sym (sound_none x c.args.cells.now out)

pub outs_fit-requires : goal.outs_fit-requires
outs_fit-requires c =
    let x = c.args.x in
    let range : in_range x.rows x.columns x.switches x.outputs ≡ true = cc in
    (in_range_lem _ _ _ _ range).outputs_most

pub returns-then-cells_fit : goal.returns-then-cells_fit
returns-then-cells_fit c =
    let x = c.args.x in
    let range : in_range x.rows x.columns x.switches x.outputs ≡ true = cc in
    rw (sound_some x c.args.cells.now range, ← c.cells_fit.ensures, c.if-cells_fit.true) c.outs_fit.ensures

pub returns-else-cells_fit : goal.returns-else-cells_fit
returns-else-cells_fit c =
    let x = c.args.x in
    let range : in_range x.rows x.columns x.switches x.outputs ≡ true = cc in
    rw (sound_some x c.args.cells.now range, ← c.cells_fit.ensures, c.if-cells_fit.false)
