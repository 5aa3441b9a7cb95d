-- `conduction::lighting::light_wires` meets its contract: the stamps begin with row 0 alone, and the lamp says which cells conduct.
use borrow.Author.Rules.{rules}
use mathlib.Core.Bool.{Bool, false}
use mathlib.Core.List.{List}
use mathlib.Core.Path.{◌≡◌, refl, ap, ◌∙◌}
use lib.ListN.{length, get_or, length-set}
use Rattle.common.specs.Lists.{zeros}
use Rattle.conduction.proofs.Promise.{table_says, off_dark, lamp_starts, settled_as}
use Rattle.conduction.proofs.lighting.light_wires.Goals as goal

pub invariant_of-rounds : goal.invariant_of-rounds
invariant_of-rounds c = record { off = ap (λ (on : List Bool). get_or on 0 false) c.conducting-on.ensures ∙ off_dark c.args.setting.now }

pub rounds-requires-clause-stamps_value : goal.rounds-requires-clause-stamps_value
rounds-requires-clause-stamps_value c =
    let cleared : c.fill.new.self ≡ zeros (length c.args.firsts.now) = search rules in
    lamp_starts _ _ _ _ _ _ _ c.requires cleared

pub returns : goal.returns
returns c =
    let settled = c.rounds.ensures in
    rw (length-set c.fill.new.self 0 1, c.fill.ensures.len) at
    (settled_as _ _ _ _ _ _ _ (table_says _ c.args.cells.now c.args.setting.now c.args.firsts.now _ _ c.requires refl c.conducting-on.ensures) settled)
