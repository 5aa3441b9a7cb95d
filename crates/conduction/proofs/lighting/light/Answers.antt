-- `conduction::lighting::light` meets its contract: each `return` has the grounds that were tried before it.
use mathlib.Core.Bool.{true}
use mathlib.Core.Path.{◌≡◌, refl, ap, ◌∙◌, sym}
use native.Mathlib.Omega.{arith}
use lib.ListN.{length}
use Rattle.common.specs.Fault.{fault_of, faults}
use Rattle.common.specs.Lists.{zeros}
use Rattle.cells.specs.Record.{size, sound}
use Rattle.cells.specs.Setting.{is_setting}
use Rattle.cells.proofs.Sizes.{sound_facts, setting_length}
use Rattle.conduction.proofs.Promise.{by_12, by_13, by_14, answers_refused, answers_15, answers_done}
use Rattle.conduction.proofs.lighting.light.Goals as goal

pub returns-then-not-is_sound : goal.returns-then-not-is_sound
unfolding fault_of faults
returns-then-not-is_sound c =
    let refused = c.refuse in
    let args = c.args in
    answers_refused args.x args.cells.now args.setting.now args.firsts.now _ _ 12
    (by_12 args.x args.cells.now args.setting.now (length args.firsts.now) (sym c.is_sound.ensures ∙ c.if-not-is_sound.true))
    refused.ensures.0 refused.ensures.1

pub returns-then-not-is_setting : goal.returns-then-not-is_setting
unfolding fault_of faults
returns-then-not-is_setting c =
    let refused = c.refuse-then-not-is_setting in
    let args = c.args in
    let held : sound args.x args.cells.now ≡ true = cc in
    answers_refused args.x args.cells.now args.setting.now args.firsts.now _ _ 13
    (by_13 args.x args.cells.now args.setting.now (length args.firsts.now) held
    (sym c.is_setting.ensures ∙ c.if-not-is_setting.true))
    refused.ensures.0 refused.ensures.1

pub returns-then-firsts-m : goal.returns-then-firsts-m
unfolding fault_of faults
returns-then-firsts-m c =
    let refused = c.refuse-then-firsts-m in
    let args = c.args in
    let held : sound args.x args.cells.now ≡ true = cc in
    let fits : is_setting args.x.switches args.setting.now ≡ true = cc in
    answers_refused args.x args.cells.now args.setting.now args.firsts.now _ _ 14
    (by_14 args.x args.cells.now args.setting.now (length args.firsts.now) held
    fits (omega (arith, c.if-firsts-m.true)))
    refused.ensures.0 refused.ensures.1

pub light_wires-requires : goal.light_wires-requires
unfolding size
light_wires-requires c =
    let args = c.args in
    let held : sound args.x args.cells.now ≡ true = cc in
    let fits : is_setting args.x.switches args.setting.now ≡ true = cc in
    let has = sound_facts args.x args.cells.now held in
    let long = setting_length args.x.switches args.setting.now fits in
    rw (c.from-m.ensures, c.from-n.ensures)
    (record {
      row_0 = has.sizes.rows_least;
      rows_fit = has.sizes.rows_most;
      columns_fit = has.sizes.columns_most;
      cells_fit = has.enough;
      codes_fit = rw long has.codes_low_lem;
      switches_fit = rw long has.sizes.switches_most;
      wires_fit = omega (arith, c.if-firsts-m.false);
    })

pub returns-in-Some : goal.returns-in-Some
returns-in-Some c =
    let args = c.args in
    let held : sound args.x args.cells.now ≡ true = cc in
    let fits : is_setting args.x.switches args.setting.now ≡ true = cc in
    answers_done args.x args.cells.now args.setting.now args.firsts.now _ _ held
    fits (omega (arith, c.if-firsts-m.false)) c.in-Some.count
    (rw (c.from-m.ensures, c.from-n.ensures) at c.in-Some.ensures) refl

pub returns-in-None : goal.returns-in-None
unfolding fault_of faults
returns-in-None c =
    let refused = c.refuse-in-None in
    let args = c.args in
    let held : sound args.x args.cells.now ≡ true = cc in
    let fits : is_setting args.x.switches args.setting.now ≡ true = cc in
    answers_15 args.x args.cells.now args.setting.now args.firsts.now _ _ held
    fits (omega (arith, c.if-firsts-m.false)) c.light_wires.new.firsts
    (rw (c.from-m.ensures, c.from-n.ensures) at c.in-None.ensures) refused.ensures.0
    (refused.ensures.1 ∙ ap zeros c.light_wires.auto.firsts)
