-- `cells::checks::is_setting` meets its contract.
use Rattle.std.proofs.Common.{rules, tests, leb, ◌≡◌, length, ◌∙◌}
use borrow.Author.Tests.{eq-eqb, ne_eqb}
use Rattle.cells.specs.Setting.{is_setting}
use Rattle.cells.proofs.Every.{list_all_is}
use Rattle.cells.proofs.checks.is_setting.Goals as goal

pub returns-then-setting-from : goal.returns-then-setting-from
unfolding is_setting
returns-then-setting-from c =
    let long : length c.args.setting.now ≡ c.args.switches = c.if-setting-from.true ∙ c.from.ensures in
    rw (is_setting, eq-eqb (length c.args.setting.now) c.args.switches long)
    (c.every.ensures (λ b. leb b 1) (λ x r k. search (rules, tests)) ∙ list_all_is (λ b. leb b 1) c.args.setting.now)

pub returns-else-setting-from : goal.returns-else-setting-from
unfolding is_setting
returns-else-setting-from c =
    rw (is_setting, ← c.from.ensures, ne_eqb (length c.args.setting.now) c.from.result c.if-setting-from.false)
