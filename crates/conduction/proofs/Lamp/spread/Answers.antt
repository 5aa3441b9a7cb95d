-- `conduction::Lamp::spread` meets its contract: the dark wires are sorted by what the first wires of the front are joined to.
use Prim.Native.Nat.{◌+◌, ◌-◌, ◌<◌, ◌≤◌}
use mathlib.Core.Path.{◌≡◌, refl, ap, ◌∙◌}
use native.Mathlib.Omega.{arith}
use borrow.Author.Rules.{rules}
use lib.ListN.{length, get_or, length-drop}
use Rattle.conduction.specs.Wires.{no_key, passes, joined_to}
use Rattle.conduction.proofs.Sorting.{sorted_none, exchanged_all, rest_long, rest_entry, put_long, sorted_rest}
use Rattle.conduction.proofs.Parts.{spread_none, spread_more}
use Rattle.conduction.proofs.Lamp.spread.Goals as goal

pub returns-then-is_empty : goal.returns-then-is_empty
returns-then-is_empty c =
    let none : length c.args.dark.now ≡ 0 = search rules in
    sorted_none (joined_to c.args.self c.args.front.now) 0 c.args.dark.now _ (omega arith) (λ k p q. absurd (omega arith))

pub of_wire-requires : goal.of_wire-requires
of_wire-requires c =
    let some : 0 < length c.args.dark.now = search rules in
    omega (arith, c.requires.meeting c.loop-key.key-index 0 c.loop-key-test.true some)

pub loop-key-init : goal.loop-key-init
loop-key-init c = (refl, spread_none _ _)

pub reach-lit-requires : goal.reach-lit-requires
reach-lit-requires c =
    let inv = c.loop-key.invariant in
    let dark = c.loop-key.dark in
    let within : c.loop-key.lit ≤ length dark = omega (arith, inv.0, inv.1.upto) in
    let cells = c.args.self.cells.now in
    let adds = (get_or c.args.front.now c.loop-key.key-index no_key).adds in
    let long : length c.of_wire.result.cells.now ≡ length cells - adds = ap length c.of_wire.ensures.0 ∙ length-drop adds cells in
    λ k h.
    let meets : (get_or dark (c.loop-key.lit + k) no_key).adds < length cells - adds =
    exchanged_all (λ w. w.adds < length cells - adds) _ _ _ inv.1.exchanged
    (λ j p. let m = c.requires.meeting c.loop-key.key-index j c.loop-key-test.true p in omega arith) (c.loop-key.lit + k)
    (omega (arith, h, rest_long dark c.loop-key.lit within, inv.0)) in
    rw (rest_entry dark c.loop-key.lit within k, long) meets

pub loop-key-preserved : goal.loop-key-preserved
loop-key-preserved c =
    let inv = c.loop-key.invariant in
    let dark = c.loop-key.dark in
    let within : c.loop-key.lit ≤ length dark = omega (arith, inv.0, inv.1.upto) in
    let long = c.reach-lit.auto.keys in
    let sorted = sorted_rest dark c.loop-key.lit within _ long (λ k. passes c.of_wire.result k.adds) _ c.reach-lit.ensures in (
      put_long dark c.loop-key.lit within _ long ∙ inv.0,
      spread_more _ _ _ _ _ _ _ _ c.of_wire.result c.loop-key-test.true c.of_wire.ensures.0 c.of_wire.ensures.1 inv.0 inv.1 sorted,
    )
