-- `conduction::Lamp::sort` meets its contract: the wires from the first place up to i are sorted.
use mathlib.Core.Path.{◌≡◌, refl, sym, ap, ◌∙◌}
use native.Mathlib.Omega.{arith}
use lib.ListN.{length}
use Rattle.conduction.specs.Wires.{passes}
use Rattle.conduction.proofs.Sorting.{sorted_none, sorted_pass, sorted_name}
use Rattle.conduction.proofs.Lamp.sort.Goals as goal
use Rattle.conduction.proofs.Lamp.sort.Goals.{then-passes, else-passes}

pub loop-i-init : goal.loop-i-init
loop-i-init c =
    (refl, sorted_pass _ _ _ _ _ _ (sorted_none _ _ _ _ (omega arith) (λ k p q. absurd (omega arith))) _ c.requires.from c.requires.none)

pub loop-i-preserved : goal.loop-i-preserved
loop-i-preserved c =
    let inv = c.loop-i.invariant in
    let i = c.loop-i.i in
    let named = c.passes.ensures ∙ ap (passes c.args.self) c.from.ensures in
    elim c.if-passes.branch [
      | then-passes w ↦ (
        ap length w.keys-is ∙ w.swap.ensures.len ∙ inv.0,
        rw (w.keys-is, w.lit-is)
            (sorted_name _ _ _ _ _ _ inv.1 _ inv.0 (omega (arith, c.requires.within)) (sym named ∙ w.if-passes.true) w.swap.ensures.by_index),
      )
      | else-passes w ↦ (
        ap length w.keys-is ∙ inv.0,
        rw (w.keys-is, w.lit-is)
            (sorted_pass _ _ _ _ _ _ inv.1 _ (omega arith)
            (λ k p q. let at : k ≡ i = omega arith in rw at (sym named ∙ w.if-passes.false))),
      )
    ]
