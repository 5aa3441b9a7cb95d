-- `conduction::Lamp::reach` meets its contract: the wires up to the next four are sorted.
use Prim.Native.Nat.{ℕ, ◌+◌, ◌-◌, ◌*◌, ◌/◌, ◌<◌, ◌≤◌}
use mathlib.Core.Path.{◌≡◌, refl, sym, ap, ◌∙◌}
use mathlib.Core.Bool.{Bool}
use mathlib.Core.List.{List}
use native.Mathlib.Omega.{arith}
use lib.ListN.{length}
use Rattle.conduction.specs.declared.Key.{Key}
use Rattle.conduction.specs.Wires.{no_key, Sorted}
use Rattle.conduction.proofs.Sorting.{exchanged_all, sorted_none, sorted_pass, sorted_on, part_long, part_entry}
use Rattle.conduction.proofs.Parts.{off_keys}
use Rattle.conduction.proofs.Lamp.reach.Goals as goal
use Rattle.conduction.proofs.Lamp.reach.Goals.{then-not-all_off, else-not-all_off}

-- a part that ends at the same place
sorted_up :
    (f : Key → Bool) (first : ℕ) (l l' : List Key) (lit i : ℕ) → Sorted f first l l' lit i
    → (end : ℕ) → i ≡ end → Sorted f first l l' lit end
sorted_up f first l l' lit i sorted end e = rw (← e) sorted

pub loop-i-init : goal.loop-i-init
loop-i-init c = (refl, c.requires, sorted_none _ _ _ _ (omega arith) (λ k p q. absurd (omega arith)))

pub loop-i-preserved : goal.loop-i-preserved
loop-i-preserved c =
    let inv = c.loop-i.invariant in
    let next : 4 * (c.loop-i.i + 1) ≡ 4 * c.loop-i.i + 4 = omega arith in
    elim c.if-not-all_off.branch [
      | then-not-all_off w ↦
          let sorting = w.sort-lit in (
            ap length w.keys-is ∙ sorting.auto.keys ∙ inv.0,
            rw w.keys-is
                (λ k h.
                exchanged_all (λ w. w.adds < length c.args.self.cells.now) _ _ _ sorting.ensures.exchanged inv.1 k
                (omega (arith, h, sorting.auto.keys))),
            rw (w.keys-is, w.lit-is)
                (sorted_up _ _ _ _ _ _ (sorted_on _ _ _ _ _ _ inv.2 _ _ _ inv.0 (omega arith) sorting.ensures) _ (omega arith)),
          )
      | else-not-all_off w ↦ (
        ap length w.keys-is ∙ inv.0,
        rw w.keys-is inv.1,
        rw (next, w.keys-is, w.lit-is)
            (sorted_pass _ _ _ _ _ _ inv.2 _ (omega arith)
            (λ k p q.
            let at = (4 * c.loop-i.i) in
            let keys = c.loop-i.keys in
            let in_part : at + 4 ≤ length keys = omega (arith, inv.0) in
            let there : at + (k - at) ≡ k = omega arith in
            let entry = part_entry keys at (at + 4) (k - at) no_key (omega arith) in
            rw (entry, there) at (off_keys c.args.self _ (sym c.all_off.ensures ∙ w.if-not-all_off.false) (k - at) (omega (arith, part_long keys at (at + 4) in_part))))),
      )
    ]

pub returns : goal.returns
returns c =
    let inv = c.loop-i.invariant in
    let all : c.loop-i.i ≡ length c.args.keys.now / 4 = omega arith in
    rw inv.0 at (sorted_on _ _ _ _ _ _ (rw all at inv.2) _ _ _ inv.0 (omega (arith, inv.0)) c.sort.ensures)
