-- `conduction::Lamp::sort` meets its contract: the wires from the first place up to i are sorted.
use mathlib.Core.Path.{◌≡◌}
use lib.ListN.{length}
use Rattle.conduction.specs.Wires.{passes, Sorted}
use Rattle.conduction.proofs.Lamp.sort.Given as goal

abbrev pub invariant-loop-i : goal.invariant-loop-i
invariant-loop-i l =
    (length l.keys ≡ length l.initial.keys) × Sorted (λ k. passes l.self k.adds) l.initial.lit l.initial.keys l.keys l.lit l.i
