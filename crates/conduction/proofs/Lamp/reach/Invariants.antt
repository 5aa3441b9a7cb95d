-- `conduction::Lamp::reach` meets its contract: the wires up to the next four are sorted.
use Prim.Native.Nat.{◌*◌}
use mathlib.Core.Path.{◌≡◌}
use lib.ListN.{length}
use Rattle.conduction.specs.Wires.{passes, Meeting, Sorted}
use Rattle.conduction.proofs.Lamp.reach.Given as goal

abbrev pub invariant-loop-i : goal.invariant-loop-i
invariant-loop-i l =
    (length l.keys ≡ length l.initial.keys)
    × Meeting l.self l.keys
    × Sorted (λ k. passes l.self k.adds) 0 l.initial.keys l.keys l.lit (4 * l.i)
