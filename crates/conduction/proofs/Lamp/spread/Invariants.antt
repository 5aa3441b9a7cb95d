-- `conduction::Lamp::spread` meets its contract: the dark wires are sorted by what the first wires of the front are joined to.
use mathlib.Core.Path.{◌≡◌}
use lib.ListN.{length, take}
use Rattle.conduction.specs.Wires.{joined_to, Sorted}
use Rattle.conduction.proofs.Lamp.spread.Given as goal

abbrev pub invariant-loop-key : goal.invariant-loop-key
invariant-loop-key l =
    (length l.dark ≡ length l.initial.dark)
    × Sorted (joined_to l.self (take l.key-index l.front)) 0 l.initial.dark l.dark l.lit (length l.initial.dark)
