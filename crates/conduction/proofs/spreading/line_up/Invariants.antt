-- `conduction::spreading::line_up` meets its contract: the first wires stand in order.
use Prim.Native.Nat.{ℕ, ◌<◌}
use mathlib.Core.Path.{◌≡◌}
use lib.ListN.{length, get_or}
use Rattle.conduction.specs.Wires.{no_key, wire_of}
use Rattle.conduction.proofs.spreading.line_up.Given as goal

abbrev pub invariant-loop-x : goal.invariant-loop-x
invariant-loop-x l =
    (length l.keys ≡ length l.initial.keys) × ((k : ℕ) → k < l.x → get_or l.keys k no_key ≡ wire_of l.first l.step k)
