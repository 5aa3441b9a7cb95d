-- `conduction::spreading::mark` meets its contract: the wires so far have the new stamp.
use mathlib.Core.Path.{◌≡◌}
use lib.ListN.{length, take}
use Rattle.conduction.specs.Wires.{NewlyStamped}
use Rattle.conduction.proofs.spreading.mark.Given as goal

abbrev pub invariant-loop-key : goal.invariant-loop-key
invariant-loop-key l =
    (length l.stamps ≡ length l.initial.stamps) × NewlyStamped (take l.key-index l.keys) l.new l.initial.stamps l.stamps
