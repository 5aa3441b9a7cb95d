-- `conduction::stamping::rounds` meets its contract: whenever the loop begins again, t rounds were run and each added a wire.
use Prim.Native.Nat.{◌-◌}
use lib.ListN.{length}
use Rattle.conduction.proofs.Counting.{Running}
use Rattle.conduction.proofs.stamping.rounds.Given as goal

abbrev pub invariant-loop-t : goal.invariant-loop-t
invariant-loop-t l =
    Running l.lamp l.m l.n (length l.initial.stamps) l.rows l.columns l.stamps l.t l.front.head l.front.tail l.front.dark

abbrev pub decreases-loop-t : goal.decreases-loop-t
decreases-loop-t l = l.wires - l.t
