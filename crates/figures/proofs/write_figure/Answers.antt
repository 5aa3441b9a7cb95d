-- `figures::write_figure` meets its contract: a digit that is written changes no length.
use Prim.Native.Nat.{◌+◌, ◌%◌}
use native.Mathlib.Omega.{arith}
use lib.ListN.{length-set}
use Rattle.figures.proofs.Writing.{length_two}
use Rattle.figures.proofs.write_figure.Goals as goal

pub bounds-out-0-then-n-lt100 : goal.bounds-out-0-then-n-lt100
bounds-out-0-then-n-lt100 c =
    let two = length_two c.args.n c.if-n-lt10.false c.if-n-lt100.true in
    omega (arith, c.requires, two, length-set c.args.out.now 1 (48 + c.args.n % 10))
