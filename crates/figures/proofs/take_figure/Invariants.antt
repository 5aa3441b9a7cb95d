-- `figures::take_figure` meets its contract: after each digit the figure is still to be read on, and what is read of it is small.
use Prim.Native.Nat.{◌-◌, ◌^◌, ◌<◌}
use mathlib.Core.Path.{◌≡◌}
use Rattle.figures.specs.Figure.{take_figure}
use Rattle.figures.proofs.Digits.{read_on}
use Rattle.figures.proofs.take_figure.Given as goal

abbrev pub invariant-loop : goal.invariant-loop
invariant-loop l = record { same : take_figure l.text ≡ read_on (5 - l.counter) l.read.figure l.read.rest.now; below : l.read.figure < 10 ^ l.counter }
