-- `diagram::wires::number_wires` meets its contract: each id before node k has its number, and the next is the number of node k.
use mathlib.Core.List.{[]}
use Rattle.diagram.specs.Held.{held}
use Rattle.diagram.proofs.Owners.{Numbered}
use Rattle.diagram.proofs.wires.number_wires.Given as goal

abbrev pub invariant-loop-k : goal.invariant-loop-k
invariant-loop-k l = Numbered (held l.d []) l.k l.next l.wires
