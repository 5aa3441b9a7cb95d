-- `diagram::wires::number_wires` meets its contract: each id before node k has its number, and the next is the number of node k.
use Rattle.std.proofs.Common.{arith, [], refl}
use Rattle.common.specs.Limits.{max_ids, max_nodes}
use Rattle.diagram.specs.Diagram.{no_node}
use Rattle.diagram.specs.Held.{held}
use Rattle.diagram.proofs.Owners.{numbered_none, numbered_more, numbered_all}
use Rattle.diagram.proofs.wires.number_wires.Goals as goal

pub loop-k-init : goal.loop-k-init
unfolding held max_ids max_nodes
loop-k-init c =
    rw c.past-next.ensures (numbered_none (held c.args.d.now []) c.default-first.result _ c.default-first.ensures refl)

pub loop-k-preserved : goal.loop-k-preserved
unfolding held no_node
loop-k-preserved c =
    rw c.past-next-in-loop-k.ensures
    (numbered_more (held c.args.d.now []) _ _ _ c.loop-k.invariant (omega arith) c.args.d.now.few)

pub returns : goal.returns
unfolding held
returns c = numbered_all (held c.args.d.now []) _ _ _ c.loop-k.invariant (omega arith)
