-- `jobs::reading::read_nodes` meets its contract.
use native.Mathlib.Omega.{arith}
use Rattle.std.proofs.Common.{◌≡◌, length, take, rules, add-one, refl}
use Rattle.std.proofs.lemmas.List.{length-take-le}
use Rattle.common.proofs.Faults.{tested_passed}
use Rattle.common.specs.Limits.{max_switches, max_nodes}
use Rattle.forms.proofs.Told.{node_not, node_due}
use Rattle.diagram.specs.Diagram.{id_count}
use Rattle.diagram.specs.Held.{held, node_given}
use Rattle.jobs.specs.Reading.{node_of, read_nodes}
use Rattle.jobs.proofs.Steps.{node_below, line_not, line_stops, line_goes, nodes_none, nodes_stop, nodes_more, nodes_all, goes_err}
use Rattle.jobs.proofs.reading.read_nodes.Goals as goal

pub loop-k-init : goal.loop-k-init
loop-k-init c = nodes_none _ _ _ _ _ _ _ refl _ c.new-seen.ensures.exact c.new-seen.ensures.marked

pub returns-in_default : goal.returns-in_default
unfolding read_nodes
returns-in_default c =
    nodes_stop _ _ _ _ _ _ _ c.loop-k.auto.nodes _ _ _ c.loop-k.invariant c.loop-k-test.true _
    (line_not _ _ _ _ _ _ (node_not c.node_line-read.ensures c.in_default.not-Node) c.refusal_of.ensures)

pub returns-in_err-map_err : goal.returns-in_err-map_err
unfolding read_nodes node_of node_given held
returns-in_err-map_err c =
    goes_err _ _ _ _ c.from_residual.ensures
    (nodes_stop _ _ _ _ _ _ _ c.loop-k.auto.nodes _ _ _ c.loop-k.invariant c.loop-k-test.true _
    (line_stops _ _ _ _ _ _ _ (node_due c.node_line-read.ensures c.in-Node.is) _ _ c.node_fault.ensures (search rules)))

pub given-node-requires : goal.given-node-requires
unfolding node_given held id_count max_switches max_nodes
given-node-requires c =
    let b = node_below _ _ _ (tested_passed _ _ c.node_fault.ensures (search rules)) in
    let few : length (take c.loop-k.k c.loop-k.nodes) ≡ c.loop-k.k = length-take-le c.loop-k.k c.loop-k.nodes (omega arith) in
    record {
      x_fits = omega (arith, b.switch);
      l_fits = omega (arith, b.turn, b.low, few, c.requires);
      h_fits = omega (arith, b.turn, b.high, few, c.requires);
    }

pub loop-k-preserved : goal.loop-k-preserved
unfolding read_nodes node_of node_given held
loop-k-preserved c =
    rw add-one
    (nodes_more _ _ _ _ _ _ _ c.loop-k.auto.nodes _ _ _ c.loop-k.invariant c.loop-k-test.true _ _
    (rw c.given-node.ensures (line_goes _ _ _ _ _ _ _ (node_due c.node_line-read.ensures c.in-Node.is) _ c.node_fault.ensures (search rules)))
    _ c.put.ensures _ c.mark.ensures)

pub returns : goal.returns
returns c = nodes_all _ _ _ _ _ _ _ c.loop-k.auto.nodes _ _ _ c.loop-k.invariant c.loop-k-test.false c.loop-k.auto.k-end
