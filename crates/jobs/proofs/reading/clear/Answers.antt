-- `jobs::reading::clear` meets its contract: each entry that is put is a zero more.
use native.Mathlib.Omega.{arith}
use Rattle.std.proofs.Common.{◌≡◌, ◌+◌, ◌-◌, append_assoc, rules}
use Rattle.std.proofs.lemmas.List.{take_more_set, replicate-append-replicate}
use Rattle.diagram.specs.Diagram.{no_node}
use Rattle.jobs.proofs.reading.clear.Goals as goal

pub loop-k-preserved : goal.loop-k-preserved
unfolding no_node
loop-k-preserved c =
    let k = c.loop-k.k in
    let from = c.args.from in
    let zero : c.default.result ≡ no_node = search rules in
    let more : k + 1 - from ≡ (k - from) + 1 = omega arith in
    rw
    (c.put.ensures, zero, take_more_set c.loop-k.nodes k no_node (omega arith), c.loop-k.invariant, more, ← replicate-append-replicate (k - from) 1 no_node, append_assoc)
