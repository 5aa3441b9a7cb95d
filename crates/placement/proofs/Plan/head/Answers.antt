-- `placement::Plan::head` meets its contract: the output rows are the table of what `out_row` answers.
use mathlib.Core.List.{map}
use lib.ListN.{get_or}
use Rattle.std.proofs.Common.{rules, sym}
use Rattle.common.specs.Limits.{max_outputs}
use Rattle.common.proofs.FromFn.{made_tab}
use Rattle.placement.specs.Placement.{out_row}
use Rattle.placement.proofs.Plans.{head_is}
use Rattle.placement.proofs.Plan.head.Goals as goal

pub returns : goal.returns
unfolding max_outputs
returns c =
    let s = c.self in
    let rows = made_tab 0 _ (λ j. get_or (map (out_row c.args.self.now) c.args.self.now.outs) j 0) _ (λ q i y k. search rules) _ _ c.from_fn.ensures.items in
    sym (head_is s.inside _ s.view_is s.invariant _ rows)
