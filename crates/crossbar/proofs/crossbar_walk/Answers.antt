-- `crossbar::crossbar_walk` meets its contract: walk answers.
use mathlib.Core.Path.{◌≡◌, ◌∙◌}
use Rattle.std.proofs.Common.{rules}
use Rattle.jobs.specs.Job.{walk}
use Rattle.jobs.proofs.Refusals.{walk_ends}
use Rattle.crossbar.proofs.Numbers.{packed_is}
use Rattle.crossbar.proofs.crossbar_walk.Goals as goal

pub returns : goal.returns
returns c =
    let a = c.args in
    let o = walk a.text.now a.setting.now a.output in
    c.pack.ensures ∙ packed_is (λ v. v) o _ (walk_ends a.text.now a.setting.now a.output) (let same : c.map.result ≡ c.walk.result = search rules in same ∙ c.walk.ensures)
