-- `programs::setting::read_figures` meets its contract, figure by figure.
use mathlib.Core.Path.{refl}
use mathlib.Core.Logic.{inl}
use native.Mathlib.Omega.{arith}
use Rattle.std.proofs.Common.{rules}
use Rattle.std.proofs.lemmas.List.{set-get_or}
use Rattle.common.specs.Limits.{max_switches}
use Rattle.figures.specs.Bytes.{bytes}
use Rattle.programs.proofs.SetLine.{filling_start, filling_more, filling_last}
use Rattle.programs.proofs.setting.read_figures.Goals as goal

pub loop-count-init : goal.loop-count-init
unfolding bytes max_switches
loop-count-init c = filling_start _ _ _ c.in_ok-rest.ensures (search rules)

pub returns-in_default : goal.returns-in_default
unfolding bytes max_switches
returns-in_default c =
    rw (set-get_or c.loop-count.figures c.loop-count.count 0)
    (filling_last _ _ _ _ c.loop-count.invariant _ _ c.ended.ensures refl (omega arith) (inl c.in_default.ensures))

pub loop-count-preserved : goal.loop-count-preserved
unfolding bytes max_switches
loop-count-preserved c = filling_more _ _ _ _ c.loop-count.invariant _ c.in-Some.ensures _ c.in_ok-read.ensures (omega arith) (omega arith)
