-- `cells::checks::at_most` meets its contract: the highest code so far tells of the codes so far.
use Rattle.std.proofs.Common.{◌≡◌, take, leb}
use Rattle.std.specs.List.{list_all}
use Rattle.cells.proofs.checks.at_most.Given as goal

abbrev pub invariant-loop-code : goal.invariant-loop-code
invariant-loop-code l = list_all (λ k. leb k l.most) (take l.code-index l.codes) ≡ leb l.top l.most
