-- `cells::checks::every` meets its contract: the answer so far is that of the entries so far.
use Rattle.std.proofs.Common.{◌≡◌, Bool, take}
use Rattle.std.specs.List.{list_all}
use Rattle.cells.proofs.checks.every.Given as goal

abbrev pub invariant-loop-x : goal.invariant-loop-x
invariant-loop-x g l = (p : _ → Bool) → ((x : _) (r : Bool) → goal.F-post g l.test x r → r ≡ p x) → l.ok ≡ list_all p (take l.x-index l.s)
