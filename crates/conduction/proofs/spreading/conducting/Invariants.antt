-- `conduction::spreading::conducting` meets its contract: the codes before the next one are in the table.
use Prim.Native.Nat.{ℕ, ◌+◌, ◌*◌, ◌<◌}
use mathlib.Core.Path.{◌≡◌}
use mathlib.Core.Bool.{false}
use lib.ListN.{length, get_or}
use Rattle.cells.specs.Code.{cell_of}
use Rattle.cells.specs.Conducts.{conducts}
use Rattle.conduction.proofs.spreading.conducting.Given as goal

abbrev pub invariant-loop-code : goal.invariant-loop-code
invariant-loop-code l =
    (length l.switched ≡ 2 + 2 * length l.setting)
    × ((k : ℕ) → k < l.code → get_or l.switched k false ≡ conducts l.setting (cell_of k))
