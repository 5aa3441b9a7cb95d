-- `conduction::Lamp::all_off` meets its contract: the answer so far is that of the keys so far.
use Rattle.std.proofs.Common.{◌≡◌, get_or, take, eqb}
use Rattle.std.specs.List.{list_all}
use Rattle.conduction.proofs.Lamp.all_off.Given as goal

abbrev pub invariant-loop-key : goal.invariant-loop-key
invariant-loop-key l = l.off ≡ list_all (λ k. eqb (get_or l.self.cells.now k.adds 0) 0) (take l.key-index l.keys)
