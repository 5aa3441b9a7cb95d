-- Document 01, "Job text": "The diagram walk goes from a node to the child its switch selects, until a terminal; children always
-- have lower ids."
use Rattle.std.specs.Prelude.{ℕ, zero, suc, ◌≤◌, ◌<◌, true, false, List, length, get_or, eqb}
use Rattle.common.specs.Lists.{bit}
use Rattle.diagram.specs.Diagram.{Diagram, id_count, switch_at, low_at, high_at}

-- one step: L is taken when the switch is 0, H when it is 1. A terminal is its own child, so the walk stays there.
unfoldable pub step : Diagram → List ℕ → ℕ → ℕ
step d setting i = elim (eqb (get_or setting (switch_at d i) 0) 1) [ true ↦ high_at d i | false ↦ low_at d i ]

-- where n steps lead
unfoldable pub steps : Diagram → List ℕ → ℕ → ℕ → ℕ
steps d setting zero i = i
steps d setting (suc n) i = steps d setting n (step d setting i)

-- the terminal at which the walk from an id ends: in an accepted job each step lowers the id, so N steps come to a terminal from any id
-- up to N + 1
unfoldable pub walk_end : Diagram → List ℕ → ℕ → ℕ
walk_end d setting i = steps d setting (length d.nodes) i

-- "The services": "the diagram's value, 0 or 1": 1 when the walk ends at terminal 1
unfoldable pub walk_value : Diagram → List ℕ → ℕ → ℕ
walk_value d setting i = bit (eqb (walk_end d setting i) 1)

-- "children always have lower ids"
pub record Falls (d : Diagram) : Type 0 where
  pub low_falls : (i : ℕ) → 2 ≤ i → i < id_count d → low_at d i < i
  pub high_falls : (i : ℕ) → 2 ≤ i → i < id_count d → high_at d i < i
