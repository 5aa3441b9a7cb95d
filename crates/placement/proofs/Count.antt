-- Document 01, "Placement": "So R rows plus C columns equal N + 1, plus the number of `b` labels (terminal 1's included), plus 1 if an
-- output names 0." Proved of the rows and columns as defined.
use Prim.Native.Nat.{ℕ, zero, suc, ◌+◌, ◌≤◌, ◌<◌}
use mathlib.Core.Path.{◌≡◌, refl}
use mathlib.Core.Bool.{◌||◌}
use native.Mathlib.Omega.{arith}
use lib.ListN.{length}
use lib.Dec.{eqb}
use Rattle.common.specs.Lists.{bit}
use Rattle.diagram.specs.Diagram.{Diagram, id_count, entry, entries, terminal}
use Rattle.diagram.specs.Wires.{has_row, has_column, owners, row_owners, column_owners, row_count, column_count, names_zero}
use Rattle.diagram.specs.Facts.{Facts}
use Rattle.diagram.proofs.Owners.{owners_more}
use Rattle.placement.specs.Sentences.{has_both, both_count}
use Rattle.placement.proofs.Labels.{Label, is_h, is_v, is_b, id_label}

-- each label has a row or a column, `b` both
label_wires : {t : ℕ} → Label t → bit (eqb t 1 || eqb t 3) + bit (eqb t 2 || eqb t 3) ≡ 1 + bit (eqb t 3)
unfolding bit
label_wires is_h = refl
label_wires is_v = refl
label_wires is_b = refl

-- "Terminal 0 has no wire"
no_wires : (d : Diagram) → length (owners (has_row d) 1) + length (owners (has_column d) 1) ≡ 0 + length (owners (has_both d) 1)
unfolding owners has_row has_column has_both entry entries terminal
no_wires d = refl

pub id_count_lem : (d : Diagram) → id_count d ≡ 2 + length d.nodes
unfolding id_count
id_count_lem d = refl

module _ (d : Diagram) (facts : Facts d) where
  -- an id's row and column, counted
  wires_of : (i : ℕ) → 1 ≤ i → i < id_count d → bit (has_row d i) + bit (has_column d i) ≡ 1 + bit (has_both d i)
  unfolding has_row has_column has_both
  wires_of i least most = label_wires (id_label d facts i least most)

  -- the wires of the ids below n
  wires_below :
      (n : ℕ)
      → 1 ≤ n
      → n ≤ id_count d
      → length (owners (has_row d) n) + length (owners (has_column d) n) + 1 ≡ n + length (owners (has_both d) n)
  wires_below zero least most = absurd (omega arith)
  wires_below (suc zero) least most = omega (arith, no_wires d)
  wires_below (suc (suc n)) least most =
      rw (owners_more (has_row d) (suc n), owners_more (has_column d) (suc n), owners_more (has_both d) (suc n))
      (omega (arith, wires_of (suc n) (omega arith) most, wires_below (suc n) (omega arith) (omega arith)))

  pub wires_count : row_count d + column_count d ≡ length d.nodes + 1 + both_count d + bit (names_zero d)
  unfolding row_count column_count row_owners column_owners both_count
  wires_count =
      let ids = id_count_lem d in
      let total : length (row_owners d) + column_count d + 1 ≡ id_count d + both_count d = wires_below (id_count d) (omega arith) (omega arith) in
      omega arith
