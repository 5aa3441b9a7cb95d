-- The labels of the ids: each id but terminal 0 is labelled `h`, `v` or `b`, and of a node and its child at least the wires that their edge
-- needs exist.
use Prim.Native.Nat.{ℕ, zero, suc, ◌≤◌, ◌<◌}
use mathlib.Core.Path.{◌≡◌, refl}
use mathlib.Core.Logic.{inl, inr}
use mathlib.Core.Bool.{true, false, ◌&&◌, ◌||◌}
use native.Mathlib.Omega.{arith}
use lib.Dec.{eqb}
use Rattle.diagram.specs.Diagram.{Diagram, id_count, entry, entries, terminal, label_at}
use Rattle.diagram.specs.Faults.{alike}
use Rattle.diagram.specs.Wires.{has_row, has_column}
use Rattle.diagram.specs.Facts.{Facts}

-- the labels of the terminals
pub label_zero : (d : Diagram) → label_at d 0 ≡ 0
unfolding entry entries terminal
label_zero d = refl

pub label_one : (d : Diagram) → label_at d 1 ≡ d.one
unfolding entry entries terminal
label_one d = refl

-- a label: `h`, `v` or `b`
pub data Label : ℕ → Type 0 where
  is_h : Label 1
  is_v : Label 2
  is_b : Label 3

pub label : (t : ℕ) → 1 ≤ t → t ≤ 3 → Label t
label zero least most = absurd (omega arith)
label (suc zero) least most = is_h
label (suc (suc zero)) least most = is_v
label (suc (suc (suc zero))) least most = is_b
label (suc (suc (suc (suc t)))) least most = absurd (omega arith)

-- of two labels that are not both `h` nor both `v`: where the first has no row or the second no column, the second has a row and the
-- first a column
unlike :
    {t u : ℕ}
    → Label t
    → Label u
    → alike t u ≡ false
    → (eqb t 1 || eqb t 3) && (eqb u 2 || eqb u 3) ≡ false
    → (eqb u 1 || eqb u 3 ≡ true) × (eqb t 2 || eqb t 3 ≡ true)
unfolding alike
unlike is_h is_h e f = absurd cc
unlike is_h is_v e f = absurd cc
unlike is_h is_b e f = absurd cc
unlike is_v is_h e f = (refl, refl)
unlike is_v is_v e f = absurd cc
unlike is_v is_b e f = (refl, refl)
unlike is_b is_h e f = (refl, refl)
unlike is_b is_v e f = absurd cc
unlike is_b is_b e f = absurd cc

pub id_label : (d : Diagram) → Facts d → (i : ℕ) → 0 < i → i < id_count d → Label (label_at d i)
unfolding entry entries terminal
id_label d facts zero some within = absurd (omega arith)
id_label d facts (suc zero) some within =
    elim facts.one_label [ inl e ↦ rw e is_h | inr e ↦ rw e is_b ]
id_label d facts (suc (suc i)) some within =
    let f = facts.node (suc (suc i)) (omega arith) within in
    label (label_at d (suc (suc i))) f.label_least f.label_most

-- where the edge from a node to its child k does not stand at the node's row, it stands at the child's
pub child_row :
    (d : Diagram) → Facts d → (i k : ℕ)
    → 0 < i
    → i < id_count d
    → 0 < k
    → k < id_count d
    → alike (label_at d i) (label_at d k) ≡ false
    → has_row d i && has_column d k ≡ false
    → (has_row d k ≡ true) × (has_column d i ≡ true)
unfolding has_row has_column
child_row d facts i k some within some_child child-within e f =
    unlike (id_label d facts i some within) (id_label d facts k some_child child-within) e f

-- so what holds of the three labels holds of each
pub by_label : (P : ℕ → Type 0) → P 1 → P 2 → P 3 → (t : ℕ) → 1 ≤ t → t ≤ 3 → P t
by_label P row column both t least most = by (label t least most)
  where
    by : {u : ℕ} → Label u → P u
    by is_h = row
    by is_v = column
    by is_b = both

-- each id but terminal 0 has a label, as numbers
pub labelled : (d : Diagram) → Facts d → (i : ℕ) → 1 ≤ i → i < id_count d → (1 ≤ label_at d i) × (label_at d i ≤ 3)
labelled d facts i least most = by (id_label d facts i least most)
  where
    by : {t : ℕ} → Label t → (1 ≤ t) × (t ≤ 3)
    by is_h = (omega arith, omega arith)
    by is_v = (omega arith, omega arith)
    by is_b = (omega arith, omega arith)
