-- Laws of the stores: one store, or none, and that no store changes the buffer's length.
use Prim.Native.Nat.{ℕ, ◌*◌, ◌≤◌, ◌<◌}
use mathlib.Core.Path.{◌≡◌, refl, ◌∙◌}
use mathlib.Core.Logic.{◌⊎◌, inl, inr}
use mathlib.Core.Bool.{Bool, true, false, cond, ◌&&◌}
use mathlib.Core.List.{List}
use native.Mathlib.Omega.{arith}
use native.Mathlib.Nat.{mul-le-mul}
use lib.ListN.{length, set, length-set}
use Rattle.common.specs.Labels.{label_h, label_v}
use Rattle.cells.specs.declared.Cell.{Cell}
use Rattle.cells.specs.declared.Cell.TheVariants.{Yes, No}
use Rattle.diagram.specs.declared.Node.{Node}
use Rattle.diagram.specs.Diagram.{Diagram, entry, switch_at, low_at, high_at}
use Rattle.diagram.specs.Wires.{label_has, has_row, has_column}
use Rattle.placement.specs.Filling.{store_if, cell_place, edge_place, with_on, with_edge, with_cells}

pub store_on : (test : Bool) (place code : ℕ) (s : List ℕ) → test ≡ true → set s place code ≡ store_if test place code s
unfolding store_if
store_on test place code s h = rw h

pub store_off : (test : Bool) (place code : ℕ) (s : List ℕ) → test ≡ false → s ≡ store_if test place code s
unfolding store_if
store_off test place code s h = rw h

length_store : (test : Bool) (place code : ℕ) (s : List ℕ) → length (store_if test place code s) ≡ length s
unfolding store_if
length_store true place code s = length-set s place code
length_store false place code s = refl

module _ (d : Diagram) where
  pub length_on : (i : ℕ) (s : List ℕ) → length (with_on d i s) ≡ length s
  unfolding with_on
  length_on i s = length_store _ _ _ s

  pub length-edge : (i k : ℕ) (cell : Cell) (s : List ℕ) → length (with_edge d i k cell s) ≡ length s
  unfolding with_edge
  length-edge i k cell s = length_store _ _ _ s

  pub length-cells : (i : ℕ) (s : List ℕ) → length (with_cells d i s) ≡ length s
  unfolding with_cells
  length-cells i s =
      length-edge i (high_at d i) (Yes (switch_at d i)) (with_edge d i (low_at d i) (No (switch_at d i)) (with_on d i s))
      ∙ length-edge i (low_at d i) (No (switch_at d i)) (with_on d i s)
      ∙ length_on i s

  -- the place of an edge's cell, from the entries of the parent and the child
  pub edge_by :
      (i k : ℕ) (p b : Node) (row column test : Bool)
      → p ≡ entry d i
      → b ≡ entry d k
      → row ≡ label_has label_h p.t
      → column ≡ label_has label_v b.t
      → row && column ≡ test
      → cond test (cell_place d i k) (cell_place d k i) ≡ edge_place d i k
  unfolding edge_place has_row has_column
  edge_by i k p b row column test is-p is_b is_row is-column e = rw (← e, is_row, is-column, is-p, is_b)

-- a test of two parts fails where the first fails, or else the second
pub and_fails : (a b : Bool) → ((a ≡ true) × (b ≡ false)) ⊎ (a ≡ false) → a && b ≡ false
and_fails a b (inl h) = rw (h.0, h.1)
and_fails a b (inr h) = rw h

-- the product of two numbers of 16 bits
pub product : (a b : ℕ) → a < 65536 → b < 65536 → a * b ≤ 4294836225
product a b h k =
    let p : a ≤ 65535 = omega arith in
    let q : b ≤ 65535 = omega arith in
    mul-le-mul p q
