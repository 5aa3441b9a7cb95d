-- How many ids have a wire: one id more counts one wire more or none.
use Prim.Native.Nat.{ℕ, zero, suc, ◌+◌, ◌≤◌, ◌<◌}
use mathlib.Core.Path.{◌≡◌, refl, ap, ◌∙◌}
use mathlib.Core.Logic.{⊎_elim}
use mathlib.Core.Bool.{Bool, true, false, cond}
use native.Mathlib.Omega.{arith}
use native.Mathlib.Numerals.{add-one}
use Rattle.std.proofs.lemmas.List.{get_or_default, get_or-replicate, take_all}
use Rattle.std.proofs.lemmas.List.Edits.{fill_by_more}
use Rattle.std.proofs.lemmas.List.Sums.{sum_by_more, count_by-le-length}
use Rattle.std.proofs.lemmas.Bool.{cases_Bool}
use mir.Val.{bool_byte}
use mathlib.Core.List.{List, []}
use lib.ListN.{length, get_or, set, take, replicate, length-append, length-set, length-replicate}
use Rattle.common.specs.Lists.{bit}
use Rattle.common.proofs.Lists.{bit_most}
use Rattle.common.specs.Limits.{max_ids, max_nodes}
use Rattle.common.specs.Labels.{label_h, label_v}
use Rattle.diagram.specs.declared.IdWires.{IdWires}
use Rattle.diagram.specs.declared.Dimensions.{Dimensions}
use Rattle.diagram.specs.declared.Node.{Node}
use Rattle.diagram.specs.Diagram.{Diagram, terminal, id_count, entry, entries, label_at, no_node}
use Rattle.diagram.specs.declared.Diagram.{Diagram as Holder}
use Rattle.diagram.specs.Wires.{owners, label_has, has_wire, has_row, has_column, row_owners, column_owners, row_of, column_of, row_count, column_count, any_zero, names_zero}
use Rattle.diagram.specs.Held.{held, WireNumbers, no_wires, wires_of, wires_past, wires_among, dimensions_of}
use Rattle.diagram.proofs.Walk.{by_id}

-- a truth value as a number
pub byte_bit : (b : Bool) → bool_byte b ≡ bit b
unfolding bit
byte_bit true = refl
byte_bit false = refl

pub byte_most : (b : Bool) → bool_byte b ≤ 1
byte_most true = omega arith
byte_most false = omega arith

pub owners_more : (has : ℕ → Bool) (i : ℕ) → length (owners has (suc i)) ≡ length (owners has i) + bit (has i)
unfolding owners bit
owners_more has i =
    ⊎_elim
    (λ (e : has i ≡ true). rw (e, owners) (simp length-append (omega arith)))
    (λ (e : has i ≡ false). rw (e, owners) (omega arith))
    (cases_Bool (has i))

pub owners_most : (has : ℕ → Bool) (i : ℕ) → length (owners has i) ≤ i
unfolding owners
owners_most has zero = omega arith
owners_most has (suc i) = omega (arith, owners_more has i, owners_most has i, bit_most (has i))

-- the labels by id: terminal 0 has none, and so no wire
pub entry_node : (d : Diagram) (k : ℕ) → k < length d.nodes → entry d (k + 2) ≡ get_or d.nodes k no_node
unfolding entry entries
entry_node d k within =
    let id : k + 2 ≡ suc (suc k) = omega arith in rw id (get_or_default d.nodes k (terminal d.switches 0 0) no_node within)

-- one id more: its wires count for the numbers of the next
pub wires_more : (d : Diagram) (i : ℕ) → wires_past (wires_of d i) (label_at d i) ≡ wires_of d (suc i)
unfolding wires_past wires_of row_of column_of has_row has_column
wires_more d i = rw (owners_more (has_wire label_h d) i, owners_more (has_wire label_v d) i)

pub wires_none : (d : Diagram) → no_wires ≡ wires_of d 0
unfolding no_wires wires_of row_of column_of owners
wires_none d = refl

-- those of both terminals are 0
pub wires_one : (d : Diagram) → no_wires ≡ wires_of d 1
unfolding no_wires wires_past entry entries terminal bit
wires_one d = ap (λ w. wires_past w 0) (wires_none d) ∙ wires_more d 0

pub wires_first : (d : Diagram) → wires_past no_wires d.one ≡ wires_of d 2
unfolding entry entries terminal
wires_first d = ap (λ w. wires_past w d.one) (wires_one d) ∙ wires_more d 1

pub wires_node :
    (d : Diagram) (k : ℕ) (w : IdWires)
    → k < length d.nodes
    → w ≡ wires_of d (k + 2)
    → wires_past w (get_or d.nodes k no_node).t ≡ wires_of d (k + 3)
wires_node d k w within e =
    let next : suc (k + 2) ≡ k + 3 = omega arith in
    rw (e, ← (entry_node d k within), ← next) (wires_more d (k + 2))

no_wires_are : (w : IdWires) → (w.row ≡ 0) × (w.column ≡ 0) → w ≡ no_wires
unfolding no_wires
no_wires_are w is =
    let e : w ≡ record { row = w.row; column = w.column } = refl in e ∙ rw (is.0, is.1)

-- before node k: the next number is that node's, and each id below it has its number in the array
pub record Numbered (d : Diagram) (k : ℕ) (next : IdWires) (w : List IdWires) : Type 0 where
  pub long : length w ≡ max_ids
  pub at : next ≡ wires_of d (k + 2)
  pub below : (i : ℕ) → i < k + 2 → get_or w i no_wires ≡ wires_of d i

-- before the first node, from numbers that are 0
pub numbered_none :
    (d : Diagram) (first : IdWires) (w : List IdWires)
    → (first.row ≡ 0) × (first.column ≡ 0)
    → w ≡ replicate max_ids first
    → Numbered d 0 (wires_past first d.one) w
unfolding max_ids max_nodes
numbered_none d first w is e =
    let firsts : first ≡ no_wires = no_wires_are first is in
    record {
      long = rw e (length-replicate max_ids first);
      at = rw firsts (wires_first d);
      below = λ i h.
          rw (e, get_or-replicate max_ids i first no_wires (omega arith), firsts)
          (by_id (λ i. i < 2 → no_wires ≡ wires_of d i) i (λ h. wires_none d) (λ h. wires_one d) (λ node h. absurd (omega arith)) (omega arith));
    }

pub numbered_more :
    (d : Diagram) (k : ℕ) (next : IdWires) (w : List IdWires)
    → Numbered d k next w
    → k < length d.nodes
    → length d.nodes ≤ max_nodes
    → Numbered d (k + 1) (wires_past next (get_or d.nodes k no_node).t) (set w (k + 2) next)
unfolding max_ids max_nodes
numbered_more d k next w n within few =
    let on : k + 1 + 2 ≡ k + 3 = omega arith in
    let more : k + 1 + 2 ≡ k + 2 + 1 = omega arith in
    record {
      long = length-set w (k + 2) next ∙ n.long;
      at = rw on (wires_node d k next within n.at);
      below = rw (more, n.at) (fill_by_more (wires_of d) w (k + 2) no_wires (omega (arith, n.long)) n.below);
    }

pub numbered_all :
    (d : Diagram) (k : ℕ) (next : IdWires) (w : List IdWires) → Numbered d k next w → length d.nodes ≤ k → WireNumbers d w
unfolding id_count
numbered_all d k next w n all = record { number = λ i h. n.below i (omega arith) }

-- the numbers of an id's wires are at most the id
pub row_most : (d : Diagram) (i : ℕ) → (wires_of d i).row ≤ i
unfolding wires_of row_of
row_most d i = owners_most (has_row d) i

pub column_most : (d : Diagram) (i : ℕ) → (wires_of d i).column ≤ i
unfolding wires_of column_of
column_most d i = owners_most (has_column d) i

-- the wires of one kind, counted over the nodes and terminal 1
cond_bit : (b : Bool) → cond b 1 0 ≡ bit b
unfolding bit
cond_bit true = refl
cond_bit false = refl

-- one node more
among_more :
    (kind : ℕ) (nodes : List Node) (k : ℕ)
    → k < length nodes
    → wires_among kind (take (suc k) nodes) ≡ wires_among kind (take k nodes) + bit (label_has kind (get_or nodes k no_node).t)
unfolding wires_among
among_more kind nodes k within =
    rw (← (cond_bit (label_has kind (get_or nodes k no_node).t)), ← (add-one k))
    (sum_by_more (λ (n : Node). cond (label_has kind n.t) 1 0) nodes k no_node within)

pub among_most : (kind : ℕ) (nodes : List Node) → wires_among kind nodes ≤ length nodes
unfolding wires_among
among_most kind nodes = count_by-le-length (λ (n : Node). label_has kind n.t) nodes

module _ (d : Diagram) (kind : ℕ) (none : label_has kind 0 ≡ false) where
  terminals_counted : length (owners (has_wire kind d) 2) ≡ wires_among kind [] + bit (label_has kind d.one)
  unfolding wires_among owners entry entries terminal bit
  terminals_counted = omega (arith, owners_more (has_wire kind d) 1, owners_more (has_wire kind d) 0, ap bit none)

  -- the ids below 2 and the first k nodes
  counted_upto :
      (k : ℕ)
      → k ≤ length d.nodes
      → length (owners (has_wire kind d) (k + 2)) ≡ wires_among kind (take k d.nodes) + bit (label_has kind d.one)
  counted_upto zero within = terminals_counted
  counted_upto (suc k) within =
      let here : suc k + 2 ≡ suc (k + 2) = omega arith in
      let at = ap (λ (n : Node). label_has kind n.t) (entry_node d k (omega arith)) in
      rw here
      (omega (arith, owners_more (has_wire kind d) (k + 2), ap bit at, counted_upto k (omega arith), among_more kind d.nodes k (omega arith)))

  pub wires_counted : length (owners (has_wire kind d) (id_count d)) ≡ wires_among kind d.nodes + bit (label_has kind d.one)
  unfolding id_count
  wires_counted =
      let ids : length d.nodes + 2 ≡ 2 + length d.nodes = omega arith in
      rw (ids, take_all (length d.nodes) d.nodes (omega arith)) at (counted_upto (length d.nodes) (omega arith))

-- R and C, from these counts
pub dimensions_counted :
    (d : Holder) (outs : List ℕ)
    → ◌≡◌ {A = Dimensions}
    (record {
      rows = wires_among label_h d.nodes.now + bit (label_has label_h d.one) + bool_byte (any_zero outs);
      columns = wires_among label_v d.nodes.now + bit (label_has label_v d.one);
    })
    (dimensions_of (held d outs))
unfolding dimensions_of row_count row_owners has_row column_count column_owners has_column names_zero held
dimensions_counted d outs =
    rw (wires_counted (held d outs) label_h refl, wires_counted (held d outs) label_v refl, byte_bit (any_zero outs))
