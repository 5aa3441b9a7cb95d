-- Ids of a diagram whose walks end alike under every setting are equal. Where two ids ask different switches first, fixing the
-- earlier switch changes the child that one of them takes and not the other's walk, so both children would walk like the other id;
-- where they ask the same switch first, the low children walk alike and the high children do.
use Prim.Native.Nat.{ℕ, zero, suc, ◌+◌, ◌≤◌, ◌<◌}
use mathlib.Core.Path.{◌≡◌, refl, sym, ap, ◌∙◌}
use mathlib.Core.Logic.{⊎_elim}
use mathlib.Core.Bool.{Bool, true, false}
use mathlib.Core.List.{List}
use native.Mathlib.Omega.{arith}
use lib.ListN.{length, get_or, set, length-set, length-replicate}
use lib.Seq.{get_or-set_same, get_or-set_other}
use lib.Dec.{eqb, leb}
use borrow.Author.Tests.{eq-eqb, le-leb}
use Rattle.std.proofs.lemmas.Bool.{cases_lt, and_from}
use Rattle.common.specs.Lists.{bit, zeros, all_of}
use Rattle.common.proofs.Lists.{eqb_bit, and_left, and_right, all_of_set, all_of_zeros, bit_most}
use Rattle.cells.specs.Setting.{is_setting}
use Rattle.diagram.specs.Diagram.{Diagram, id_count, switch_at, low_at, high_at}
use Rattle.diagram.specs.Walk.{step, walk_end}
use Rattle.diagram.specs.Facts.{Facts}
use Rattle.diagram.proofs.Walk.{by_id, switch_terminal, walk-terminal}
use Rattle.diagram.proofs.Walk.{facts_fall, step_falls, step_cases, step_same, walk_zero, walk_one, walk_step, walk_low, walk_high}
use Rattle.cells.proofs.Sizes.{setting_length}

-- a setting with one switch fixed is a setting
pub setting_set : (v : ℕ) (s : List ℕ) (x b : ℕ) → b ≤ 1 → is_setting v s ≡ true → is_setting v (set s x b) ≡ true
unfolding is_setting
setting_set v s x b least h =
    rw (length-set s x b)
    (and_from
    (eqb (length s) v)
    (all_of (λ c. leb c 1) (set s x b))
    (and_left (eqb (length s) v) (all_of (λ c. leb c 1) s) h)
    (all_of_set
    (λ c. leb c 1)
    s
    x
    b
    (le-leb b 1 least)
    (and_right (eqb (length s) v) (all_of (λ c. leb c 1) s) h)))

-- all switches at 0: there is a setting
pub setting_zeros : (v : ℕ) → is_setting v (zeros v) ≡ true
unfolding is_setting
setting_zeros v =
    and_from
    (eqb (length (zeros v)) v)
    (all_of (λ b. leb b 1) (zeros v))
    (eq-eqb (length (zeros v)) v (length-replicate v 0))
    (all_of_zeros (λ b. leb b 1) v refl)

-- the child that a switch at 1, and one at 0, selects
unfoldable pub child : Diagram → Bool → ℕ → ℕ
child d true i = high_at d i
child d false i = low_at d i

-- two ids walk alike
abbrev pub SameWalk : Diagram → ℕ → ℕ → Type 0
SameWalk d i k = (s : List ℕ) → is_setting d.switches s ≡ true → walk_end d s i ≡ walk_end d s k

module _ (d : Diagram) (facts : Facts d) where
  -- settings that agree at every switch from x on lead an id whose switch is at least x to the same terminal
  pub walk_agree :
      (s t : List ℕ) (x : ℕ)
      → ((y : ℕ) → x ≤ y → y < d.switches → get_or s y 0 ≡ get_or t y 0)
      → (i : ℕ)
      → i < id_count d
      → x ≤ switch_at d i
      → walk_end d s i ≡ walk_end d t i
  walk_agree s t x agree i within later = below (suc i) i (omega arith) within later
    where
      below :
          (n i : ℕ) → i < n → i < id_count d → x ≤ switch_at d i → walk_end d s i ≡ walk_end d t i
      below zero i h within later = absurd (omega arith)
      below (suc n) i h within later =
          by_id
          (λ k. walk_end d s k ≡ walk_end d t k)
          i
          (walk_zero d s ∙ sym (walk_zero d t))
          (walk_one d s ∙ sym (walk_one d t))
          (λ (node : 2 ≤ i).
          let f = facts.node i node within in
          let falls = step_falls d s (facts_fall d facts) i node within in
          let on = step_cases (λ k. x ≤ switch_at d k) d s i (omega (arith, f.low_later)) (omega (arith, f.high_later)) in
          sym (walk_step d s facts i within)
          ∙ below n (step d s i) (omega arith) (omega arith) on
          ∙ ap (walk_end d t) (step_same d s t i (agree (switch_at d i) later f.tests))
          ∙ walk_step d t facts i within)

  -- fixing a switch before an id's own changes nothing for it
  later_fixed :
      (s : List ℕ) (x b k : ℕ) → k < id_count d → x < switch_at d k → walk_end d (set s x b) k ≡ walk_end d s k
  later_fixed s x b k within later =
      walk_agree
      (set s x b)
      s
      (suc x)
      (λ y h below. get_or-set_other s x y b 0 (λ e. omega arith))
      k
      within
      later

  child_below : (b : Bool) (i : ℕ) → 2 ≤ i → i < id_count d → child d b i < i
  unfolding child
  child_below true i node within = (facts.node i node within).high_below
  child_below false i node within = (facts.node i node within).low_below

  child_later : (b : Bool) (i : ℕ) → 2 ≤ i → i < id_count d → switch_at d i < switch_at d (child d b i)
  unfolding child
  child_later true i node within = (facts.node i node within).high_later
  child_later false i node within = (facts.node i node within).low_later

  walk_child :
      (s : List ℕ) (b : Bool) (i : ℕ)
      → i < id_count d
      → eqb (get_or s (switch_at d i) 0) 1 ≡ b
      → walk_end d s i ≡ walk_end d s (child d b i)
  unfolding child
  walk_child s true i within e = walk_high d s facts i within e
  walk_child s false i within e = walk_low d s facts i within e

  -- a node whose own switch is fixed walks like the child that it selects
  child_fixed :
      (s : List ℕ) (b : Bool) (i : ℕ)
      → 2 ≤ i
      → i < id_count d
      → is_setting d.switches s ≡ true
      → walk_end d (set s (switch_at d i) (bit b)) i ≡ walk_end d s (child d b i)
  child_fixed s b i node within setting =
      let x = switch_at d i in
      let inside : x < length s = omega (arith, (facts.node i node within).tests, setting_length d.switches s setting) in
      let fixed : eqb (get_or (set s x (bit b)) x 0) 1 ≡ b = rw (get_or-set_same s x (bit b) 0 inside) (eqb_bit b) in
      let falls = child_below b i node within in
      walk_child (set s x (bit b)) b i within fixed
      ∙ later_fixed s x (bit b) (child d b i) (omega arith) (child_later b i node within)

  -- ids that walk alike are equal where their sum is below n
  abbrev CanonicalBelow : ℕ → Type 0
  CanonicalBelow n = (i k : ℕ) → i + k < n → i < id_count d → k < id_count d → SameWalk d i k → i ≡ k

  -- a node and an id that walks like it
  module _ (n i k : ℕ) (ind : CanonicalBelow n) (near : i + k ≤ n) (node : 2 ≤ i) (within : i < id_count d) (within' : k < id_count d) (alike : SameWalk d i k) where
    -- with the node's switch fixed
    alike_fixed :
        (s : List ℕ) (b : Bool)
        → is_setting d.switches s ≡ true
        → walk_end d s (child d b i) ≡ walk_end d (set s (switch_at d i) (bit b)) k
    alike_fixed s b setting =
        sym (child_fixed s b i node within setting)
        ∙ alike
        (set s (switch_at d i) (bit b))
        (setting_set d.switches s (switch_at d i) (bit b) (bit_most b) setting)

    -- where the other's switch is later, both children of the node would be that id
    is_child : switch_at d i < switch_at d k → (b : Bool) → child d b i ≡ k
    is_child later b =
        let falls = child_below b i node within in
        ind
        (child d b i)
        k
        (omega arith)
        (omega arith)
        within'
        (λ s setting. alike_fixed s b setting ∙ later_fixed s (switch_at d i) (bit b) k within' later)

    apart : switch_at d i < switch_at d k → ⊥
    unfolding child
    apart later = (facts.node i node within).children_differ (is_child later false ∙ sym (is_child later true))

    -- where the other is a node with the same switch, the two have the same children
    same_child : 2 ≤ k → switch_at d i ≡ switch_at d k → (b : Bool) → child d b i ≡ child d b k
    same_child node' e b =
        let falls = child_below b i node within in
        let falls' = child_below b k node' within' in
        ind
        (child d b i)
        (child d b k)
        (omega arith)
        (omega arith)
        (omega arith)
        (λ s setting. alike_fixed s b setting ∙ rw e (child_fixed s b k node' within' setting))

    together : 2 ≤ k → switch_at d i ≡ switch_at d k → i ≡ k
    unfolding child
    together node' e =
        facts.distinct i k node within node' within' e (same_child node' e false) (same_child node' e true)

  back : (i k : ℕ) → SameWalk d i k → SameWalk d k i
  back i k alike s setting = sym (alike s setting)

  -- two terminals
  terminals : (i k : ℕ) → i < 2 → k < 2 → SameWalk d i k → i ≡ k
  terminals i k end end' alike =
      let s = zeros d.switches in
      sym (walk-terminal d s i end) ∙ alike s (setting_zeros d.switches) ∙ walk-terminal d s k end'

  -- a node and a terminal
  node_terminal : (n i k : ℕ) → CanonicalBelow n → i + k ≤ n → 2 ≤ i → i < id_count d → k < 2 → SameWalk d i k → ⊥
  node_terminal n i k ind near node within end alike =
      apart
      n
      i
      k
      ind
      near
      node
      within
      (omega arith)
      alike
      (omega (arith, (facts.node i node within).tests, switch_terminal d k end))

  -- two nodes
  nodes :
      (n i k : ℕ)
      → CanonicalBelow n
      → i + k ≤ n
      → 2 ≤ i
      → i < id_count d
      → 2 ≤ k
      → k < id_count d
      → SameWalk d i k
      → i ≡ k
  nodes n i k ind near node within node' within' alike =
      ⊎_elim
      (λ (later : switch_at d i < switch_at d k). absurd (apart n i k ind near node within within' alike later))
      (λ (least : switch_at d k ≤ switch_at d i).
      ⊎_elim
      (λ (later : switch_at d k < switch_at d i).
      absurd (apart n k i ind (omega arith) node' within' within (back i k alike) later))
      (λ (most : switch_at d i ≤ switch_at d k).
      together n i k ind near node within within' alike node' (omega arith))
      (cases_lt (switch_at d k) (switch_at d i)))
      (cases_lt (switch_at d i) (switch_at d k))

  canonical_below : (n : ℕ) → CanonicalBelow n
  canonical_below zero i k h within within' alike = absurd (omega arith)
  canonical_below (suc n) i k h within within' alike =
      let ind = canonical_below n in
      ⊎_elim
      (λ (end : i < 2).
      ⊎_elim
      (λ (end' : k < 2). terminals i k end end' alike)
      (λ (node' : 2 ≤ k). absurd (node_terminal n k i ind (omega arith) node' within' end (back i k alike)))
      (cases_lt k 2))
      (λ (node : 2 ≤ i).
      ⊎_elim
      (λ (end' : k < 2). absurd (node_terminal n i k ind (omega arith) node within end' alike))
      (λ (node' : 2 ≤ k). nodes n i k ind (omega arith) node within node' within' alike)
      (cases_lt k 2))
      (cases_lt i 2)

  -- a diagram has one id for each walk
  pub canonical :
      (i k : ℕ)
      → i < id_count d
      → k < id_count d
      → ((s : List ℕ) → is_setting d.switches s ≡ true → walk_end d s i ≡ walk_end d s k)
      → i ≡ k
  canonical i k = canonical_below (suc (i + k)) i k (omega arith)
