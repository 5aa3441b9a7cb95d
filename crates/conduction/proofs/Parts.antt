-- The parts of a round one after the other: what one wire more joins, one wire more with a new stamp, and the wires in rising order.
use Prim.Native.Nat.{ℕ, suc, ◌+◌, ◌-◌, ◌≤◌, ◌<◌}
use mathlib.Core.Path.{◌≡◌, refl, sym, ap, ◌∙◌}
use mathlib.Core.Logic.{⊎_elim}
use mathlib.Core.Bool.{Bool, true, ◌||◌, false, ◌&&◌}
use mathlib.Core.List.{List, [], ◌∷◌}
use native.Mathlib.Omega.{arith}
use lib.ListN.{length, get_or, set, take, drop}
use lib.Seq.{get_or-set_same, get_or-set_other}
use lib.Dec.{eqb, leb}
use borrow.Author.Tests.{eqb-true, eq-eqb, ne_eqb, leb-true, le-leb}
use Rattle.std.specs.List.{list_all}
use Rattle.std.proofs.lemmas.List.{get_or-drop, take_more}
use Rattle.std.proofs.lemmas.List.Folds.{list_all_at}
use Rattle.std.proofs.lemmas.List.Recursion.{or_push}
use Rattle.std.proofs.Math.Bool.{or_comm}
use Rattle.std.proofs.lemmas.Bool.{cases_eq, or_cases, cases_Bool}
use Rattle.common.specs.Lists.{any_of, some_below}
use Rattle.common.proofs.Lists.{any_of_at, some_below_is, and_left}
use Rattle.conduction.specs.declared.Key.{Key}
use Rattle.conduction.specs.declared.Lamp.{Lamp}
use Rattle.conduction.specs.Wires.{no_key, part, passes, joined_to, Sorted, among, NewlyStamped}
use Rattle.conduction.proofs.Sorting.{sorted_none, sorted_both, sorted_as, part_long, part_entry}
use native.Mathlib.Numerals.{add-one}

-- whether f holds of one of the first i entries, and of one more
pub any_more :
    {A : Type 0} (f : A → Bool) (l : List A) (i : ℕ) (d : A) → i < length l → any_of f (take (i + 1) l) ≡ f (get_or l i d) || any_of f (take i l)
unfolding any_of
any_more f l i d h =
    ap (any_of f) (take_more l i d h)
    ∙ or_push (any_of f) f refl (λ _ _. refl) (take i l) (get_or l i d)
    ∙ or_comm (any_of f (take i l)) (f (get_or l i d))

-- f holds of an entry of a part of a list just where it holds of some entry of the part
any_is : {A : Type 0} (f : A → Bool) (l : List A) (d : A) → any_of f l ≡ true → (k : ℕ) × (k < length l) × (f (get_or l k d) ≡ true)
unfolding any_of
any_is f [] d e = absurd cc
any_is f (a ∷ l) d e =
    ⊎_elim
    (λ (p : f a ≡ true). (0, omega arith, p))
    (λ (p : any_of f l ≡ true). let found = any_is f l d p in (suc found.0, omega (arith, found.1), found.2))
    (or_cases (f a) (any_of f l) e)

pub any_part :
    {A : Type 0} (f : A → Bool) (l : List A) (d : A) (from to k : ℕ) → from ≤ k → k < to → to ≤ length l → f (get_or l k d) ≡ true
    → any_of f (part l from to) ≡ true
any_part f l d from to k p q h e =
    let at : from + (k - from) ≡ k = omega arith in
    any_of_at f (part l from to) (k - from) d (omega (arith, part_long l from to h)) (rw (part_entry l from to (k - from) d (omega arith), at) e)

pub any_part_is :
    {A : Type 0} (f : A → Bool) (l : List A) (d : A) (from to : ℕ) → to ≤ length l → any_of f (part l from to) ≡ true
    → (k : ℕ) × (from ≤ k) × (k < to) × (f (get_or l k d) ≡ true)
any_part_is f l d from to h e =
    let found = any_is f (part l from to) d e in
    let below : found.0 < to - from = omega (arith, found.1, part_long l from to h) in
    (from + found.0, omega arith, omega arith, rw (part_entry l from to found.0 d below) at found.2)

-- before the first wire of the front nothing is joined
pub spread_none : (lamp : Lamp) (l : List Key) → Sorted (joined_to lamp []) 0 l l 0 (length l)
unfolding joined_to any_of
spread_none lamp l = sorted_none (joined_to lamp []) 0 l (length l) (omega arith) (λ k p q. refl)

-- the lamp of a wire
of_wire_passes :
    (lamp at-wire : Lamp) (a b : ℕ) → at-wire.cells.now ≡ drop a lamp.cells.now → at-wire.on.now ≡ lamp.on.now → passes at-wire b ≡ passes lamp (a + b)
unfolding passes
of_wire_passes lamp at-wire a b e f = rw (e, f, get_or-drop a lamp.cells.now b 0)

-- where the cells of keys are off, none of their wires is joined
pub off_keys :
    (lamp : Lamp) (keys : List Key) → list_all (λ k. eqb (get_or lamp.cells.now k.adds 0) 0) keys ≡ true
    → (k : ℕ) → k < length keys → passes lamp (get_or keys k no_key).adds ≡ false
unfolding passes
off_keys lamp keys all k h =
    let off = λ (w : Key). eqb (get_or lamp.cells.now w.adds 0) 0 in
    let code = get_or lamp.cells.now (get_or keys k no_key).adds 0 in
    ⊎_elim
    (λ (t : off (get_or keys k no_key) ≡ true). let zero : code ≡ 0 = eqb-true code 0 t in rw zero lamp.off)
    (λ (f : off (get_or keys k no_key) ≡ false). let e = list_all_at off keys k no_key h f in absurd cc)
    (cases_Bool (off (get_or keys k no_key)))

-- one wire of the front more
module _ (lamp : Lamp) (front : List Key) where
  pub spread_more :
      (i : ℕ) (l l' l'' : List Key) (lit lit' : ℕ) (at-wire : Lamp) → i < length front
      → at-wire.cells.now ≡ drop (get_or front i no_key).adds lamp.cells.now
      → at-wire.on.now ≡ lamp.on.now
      → length l' ≡ length l
      → Sorted (joined_to lamp (take i front)) 0 l l' lit (length l)
      → Sorted (λ k. passes at-wire k.adds) lit l' l'' lit' (length l')
      → Sorted (joined_to lamp (take (i + 1) front)) 0 l l'' lit' (length l)
  unfolding joined_to
  spread_more i l l' l'' lit lit' at-wire h e f long a b =
      let adds = (get_or front i no_key).adds in
      sorted_as
      (λ k. passes at-wire k.adds || joined_to lamp (take i front) k)
      (joined_to lamp (take (i + 1) front))
      0 l l'' lit' (length l)
      (λ w.
      rw (of_wire_passes lamp at-wire adds w.adds e f) (sym (any_more (λ k. passes lamp (k.adds + w.adds)) front i no_key h)))
      (sorted_both (joined_to lamp (take i front)) (λ k. passes at-wire k.adds) 0 l l' l'' lit lit' long a (rw long at b))

-- one wire more with a new stamp
pub marked_none : (new : ℕ) (stamps : List ℕ) → NewlyStamped [] new stamps stamps
unfolding among any_of
marked_none new stamps = record { stamps = λ v. refl }

module _ (keys : List Key) (new : ℕ) where
  pub marked_more :
      (i place : ℕ) (before after : List ℕ) → i < length keys → place ≡ (get_or keys i no_key).place → place < length after
      → NewlyStamped (take i keys) new before after → NewlyStamped (take (i + 1) keys) new before (set after place new)
  unfolding among
  marked_more i place before after h e within m =
      record {
        stamps =
            λ v.
            rw (any_more (λ k. eqb k.place v) keys i no_key h)
            (⊎_elim
            (λ (p : v ≡ place).
            rw (p, eq-eqb (get_or keys i no_key).place place (sym e)) (get_or-set_same after place new 0 within))
            (λ (p : v ≡ place → ⊥).
            rw (ne_eqb (get_or keys i no_key).place v (λ (q : (get_or keys i no_key).place ≡ v). p (sym q ∙ sym e)))
            (get_or-set_other after place v new 0 p ∙ m.stamps v))
            (cases_eq v place));
      }

-- of the numbers from head on, none is below head
pub none_from : (head : ℕ) (f : ℕ → Bool) → some_below head (λ k. leb head k && f k) ≡ false
none_from head f =
    ⊎_elim
    (λ (h : some_below head (λ k. leb head k && f k) ≡ true).
    let at = some_below_is head (λ k. leb head k && f k) h in
    absurd (omega (arith, at.1, leb-true head at.0 (and_left (leb head at.0) (f at.0) at.2))))
    (λ h. h)
    (cases_Bool (some_below head (λ k. leb head k && f k)))

-- and one more
pub some_from : (head i : ℕ) (f : ℕ → Bool) → head ≤ i → some_below (i + 1) (λ k. leb head k && f k) ≡ f i || some_below i (λ k. leb head k && f k)
unfolding some_below
some_from head i f h = rw (add-one, le-leb head i h)
