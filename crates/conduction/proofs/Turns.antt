-- A round from one side to the other: the dark wires that were sorted to the front are those that the round adds, and with their new stamps
-- both sides are ready for the round back.
use Prim.Native.Nat.{ℕ, ◌+◌, ◌-◌, ◌*◌, ◌≤◌, ◌<◌}
use mathlib.Core.Path.{◌≡◌, refl, sym, ap, ◌∙◌}
use mathlib.Core.Logic.{◌⊎◌, inl, inr, ⊎_elim}
use mathlib.Core.Bool.{Bool, true, false}
use mathlib.Core.List.{List}
use native.Mathlib.Omega.{arith}
use lib.ListN.{length, get_or}
use lib.Dec.{eqb}
use borrow.Author.Tests.{eqb-true, eq-eqb}
use Rattle.std.proofs.lemmas.Bool.{cases_Bool, cases_lt}
use Rattle.std.specs.Cmp.{both_ways}
use Rattle.conduction.specs.declared.Key.{Key}
use Rattle.conduction.specs.declared.Lamp.{Lamp}
use Rattle.conduction.specs.Wires.{no_key, part, wire_of, passes, joined_to, Sorted, among, NewlyStamped, Sided, Fronted, TurnReady}
use Rattle.conduction.proofs.Stamps.{meets, stamp, reached, stamp_kept, stamp_new, stamp_out, stamp_cases, reached_by, reached_is}
use Rattle.conduction.proofs.Sorting.{exchanged_all}
use Rattle.conduction.proofs.Parts.{any_part, any_part_is}

-- whether a number is one of those of a side
number_in : (first size v : ℕ) → ((y : ℕ) × (y < size) × (v ≡ first + y)) ⊎ ((y : ℕ) → y < size → v ≡ first + y → ⊥)
number_in first size v =
    ⊎_elim
    (λ (p : v < first). inr (λ y h e. omega arith))
    (λ (p : first ≤ v).
    ⊎_elim
    (λ (q : v < first + size). inl (v - first, omega arith, omega arith))
    (λ (q : first + size ≤ v). inr (λ y h e. omega arith))
    (cases_lt v (first + size)))
    (cases_lt v first)

-- which wires meet: one of the side that the round comes from and one of the other side, in the cell at the sum of what they add
pub record Sides (m n : ℕ) (joined : ℕ → ℕ → Bool) (lamp : Lamp) (first step size first' step' size' : ℕ) : Type 0 where
  pub across :
      (x y : ℕ) → x < size → y < size' → meets m n joined (first + x) (first' + y) ≡ passes lamp (x * step + y * step')
  pub ends :
      (u v : ℕ) → meets m n joined u v ≡ true
      → (((x : ℕ) × (x < size) × (u ≡ first + x)) × ((y : ℕ) × (y < size') × (v ≡ first' + y))) ⊎ ((y : ℕ) × (y < size') × (u ≡ first' + y))
  pub apart : (x y : ℕ) → x < size → y < size' → first + x ≡ first' + y → ⊥

module _
    (m n : ℕ)
    (joined : ℕ → ℕ → Bool)
    (lamp : Lamp)
    (first step first' step' : ℕ)
    (from to to' : List Key)
    (stamps stamps' : List ℕ)
    (t head tail dark end : ℕ)
    (sides : Sides m n joined lamp first step (length from) first' step' (length to))
    (ready : TurnReady first step first' step' from to stamps (t + 1) head tail dark)
    (most : (v : ℕ) → get_or stamps v 0 ≤ t + 1)
    (long : length to' ≡ length to)
    (sorted : Sorted (joined_to lamp (part from head tail)) dark to to' end (length to))
    (marked : NewlyStamped (part to' dark end) (t + 2) stamps stamps')
  where
    -- a wire is reached just where it is joined to a wire of the front
    reached_joined : (y : ℕ) → y < length to → reached m n joined t stamps (first' + y) ≡ joined_to lamp (part from head tail) (wire_of first' step' y)
    unfolding joined_to
    reached_joined y h =
        both_ways (reached m n joined t stamps (first' + y)) (joined_to lamp (part from head tail) (wire_of first' step' y))
        (λ e.
        let found = reached_is m n joined t stamps (first' + y) e in
        ⊎_elim
        (λ (p : ((x : ℕ) × (x < length from) × (found.0 ≡ first + x)) × ((z : ℕ) × (z < length to) × (first' + y ≡ first' + z))).
        let x = p.0.0 in
        let at : found.0 ≡ first + x = p.0.2 in
        let stood = ready.front.all x p.0.1 (rw (← at) found.2) in
        let adds = ap (λ (k : Key). k.adds) stood.3 in
        let passed : passes lamp (x * step + y * step') ≡ true = sym (sides.across x y p.0.1 h) ∙ rw (← at) found.1 in
        any_part (λ k. passes lamp (k.adds + y * step')) from no_key head tail stood.0 stood.1 stood.2 ready.front.within (rw adds passed))
        (λ (p : (z : ℕ) × (z < length to) × (found.0 ≡ first' + z)).
        absurd (ready.apart p.0 p.1 (rw (← p.2) found.2)))
        (sides.ends found.0 (first' + y) found.1))
        (λ e.
        let found = any_part_is (λ k. passes lamp (k.adds + y * step')) from no_key head tail ready.front.within e in
        let k = found.0 in
        let wire = ready.lit.each k (omega (arith, found.2, ready.front.within)) in
        let x = wire.0 in
        let place = ap (λ (k : Key). k.place) wire.2 in
        let passed : passes lamp (x * step + y * step') ≡ true = rw (ap (λ (k : Key). k.adds) wire.2) at found.3 in
        reached_by m n joined t stamps (first + x) (first' + y) (sides.across x y wire.1 h ∙ passed)
        (rw place at (ready.front.stamped k found.1 found.2)))

    -- no wire of the side that the round comes from is reached, nor any place past the wires
    reached_no : (v : ℕ) → ((y : ℕ) → y < length to → v ≡ first' + y → ⊥) → reached m n joined t stamps v ≡ false
    reached_no v none =
        ⊎_elim
        (λ (e : reached m n joined t stamps v ≡ true).
        let found = reached_is m n joined t stamps v e in
        ⊎_elim
        (λ (p : ((x : ℕ) × (x < length from) × (found.0 ≡ first + x)) × ((z : ℕ) × (z < length to) × (v ≡ first' + z))).
        absurd (none p.1.0 p.1.1 p.1.2))
        (λ (p : (z : ℕ) × (z < length to) × (found.0 ≡ first' + z)). absurd (ready.apart p.0 p.1 (rw (← p.2) found.2)))
        (sides.ends found.0 v found.1))
        (λ e. e)
        (cases_Bool (reached m n joined t stamps v))

    -- an entry of the list from `dark` on: it is a dark wire
    entry_dark :
        (k : ℕ) → dark ≤ k → k < length to
        → (y : ℕ) × (y < length to) × (get_or to' k no_key ≡ wire_of first' step' y) × ((get_or to' k no_key).place ≡ first' + y) × (get_or stamps (first' + y) 0 ≡ 0)
    entry_dark k p q =
        let was = sorted.exchanged.back k p q in
        let wire = ready.others.each was.0 was.2 in
        let y = wire.0 in
        let is : get_or to' k no_key ≡ wire_of first' step' y = sym was.3 ∙ wire.2 in
        let dark-there = ready.others.darks was.0 was.1 was.2 in
        (y, wire.1, is, ap (λ (k : Key). k.place) is, rw wire.2 at dark-there)

    -- a dark wire stands in the list from `dark` on
    dark_entry : (y : ℕ) → y < length to → get_or stamps (first' + y) 0 ≡ 0 → (k : ℕ) × (dark ≤ k) × (k < length to) × (get_or to' k no_key ≡ wire_of first' step' y)
    dark_entry y h z =
        let was = ready.others.all y h z in
        let now = sorted.exchanged.forth was.0 was.1 was.2 in
        (now.0, now.1, now.2, now.3 ∙ was.3)

    -- the wires that get the new stamp are those of the list from `dark` up to `end`
    among_is : (v : ℕ) → among (part to' dark end) v ≡ true → (k : ℕ) × (dark ≤ k) × (k < end) × ((get_or to' k no_key).place ≡ v)
    unfolding among
    among_is v e =
        let found = any_part_is (λ k. eqb k.place v) to' no_key dark end (omega (arith, sorted.upto)) e in
        (found.0, found.1, found.2, eqb-true (get_or to' found.0 no_key).place v found.3)

    is_among : (k : ℕ) → dark ≤ k → k < end → among (part to' dark end) (get_or to' k no_key).place ≡ true
    unfolding among
    is_among k p q =
        let v = (get_or to' k no_key).place in
        any_part (λ k. eqb k.place v) to' no_key dark end k p q (omega (arith, sorted.upto)) (eq-eqb v v refl)

    new_stamp : (v : ℕ) → among (part to' dark end) v ≡ true → get_or stamps' v 0 ≡ t + 2
    new_stamp v e = marked.stamps v ∙ rw e

    old_stamp : (v : ℕ) → among (part to' dark end) v ≡ false → get_or stamps' v 0 ≡ get_or stamps v 0
    old_stamp v e = marked.stamps v ∙ rw e

    -- the stamps after the round
    pub turned_entry : (v : ℕ) → get_or stamps' v 0 ≡ stamp (t + 2) (reached m n joined t stamps v) (get_or stamps v 0)
    turned_entry v =
        ⊎_elim
        (λ (e : among (part to' dark end) v ≡ true).
        let at = among_is v e in
        let wire = entry_dark at.0 at.1 (omega (arith, at.2, sorted.upto)) in
        let is : v ≡ first' + wire.0 = sym at.3 ∙ wire.3 in
        let joined_to = rw wire.2 at (sorted.named at.0 at.1 at.2) in
        new_stamp v e
        ∙ sym
        (stamp_new (t + 2) (reached m n joined t stamps v) (get_or stamps v 0) (rw is wire.4)
        (rw is (reached_joined wire.0 wire.1 ∙ joined_to))))
        (λ (e : among (part to' dark end) v ≡ false).
        old_stamp v e
        ∙ sym
        (⊎_elim
        (λ (lit : 0 < get_or stamps v 0). stamp_kept (t + 2) (reached m n joined t stamps v) (get_or stamps v 0) lit)
        (λ (none : get_or stamps v 0 ≤ 0).
        let unreached : reached m n joined t stamps v ≡ false =
        ⊎_elim
        (λ (p : (y : ℕ) × (y < length to) × (v ≡ first' + y)).
        let y = p.0 in
        let zero-stamp : get_or stamps (first' + y) 0 ≡ 0 = rw (← p.2) (omega arith) in
        let at = dark_entry y p.1 zero-stamp in
        ⊎_elim
        (λ (q : at.0 < end).
        let place = ap (λ (k : Key). k.place) at.3 ∙ sym p.2 in
        absurd (cc (rw place at (is_among at.0 at.1 q))))
        (λ (q : end ≤ at.0). rw p.2 (reached_joined y p.1 ∙ rw at.3 at (sorted.others at.0 q at.2)))
        (cases_lt at.0 end))
        (λ p. reached_no v p)
        (number_in first' (length to) v) in
        rw unreached (stamp_out (t + 2) (get_or stamps v 0)))
        (cases_lt 0 (get_or stamps v 0))))
        (cases_Bool (among (part to' dark end) v))

    -- a wire gets the new stamp just where it was dark and is reached
    new_is : (v : ℕ) → get_or stamps' v 0 ≡ t + 2 → (get_or stamps v 0 ≡ 0) × (reached m n joined t stamps v ≡ true)
    new_is v e =
        ⊎_elim
        (λ (s : stamp (t + 2) (reached m n joined t stamps v) (get_or stamps v 0) ≡ get_or stamps v 0).
        absurd (omega (arith, turned_entry v, s, most v)))
        (λ s. (s.1, s.2))
        (stamp_cases (t + 2) (reached m n joined t stamps v) (get_or stamps v 0))

    -- a wire that is dark after the round was dark before it and is not reached
    dark_is : (v : ℕ) → get_or stamps' v 0 ≡ 0 → (get_or stamps v 0 ≡ 0) × (reached m n joined t stamps v ≡ false)
    dark_is v e =
        let old : get_or stamps v 0 ≡ 0 =
        ⊎_elim
        (λ (s : stamp (t + 2) (reached m n joined t stamps v) (get_or stamps v 0) ≡ get_or stamps v 0). sym s ∙ sym (turned_entry v) ∙ e)
        (λ s. s.1)
        (stamp_cases (t + 2) (reached m n joined t stamps v) (get_or stamps v 0)) in (
          old,
          ⊎_elim
              (λ (r : reached m n joined t stamps v ≡ true).
              absurd (omega (arith, e, turned_entry v, stamp_new (t + 2) (reached m n joined t stamps v) (get_or stamps v 0) old r)))
              (λ r. r)
              (cases_Bool (reached m n joined t stamps v)),
        )

    -- the stamps of the side that the round comes from stay
    from_same : (x : ℕ) → x < length from → get_or stamps' (first + x) 0 ≡ get_or stamps (first + x) 0
    from_same x h =
        turned_entry (first + x)
        ∙ rw (reached_no (first + x) (λ y p e. sides.apart x y h p e)) (stamp_out (t + 2) (get_or stamps (first + x) 0))

    pub turned_most : (v : ℕ) → get_or stamps' v 0 ≤ t + 1 + 1
    turned_most v =
        ⊎_elim
        (λ (s : stamp (t + 2) (reached m n joined t stamps v) (get_or stamps v 0) ≡ get_or stamps v 0). omega (arith, turned_entry v, most v))
        (λ s. omega (arith, turned_entry v, s.0))
        (stamp_cases (t + 2) (reached m n joined t stamps v) (get_or stamps v 0))

    -- ready for the round back
    turned_front : Fronted first' step' to' stamps' (t + 2) dark end
    turned_front =
        record {
          order = sorted.from;
          within = omega (arith, sorted.upto);
          stamped = λ k p q. new_stamp (get_or to' k no_key).place (is_among k p q);
          all =
              λ y h e.
              let below : y < length to = omega arith in
              let new = new_is (first' + y) e in
              let at = dark_entry y below new.0 in
              ⊎_elim
              (λ (q : at.0 < end). (at.0, at.1, q, at.3))
              (λ (q : end ≤ at.0).
              absurd
              (cc (sym (reached_joined y below) ∙ new.1, rw at.3 at (sorted.others at.0 q at.2))))
              (cases_lt at.0 end);
        }

    turned_lit : Sided first' step' to' stamps' end
    turned_lit =
        record {
          within = omega (arith, sorted.upto);
          each =
              λ k h.
              let there =
              exchanged_all (λ w. (x : ℕ) × (x < length to) × (w ≡ wire_of first' step' x)) dark to to' sorted.exchanged ready.others.each k (omega arith) in
              (there.0, omega (arith, there.1), there.2);
          darks =
              λ k p q.
              let wire = entry_dark k (omega (arith, sorted.from)) (omega arith) in
              let unreached = reached_joined wire.0 wire.1 ∙ rw wire.2 at (sorted.others k p (omega arith)) in
              rw wire.3 (turned_entry (first' + wire.0) ∙ rw (unreached, wire.4) (stamp_out (t + 2) 0));
          all =
              λ y h e.
              let below : y < length to = omega arith in
              let old = dark_is (first' + y) e in
              let at = dark_entry y below old.0 in
              ⊎_elim
              (λ (q : at.0 < end).
              absurd
              (cc (rw at.3 at (sorted.named at.0 at.1 q), sym (reached_joined y below) ∙ old.1)))
              (λ (q : end ≤ at.0). (at.0, q, omega (arith, at.2), at.3))
              (cases_lt at.0 end);
        }

    turned_others : Sided first step from stamps' tail
    turned_others =
        record {
          within = ready.lit.within;
          each = ready.lit.each;
          darks =
              λ k p q.
              let wire = ready.lit.each k q in
              let place = ap (λ (k : Key). k.place) wire.2 in
              rw place (from_same wire.0 wire.1 ∙ rw place at (ready.lit.darks k p q));
          all = λ x h e. ready.lit.all x h (sym (from_same x h) ∙ e);
        }

    pub turned_ready : TurnReady first' step' first step to' from stamps' (t + 2) dark end tail
    turned_ready =
        record {
          front = turned_front;
          lit = turned_lit;
          others = turned_others;
          apart = λ x h e. omega (arith, from_same x h, most (first + x));
        }

    -- a round that sorts nothing to the front changes no stamp, and one that does changes one
    pub turned_none : end ≡ dark → (v : ℕ) → get_or stamps' v 0 ≡ get_or stamps v 0
    turned_none e v =
        ⊎_elim
        (λ (a : among (part to' dark end) v ≡ true). let at = among_is v a in absurd (omega (arith, at.1, at.2)))
        (λ (a : among (part to' dark end) v ≡ false). old_stamp v a)
        (cases_Bool (among (part to' dark end) v))

    pub turned_some : dark < end → (v : ℕ) × (get_or stamps v 0 ≡ 0) × (get_or stamps' v 0 ≡ t + 2)
    turned_some h =
        let wire = entry_dark dark (omega arith) (omega (arith, sorted.upto)) in
        (first' + wire.0, wire.4, new_stamp (first' + wire.0) (rw wire.3 at (is_among dark (omega arith) h)))
