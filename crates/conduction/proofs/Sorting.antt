-- Lists whose entries are exchanged, and the parts of a round: nothing sorted yet, one entry more, the rest of a list after a part of it, and
-- a second part after a first.
use Prim.Native.Nat.{ℕ, ◌+◌, ◌-◌, ◌≤◌, ◌<◌}
use mathlib.Core.Path.{◌≡◌, refl, sym, ap, ◌∙◌}
use mathlib.Core.Logic.{⊎_elim}
use mathlib.Core.Bool.{Bool, true, false, ◌||◌}
use native.Mathlib.Omega.{arith}
use mathlib.Core.List.{List, [], ◌++◌, append-nil}
use lib.ListN.{length, get_or, take, drop, get_or-append, get_or-eq_default, drop_of_length-le, length-drop}
use lib.Seq.{length-take-le, get_or-take}
use borrow.Rule.Slice.PartMut.{put_mid, same_len_mid}
use Rattle.std.proofs.lemmas.List.{get_or-drop, get_or-append-add, drop_at}
use Rattle.std.specs.List.{SwappedAt}
use Rattle.std.proofs.lemmas.Bool.{cases_lt, cases_eq, or_left, or_right}
use Rattle.common.proofs.Lists.{at_or_below}
use Rattle.conduction.specs.declared.Key.{Key}
use Rattle.conduction.specs.Wires.{no_key, part, Exchanged, Sorted}

pub exchanged_none : (first : ℕ) (l : List Key) → Exchanged first l l
exchanged_none first l = record { kept = λ k h. refl; forth = λ k p h. (k, p, h, refl); back = λ k p h. (k, p, h, refl) }

-- one exchange after others, which may begin further on
pub exchanged_then :
    (first second : ℕ) (l l' l'' : List Key) → first ≤ second → length l' ≡ length l
    → Exchanged first l l' → Exchanged second l' l'' → Exchanged first l l''
exchanged_then first second l l' l'' later long a b =
    record {
      kept = λ k h. b.kept k (omega arith) ∙ a.kept k h;
      forth =
          λ k p h.
          let at = a.forth k p h in
          ⊎_elim
          (λ (q : at.0 < second). (at.0, at.1, at.2, b.kept at.0 q ∙ at.3))
          (λ (q : second ≤ at.0).
          let to = b.forth at.0 q (omega (arith, at.2)) in
          (to.0, omega (arith, to.1), omega (arith, to.2), to.3 ∙ at.3))
          (cases_lt at.0 second);
      back =
          λ k p h.
          ⊎_elim
          (λ (q : k < second). let at = a.back k p h in (at.0, at.1, at.2, at.3 ∙ sym (b.kept k q)))
          (λ (q : second ≤ k).
          let to = b.back k q (omega arith) in
          let at = a.back to.0 (omega (arith, to.1)) (omega (arith, to.2)) in
          (at.0, at.1, at.2, at.3 ∙ to.3))
          (cases_lt k second);
    }

-- two entries exchanged
pub exchanged_two :
    (first : ℕ) (l l' : List Key) (i j : ℕ) → i < length l → j < length l → first ≤ i → first ≤ j → SwappedAt l l' i j → Exchanged first l l'
exchanged_two first l l' i j in-i in-j p q swapped =
    record {
      kept = λ k h. swapped.2 k no_key (λ (e : k ≡ i). omega arith) (λ (e : k ≡ j). omega arith);
      forth =
          λ k r h.
          ⊎_elim
          (λ (e : k ≡ i). (j, q, in-j, swapped.1 no_key ∙ ap (λ (x : ℕ). get_or l x no_key) (sym e)))
          (λ (e : k ≡ i → ⊥).
          ⊎_elim
          (λ (f : k ≡ j). (i, p, in-i, swapped.0 no_key ∙ ap (λ (x : ℕ). get_or l x no_key) (sym f)))
          (λ (f : k ≡ j → ⊥). (k, r, h, swapped.2 k no_key e f))
          (cases_eq k j))
          (cases_eq k i);
      back =
          λ k r h.
          ⊎_elim
          (λ (e : k ≡ i). (j, q, in-j, sym (ap (λ (x : ℕ). get_or l' x no_key) e ∙ swapped.0 no_key)))
          (λ (e : k ≡ i → ⊥).
          ⊎_elim
          (λ (f : k ≡ j). (i, p, in-i, sym (ap (λ (x : ℕ). get_or l' x no_key) f ∙ swapped.1 no_key)))
          (λ (f : k ≡ j → ⊥). (k, r, h, sym (swapped.2 k no_key e f)))
          (cases_eq k j))
          (cases_eq k i);
    }

module _ (f : Key → Bool) (first : ℕ) where
  -- nothing moved, where none is named
  pub sorted_none :
      (l : List Key) (past : ℕ) → first ≤ past → ((k : ℕ) → first ≤ k → k < past → f (get_or l k no_key) ≡ false) → Sorted f first l l first past
  sorted_none l past h none =
      record {
        exchanged = exchanged_none first l;
        from = omega arith;
        upto = h;
        named = λ k p q. absurd (omega arith);
        others = none;
        rest = λ k p. refl;
      }

  module _ (l l' : List Key) (lit i : ℕ) (sorted : Sorted f first l l' lit i) where
    -- entries more that are not named
    pub sorted_pass : (past : ℕ) → i ≤ past → ((k : ℕ) → i ≤ k → k < past → f (get_or l' k no_key) ≡ false) → Sorted f first l l' lit past
    sorted_pass past h none =
        record {
          exchanged = sorted.exchanged;
          from = sorted.from;
          upto = omega (arith, sorted.upto);
          named = sorted.named;
          others = λ k p q. ⊎_elim (λ (r : k < i). sorted.others k p r) (λ (r : i ≤ k). none k r q) (cases_lt k i);
          rest = λ k p. sorted.rest k (omega arith);
        }

    -- an entry more that is named takes the place of the first that is not
    pub sorted_name :
        (l'' : List Key) → length l' ≡ length l → i < length l → f (get_or l' i no_key) ≡ true → SwappedAt l' l'' lit i
        → Sorted f first l l'' (lit + 1) (i + 1)
    sorted_name l'' long h e swapped =
        let within : i < length l' = omega arith in
        let lit-in : lit < length l' = omega (arith, sorted.upto) in
        record {
          exchanged =
              exchanged_then first first l l' l'' (omega arith) long sorted.exchanged
              (exchanged_two first l' l'' lit i lit-in within sorted.from (omega (arith, sorted.from, sorted.upto)) swapped);
          from = omega (arith, sorted.from);
          upto = omega (arith, sorted.upto);
          named =
              λ k p q.
              ⊎_elim
              (λ (r : k ≡ lit). rw (r, swapped.0 no_key) e)
              (λ (r : k < lit).
              rw (swapped.2 k no_key (λ (z : k ≡ lit). omega arith) (λ (z : k ≡ i). omega (arith, sorted.upto))) (sorted.named k p r))
              (at_or_below k lit (omega arith));
          others =
              λ k p q.
              ⊎_elim
              (λ (r : k ≡ i). rw (r, swapped.1 no_key) (sorted.others lit (omega arith) (omega arith)))
              (λ (r : k < i).
              rw (swapped.2 k no_key (λ (z : k ≡ lit). omega arith) (λ (z : k ≡ i). omega arith)) (sorted.others k (omega arith) r))
              (at_or_below k i (omega arith));
          rest =
              λ k p.
              swapped.2 k no_key (λ (z : k ≡ lit). omega (arith, sorted.upto)) (λ (z : k ≡ i). omega arith) ∙ sorted.rest k (omega arith);
        }

    -- the same part, gone on with
    pub sorted_on :
        (l'' : List Key) (lit' past : ℕ) → length l' ≡ length l → i ≤ past → Sorted f lit l' l'' lit' past → Sorted f first l l'' lit' past
    sorted_on l'' lit' past long later more =
        record {
          exchanged = exchanged_then first lit l l' l'' sorted.from long sorted.exchanged more.exchanged;
          from = omega (arith, sorted.from, more.from);
          upto = more.upto;
          named =
              λ k p q.
              ⊎_elim
              (λ (r : k < lit). rw (more.exchanged.kept k r) (sorted.named k p r))
              (λ (r : lit ≤ k). more.named k r q)
              (cases_lt k lit);
          others = more.others;
          rest = λ k p. more.rest k p ∙ sorted.rest k (omega arith);
        }

-- a part after a part, over the whole of a list
pub sorted_both :
    (f g : Key → Bool) (first : ℕ) (l l' l'' : List Key) (lit lit' : ℕ) → length l' ≡ length l
    → Sorted f first l l' lit (length l) → Sorted g lit l' l'' lit' (length l) → Sorted (λ w. g w || f w) first l l'' lit' (length l)
sorted_both f g first l l' l'' lit lit' long a b =
    record {
      exchanged = exchanged_then first lit l l' l'' a.from long a.exchanged b.exchanged;
      from = omega (arith, a.from, b.from);
      upto = b.upto;
      named =
          λ k p q.
          ⊎_elim
          (λ (r : k < lit).
          or_right (g (get_or l'' k no_key)) (f (get_or l'' k no_key)) (rw (b.exchanged.kept k r) (a.named k p r)))
          (λ (r : lit ≤ k). or_left (g (get_or l'' k no_key)) (f (get_or l'' k no_key)) (b.named k r q))
          (cases_lt k lit);
      others =
          λ k p q.
          let was = b.exchanged.back k (omega (arith, b.from)) (omega arith) in
          rw (b.others k p q) (rw (← was.3) (a.others was.0 was.1 (omega (arith, was.2))));
      rest = λ k p. b.rest k p ∙ a.rest k p;
    }

-- the same entries, named otherwise
pub sorted_as :
    (f g : Key → Bool) (first : ℕ) (l l' : List Key) (lit past : ℕ) → ((w : Key) → f w ≡ g w)
    → Sorted f first l l' lit past → Sorted g first l l' lit past
sorted_as f g first l l' lit past same s =
    record {
      exchanged = s.exchanged;
      from = s.from;
      upto = s.upto;
      named = λ k p q. sym (same (get_or l' k no_key)) ∙ s.named k p q;
      others = λ k p q. sym (same (get_or l' k no_key)) ∙ s.others k p q;
      rest = s.rest;
    }

-- what holds of each entry holds of each after an exchange
pub exchanged_all :
    (Q : Key → Type 0) (first : ℕ) (l l' : List Key) → Exchanged first l l'
    → ((k : ℕ) → k < length l → Q (get_or l k no_key)) → (k : ℕ) → k < length l → Q (get_or l' k no_key)
exchanged_all Q first l l' e all k h =
    ⊎_elim
    (λ (p : k < first). rw (e.kept k p) (all k h))
    (λ (p : first ≤ k). let was = e.back k p h in rw (← was.3) (all was.0 was.2))
    (cases_lt k first)

-- a part of a list: its length and its entries
pub part_long : {A : Type 0} (l : List A) (from to : ℕ) → to ≤ length l → length (part l from to) ≡ to - from
part_long {A} l from to h = length-take-le {A = A} (to - from) (drop from l) (rw length-drop (omega arith))

pub part_entry : {A : Type 0} (l : List A) (from to k : ℕ) (d : A) → k < to - from → get_or (part l from to) k d ≡ get_or l (from + k) d
part_entry {A} l from to k d h = get_or-take {A = A} (to - from) (drop from l) k d h ∙ get_or-drop from l k d

-- the rest of a list from a place on, and the list after another rest was put there
module _ (l : List Key) (d : ℕ) (within : d ≤ length l) where
  pub rest_long : length (part l d (length l)) ≡ length l - d
  rest_long = part_long l d (length l) (omega arith)

  pub rest_entry : (k : ℕ) → get_or (part l d (length l)) k no_key ≡ get_or l (d + k) no_key
  rest_entry k =
      ⊎_elim
      (λ (h : k < length l - d). part_entry l d (length l) k no_key h)
      (λ (h : length l - d ≤ k).
      get_or-eq_default (part l d (length l)) no_key (omega (arith, rest_long))
      ∙ sym (get_or-eq_default l no_key {n = d + k} (omega arith)))
      (cases_lt k (length l - d))

  module _ (t : List Key) (long : length t ≡ length (part l d (length l))) where
    pub put_long : length (put_mid d (length l - d) l t) ≡ length l
    put_long = same_len_mid d (length l - d) l t long

    put_below : (k : ℕ) → k < d → get_or (put_mid d (length l - d) l t) k no_key ≡ get_or l k no_key
    put_below k h =
        get_or-append (take d l) (t ++ drop (length l - d) (drop d l)) no_key k (rw (length-take-le d l within) h) ∙ get_or-take d l k no_key h

    put_entry : (k : ℕ) → get_or (put_mid d (length l - d) l t) (d + k) no_key ≡ get_or t k no_key
    put_entry k =
        let past : drop (length l - d) (drop d l) ≡ [] = drop_of_length-le (drop d l) {i = length l - d} (rw length-drop (omega arith)) in
        let whole : put_mid d (length l - d) l t ≡ take d l ++ t = rw (past, append-nil t) in
        rw whole (rw (length-take-le d l within) at (get_or-append-add (take d l) t k no_key))

    pub put_part : (n : ℕ) → part (put_mid d (length l - d) l t) d (d + n) ≡ take n t
    put_part n =
        let past : drop (length l - d) (drop d l) ≡ [] = drop_of_length-le (drop d l) {i = length l - d} (rw length-drop (omega arith)) in
        let count : d + n - d ≡ n = omega arith in
        rw (count, past, append-nil t, drop_at (take d l) t d (length-take-le d l within))

    -- what was sorted of the rest
    pub sorted_rest :
        (f : Key → Bool) (n : ℕ) → Sorted f 0 (part l d (length l)) t n (length (part l d (length l)))
        → Sorted f d l (put_mid d (length l - d) l t) (d + n) (length l)
    sorted_rest f n s =
        let after : (k : ℕ) → d ≤ k → get_or (put_mid d (length l - d) l t) k no_key ≡ get_or t (k - d) no_key =
        λ k h. let at : d + (k - d) ≡ k = omega arith in rw at at (put_entry (k - d)) in
        let before : (k : ℕ) → d ≤ k → get_or (part l d (length l)) (k - d) no_key ≡ get_or l k no_key =
        λ k h. let at : d + (k - d) ≡ k = omega arith in rw at at (rest_entry (k - d)) in
        record {
          exchanged =
              record {
                kept = put_below;
                forth =
                    λ k p h.
                    let there = s.exchanged.forth (k - d) (omega arith) (omega (arith, rest_long)) in
                    (d + there.0, omega arith, omega (arith, there.2, rest_long), put_entry there.0 ∙ there.3 ∙ before k p);
                back =
                    λ k p h.
                    let there = s.exchanged.back (k - d) (omega arith) (omega (arith, rest_long)) in
                    (d + there.0, omega arith, omega (arith, there.2, rest_long), sym (rest_entry there.0) ∙ there.3 ∙ sym (after k p));
              };
          from = omega arith;
          upto = omega (arith, s.upto, rest_long);
          named = λ k p q. rw (after k p) (s.named (k - d) (omega arith) (omega arith));
          others = λ k p q. rw (after k (omega arith)) (s.others (k - d) (omega arith) (omega (arith, rest_long)));
          rest = λ k p. after k (omega arith) ∙ s.rest (k - d) (omega (arith, rest_long)) ∙ before k (omega arith);
        }
