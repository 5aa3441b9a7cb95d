-- Rounds by stamps: a wire is new in a round just where it was dark and a conducting cell joins it to a wire that the round before lit. The
-- reason is that a wire lit earlier has had its neighbours lit by then.
use Prim.Native.Nat.{ℕ, suc, ◌+◌, ◌-◌, ◌≤◌, ◌<◌}
use mathlib.Core.Path.{◌≡◌, sym, ap, ◌∙◌}
use mathlib.Core.Logic.{◌⊎◌, inl, inr, ⊎_elim}
use mathlib.Core.Bool.{Bool, true, false, ◌&&◌, ◌||◌}
use mathlib.Core.List.{List}
use native.Mathlib.Nat.{pos_of_ne-zero}
use native.Mathlib.Omega.{arith}
use lib.ListN.{length, get_or, set, length-set, length-replicate, get_or-replicate}
use lib.Seq.{ext_get_or, get_or-set_same, get_or-set_other}
use lib.Dec.{eqb, leb, ltb}
use borrow.Author.Tests.{ltb-true, leb-true, eqb-true, lt-ltb, le-ltb, le-leb, eq-eqb, ne_eqb}
use Rattle.std.proofs.lemmas.Bool.{and_parts, cases_Bool, cases_lt, cases_eq, and_from, or_cases, or_right}
use Rattle.std.proofs.Math.Bool.{and-false, or-false, or_comm}
use Rattle.std.specs.Cmp.{both_ways}
use Rattle.common.specs.Lists.{zeros, padded, tab, some_below}
use Rattle.common.proofs.Lists.{and_left, and_right, length-tab, get_or-tab, some_below_at, some_below_is, length-padded, get_or-padded_any}
use Rattle.conduction.specs.Round.{lit, round, rounds, at_rest, is_new, first_round, first_rounds}
use Rattle.conduction.specs.Chain.{Wire, row, column, place, Within}
use Rattle.conduction.specs.Stamps.{stamps_after}
use Rattle.conduction.specs.Lit.{FirstLitIn}
use Rattle.conduction.proofs.Rounds.{next, round-lit, wire_at, start-lit}
use Rattle.conduction.proofs.First.{
  lit_below,
  lit_stays,
  first-none,
  first_dark,
  first-is,
  first_says,
  StillDark,
  LitSince,
  first_cases,
  first_next,
  new_lit,
  is_new_lem,
  not_new,
  length_firsts,
  firsts_entry,
  firsts_rest,
}

-- whether a conducting cell joins two wires, given by their places: a row and a column, or a column and a row
unfoldable pub meets : ℕ → ℕ → (ℕ → ℕ → Bool) → ℕ → ℕ → Bool
meets m n joined u v =
    ltb u m && leb m v && ltb v (m + n) && joined u (v - m) || ltb v m && leb m u && ltb u (m + n) && joined v (u - m)

-- a stamp after a wire is reached or not: "keeps every lit wire", and a dark wire that is reached gets a new stamp
unfoldable pub stamp : ℕ → Bool → ℕ → ℕ
stamp new reached old = elim (eqb old 0 && reached) [ true ↦ new | false ↦ old ]

-- whether a wire is joined to one that was lit in round t and not before
unfoldable pub reached : ℕ → ℕ → (ℕ → ℕ → Bool) → ℕ → List ℕ → ℕ → Bool
reached m n joined t set v = some_below (m + n) (λ u. meets m n joined u v && eqb (get_or set u 0) (t + 1))

-- a stamp after a wire is reached or not
pub stamp_kept : (new : ℕ) (b : Bool) (old : ℕ) → 0 < old → stamp new b old ≡ old
unfolding stamp
stamp_kept new b old h = rw (stamp, ne_eqb old 0 (λ (e : old ≡ 0). omega arith))

pub stamp_new : (new : ℕ) (b : Bool) (old : ℕ) → old ≡ 0 → b ≡ true → stamp new b old ≡ new
unfolding stamp
stamp_new new b old e f = rw (stamp, e, f)

pub stamp_cases : (new : ℕ) (b : Bool) (old : ℕ) → (stamp new b old ≡ old) ⊎ ((stamp new b old ≡ new) × (old ≡ 0) × (b ≡ true))
unfolding stamp
stamp_cases new b old =
    ⊎_elim
    (λ (h : eqb old 0 && b ≡ true).
    inr (rw (stamp, h), eqb-true old 0 (and_left (eqb old 0) b h), and_right (eqb old 0) b h))
    (λ (h : eqb old 0 && b ≡ false). inl (rw (stamp, h)))
    (cases_Bool (eqb old 0 && b))

pub stamp_out : (new old : ℕ) → stamp new false old ≡ old
unfolding stamp
stamp_out new old = ap (λ (b : Bool). elim b [ true ↦ new | false ↦ old ]) (and-false (eqb old 0))

module _ (m n : ℕ) (joined : ℕ → ℕ → Bool) where
  -- the wires that meet: a row and a column, either way round
  pub meets_across : (r c : ℕ) → r < m → c < n → meets m n joined r (m + c) ≡ joined r c
  unfolding meets
  meets_across r c h k =
      let at : m + c - m ≡ c = omega arith in
      rw (
        meets,
        lt-ltb r m h,
        le-leb m (m + c) (omega arith),
        lt-ltb (m + c) (m + n) (omega arith),
        le-ltb (m + c) m (omega arith),
        at,
      )
      (or-false (joined r c))

  pub meets_back : (r c : ℕ) → r < m → c < n → meets m n joined (m + c) r ≡ joined r c
  unfolding meets
  meets_back r c h k = rw (meets, or_comm) (meets_across r c h k)

  pub record Across (r v : ℕ) : Type 0 where
    pub row_below : r < m
    pub from : m ≤ v
    pub column_below : v < m + n
    pub joins : joined r (v - m) ≡ true

  across : (r v : ℕ) → ltb r m && leb m v && ltb v (m + n) && joined r (v - m) ≡ true → Across r v
  across r v h =
      let all = and_parts (ltb r m && leb m v && ltb v (m + n)) (joined r (v - m)) h in
      let below = and_parts (ltb r m && leb m v) (ltb v (m + n)) all.0 in
      let row = and_parts (ltb r m) (leb m v) below.0 in
      record {
        row_below = ltb-true r m row.0;
        from = leb-true m v row.1;
        column_below = ltb-true v (m + n) below.1;
        joins = all.1;
      }

  pub meets_is : (u v : ℕ) → meets m n joined u v ≡ true → Across u v ⊎ Across v u
  unfolding meets
  meets_is u v h =
      ⊎_elim
      (λ e. inl (across u v e))
      (λ e. inr (across v u e))
      (or_cases
      (ltb u m && leb m v && ltb v (m + n) && joined u (v - m))
      (ltb v m && leb m u && ltb u (m + n) && joined v (u - m))
      h)

  pub meets_below : (u v : ℕ) → meets m n joined u v ≡ true → (u < m + n) × (v < m + n)
  meets_below u v h =
      ⊎_elim
      (λ (a : Across u v). (omega (arith, a.row_below), a.column_below))
      (λ (a : Across v u). (a.column_below, omega (arith, a.row_below)))
      (meets_is u v h)

  -- whether a wire is joined to a lit one, over all places
  unfoldable touched : List ℕ → ℕ → Bool
  touched set v = some_below (m + n) (λ u. meets m n joined u v && lit set u)

  touched_by : (set : List ℕ) (u v : ℕ) → meets m n joined u v ≡ true → lit set u ≡ true → touched set v ≡ true
  unfolding touched
  touched_by set u v e l =
      some_below_at (m + n) (λ w. meets m n joined w v && lit set w) u (meets_below u v e).0
      (and_from (meets m n joined u v) (lit set u) e l)

  touched_is : (set : List ℕ) (v : ℕ) → touched set v ≡ true → (u : ℕ) × (meets m n joined u v ≡ true) × (lit set u ≡ true)
  unfolding touched
  touched_is set v h =
      let found = some_below_is (m + n) (λ w. meets m n joined w v && lit set w) h in
      let u = found.0 in
      (u, and_left (meets m n joined u v) (lit set u) found.2, and_right (meets m n joined u v) (lit set u) found.2)

  -- a round of sets, over all places
  next_touched : (set : List ℕ) (w : Wire) → Within m n w → next m n joined set w ≡ lit set (place m w) || touched set (place m w)
  unfolding next place Within
  next_touched set (row r) h =
      ap (λ (b : Bool). lit set r || b)
      (both_ways (some_below n (λ c. joined r c && lit set (m + c))) (touched set r)
      (λ e.
      let found = some_below_is n (λ c. joined r c && lit set (m + c)) e in
      let c = found.0 in
      touched_by set (m + c) r
      (meets_back r c h found.1 ∙ and_left (joined r c) (lit set (m + c)) found.2)
      (and_right (joined r c) (lit set (m + c)) found.2))
      (λ e.
      let found = touched_is set r e in
      let u = found.0 in
      ⊎_elim
      (λ (a : Across u r). absurd (omega (arith, a.from)))
      (λ (a : Across r u).
      let at : m + (u - m) ≡ u = omega (arith, a.from) in
      some_below_at n (λ c. joined r c && lit set (m + c)) (u - m) (omega (arith, a.from, a.column_below))
      (and_from (joined r (u - m)) (lit set (m + (u - m))) a.joins (rw at found.2)))
      (meets_is u r found.1)))
  next_touched set (column c) h =
      ap (λ (b : Bool). lit set (m + c) || b)
      (both_ways (some_below m (λ r. joined r c && lit set r)) (touched set (m + c))
      (λ e.
      let found = some_below_is m (λ r. joined r c && lit set r) e in
      let r = found.0 in
      touched_by set r (m + c)
      (meets_across r c found.1 h ∙ and_left (joined r c) (lit set r) found.2)
      (and_right (joined r c) (lit set r) found.2))
      (λ e.
      let found = touched_is set (m + c) e in
      let u = found.0 in
      ⊎_elim
      (λ (a : Across u (m + c)).
      let at : m + c - m ≡ c = omega arith in
      let joins : joined u c ≡ true = rw at at a.joins in
      some_below_at m (λ r. joined r c && lit set r) u a.row_below
      (and_from (joined u c) (lit set u) joins found.2))
      (λ (a : Across (m + c) u). absurd (omega (arith, a.row_below)))
      (meets_is u (m + c) found.1)))

  round_touched : (set : List ℕ) (v : ℕ) → v < m + n → lit (round m n joined set) v ≡ lit set v || touched set v
  round_touched set v h =
      let at = wire_at m n v h in
      rw (← at.2) (round-lit m n joined set at.0 at.1 ∙ next_touched set at.0 at.1)

  -- the wires that are reached
  pub reached_by : (t : ℕ) (stamps : List ℕ) (u v : ℕ) → meets m n joined u v ≡ true → get_or stamps u 0 ≡ t + 1 → reached m n joined t stamps v ≡ true
  unfolding reached
  reached_by t stamps u v e s =
      some_below_at (m + n) (λ w. meets m n joined w v && eqb (get_or stamps w 0) (t + 1)) u (meets_below u v e).0
      (and_from (meets m n joined u v) (eqb (get_or stamps u 0) (t + 1)) e (eq-eqb (get_or stamps u 0) (t + 1) s))

  pub reached_is :
      (t : ℕ) (stamps : List ℕ) (v : ℕ) → reached m n joined t stamps v ≡ true
      → (u : ℕ) × (meets m n joined u v ≡ true) × (get_or stamps u 0 ≡ t + 1)
  unfolding reached
  reached_is t stamps v h =
      let found = some_below_is (m + n) (λ w. meets m n joined w v && eqb (get_or stamps w 0) (t + 1)) h in
      let u = found.0 in (
        u,
        and_left (meets m n joined u v) (eqb (get_or stamps u 0) (t + 1)) found.2,
        eqb-true (get_or stamps u 0) (t + 1) (and_right (meets m n joined u v) (eqb (get_or stamps u 0) (t + 1)) found.2),
      )

  -- the stamps after t rounds, in k places: their number and their entries
  pub length_stamps : (k t : ℕ) → m + n ≤ k → length (stamps_after k m n joined t) ≡ k
  unfolding stamps_after
  length_stamps k t room = length-padded k (first_rounds m n joined t) (rw (length_firsts m n joined t) room)

  pub stamps_entry : (k t v : ℕ) → get_or (stamps_after k m n joined t) v 0 ≡ first_round m n joined t v
  unfolding stamps_after
  stamps_entry k t v = get_or-padded_any k (first_rounds m n joined t) v ∙ firsts_entry m n joined t v

  -- round t + 1, where the stamps are the first rounds up to round t
  module _ (t : ℕ) (stamps : List ℕ) (so_far : (v : ℕ) → get_or stamps v 0 ≡ first_round m n joined t v) where
    -- a dark wire is reached just where it is new: one that touches a wire lit before round t is lit by then
    reached_new : (v : ℕ) → lit (rounds m n joined t) v ≡ false → reached m n joined t stamps v ≡ is_new m n joined t v
    unfolding rounds
    reached_new v dark =
        both_ways (reached m n joined t stamps v) (is_new m n joined t v)
        (λ e.
        let found = reached_is t stamps v e in
        let u = found.0 in
        let number : first_round m n joined t u ≡ 1 + t = omega (arith, found.2, so_far u) in
        let touching = touched_by (rounds m n joined t) u v found.1 (first_says m n joined t u t number).1.lit_then in
        is_new_lem m n joined t v
        (round_touched (rounds m n joined t) v (meets_below u v found.1).1
        ∙ or_right (lit (rounds m n joined t) v) (touched (rounds m n joined t) v) touching)
        dark)
        (λ e.
        let below = lit_below m n joined (suc t) v (new_lit m n joined t v e) in
        ⊎_elim
        (λ (l : lit (rounds m n joined t) v ≡ true). absurd cc)
        (λ (l : touched (rounds m n joined t) v ≡ true).
        let found = touched_is (rounds m n joined t) v l in
        let u = found.0 in
        ⊎_elim
        (λ (c : StillDark m n joined t u).
        absurd (cc (found.2, c.1)))
        (λ (c : LitSince m n joined t u).
        let s = c.0 in
        ⊎_elim
        (λ (earlier : s < t).
        let by-then : lit (rounds m n joined (suc s)) v ≡ true =
        round_touched (rounds m n joined s) v below
        ∙ or_right (lit (rounds m n joined s) v) (touched (rounds m n joined s) v)
        (touched_by (rounds m n joined s) u v found.1 c.3.lit_then) in
        absurd (cc (lit_stays m n joined (suc s) t v (omega arith) by-then)))
        (λ (last : t ≤ s). reached_by t stamps u v found.1 (omega (arith, so_far u, c.1, c.2)))
        (cases_lt s t))
        (first_cases m n joined t u))
        (or_cases (lit (rounds m n joined t) v) (touched (rounds m n joined t) v)
        (sym (round_touched (rounds m n joined t) v below) ∙ new_lit m n joined t v e)))

    -- which wires are new, by the stamps
    pub stamp_is_new :
        (v : ℕ)
        → stamp (t + 2) (reached m n joined t stamps v) (get_or stamps v 0)
        ≡ elim (is_new m n joined t v) [ true ↦ t + 2 | false ↦ get_or stamps v 0 ]
    stamp_is_new v =
        ⊎_elim
        (λ (some : 0 < get_or stamps v 0).
        let was-lit : lit (rounds m n joined t) v ≡ true =
        ⊎_elim
        (λ (l : lit (rounds m n joined t) v ≡ true). l)
        (λ (l : lit (rounds m n joined t) v ≡ false). absurd (omega (arith, so_far v, first-none m n joined t v l)))
        (cases_Bool (lit (rounds m n joined t) v)) in
        stamp_kept (t + 2) (reached m n joined t stamps v) (get_or stamps v 0) some ∙ sym (rw (not_new m n joined t v was-lit)))
        (λ (none : get_or stamps v 0 ≤ 0).
        let zero-stamp : get_or stamps v 0 ≡ 0 = omega arith in
        let is = reached_new v (first_dark m n joined t v (sym (so_far v) ∙ zero-stamp)) in
        ⊎_elim
        (λ (new : is_new m n joined t v ≡ true).
        stamp_new (t + 2) (reached m n joined t stamps v) (get_or stamps v 0) zero-stamp (is ∙ new) ∙ sym (rw new))
        (λ (old : is_new m n joined t v ≡ false). rw (is, old) (stamp_out (t + 2) (get_or stamps v 0)))
        (cases_Bool (is_new m n joined t v)))
        (cases_lt 0 (get_or stamps v 0))

  -- the stamps after a round that gave each new wire its own
  pub stamps_next :
      (k t : ℕ) → m + n ≤ k
      → tab (length (stamps_after k m n joined t)) (λ v. elim (is_new m n joined t v) [ true ↦ t + 2 | false ↦ get_or (stamps_after k m n joined t) v 0 ])
      ≡ stamps_after k m n joined (suc t)
  stamps_next k t room =
      let f : ℕ → ℕ = λ v. elim (is_new m n joined t v) [ true ↦ t + 2 | false ↦ get_or (stamps_after k m n joined t) v 0 ] in
      let long = length-tab (length (stamps_after k m n joined t)) f in
      ext_get_or 0 (tab (length (stamps_after k m n joined t)) f) (stamps_after k m n joined (suc t))
      (long ∙ length_stamps k t room ∙ sym (length_stamps k (suc t) room))
      (λ v h.
      let below : v < length (stamps_after k m n joined t) = omega (arith, long) in
      get_or-tab (length (stamps_after k m n joined t)) f v 0 below
      ∙ ap (λ (old : ℕ). elim (is_new m n joined t v) [ true ↦ t + 2 | false ↦ old ]) (stamps_entry k t v)
      ∙ sym (stamps_entry k (suc t) v ∙ first_next m n joined t v))

  pub stamps_rest : (k t : ℕ) → at_rest m n joined t ≡ true → stamps_after k m n joined (suc t) ≡ stamps_after k m n joined t
  unfolding stamps_after
  stamps_rest k t h = ap (padded k) (firsts_rest m n joined t h)

  -- the stamps before round 1: row 0 has 1, and every other place 0
  module _ (row_0 : 0 < m) where
    pub start_first : FirstLitIn m n joined 0 0
    unfolding rounds
    start_first = record { lit_then = start-lit m n 0 (omega arith); dark_before = λ s h. absurd (omega arith) }

    pub start_one : first_round m n joined 0 0 ≡ 1
    start_one = first-is m n joined 0 0 0 (omega arith) start_first

    pub start_none : (v : ℕ) → 0 < v → first_round m n joined 0 v ≡ 0
    unfolding rounds
    start_none v h =
        first-none m n joined 0 v
        (⊎_elim
        (λ (l : lit (rounds m n joined 0) v ≡ true).
        let below = lit_below m n joined 0 v l in
        absurd (omega (arith, eqb-true v 0 (sym (start-lit m n v below) ∙ l))))
        (λ l. l)
        (cases_Bool (lit (rounds m n joined 0) v)))

    -- as they are written: zeros, and 1 for row 0
    pub start-written : (k : ℕ) → m + n ≤ k → set (zeros k) 0 1 ≡ stamps_after k m n joined 0
    start-written k room =
        let long = length-set (zeros k) 0 1 ∙ length-replicate {A = ℕ} k 0 in
        ext_get_or 0 (set (zeros k) 0 1) (stamps_after k m n joined 0) (long ∙ sym (length_stamps k 0 room))
        (λ v p.
        let below : v < k = omega arith in
        let within : 0 < length (zeros k) = rw (length-replicate {A = ℕ} k 0) (omega arith) in
        ⊎_elim
        (λ (z : v ≡ 0). rw z (get_or-set_same (zeros k) 0 1 0 within ∙ sym (stamps_entry k 0 0 ∙ start_one)))
        (λ (z : v ≡ 0 → ⊥).
        get_or-set_other (zeros k) 0 v 1 0 z
        ∙ get_or-replicate {A = ℕ} k v 0 0 below
        ∙ sym (stamps_entry k 0 v ∙ start_none v (pos_of_ne-zero z)))
        (cases_eq v 0))
