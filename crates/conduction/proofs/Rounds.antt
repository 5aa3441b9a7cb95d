-- The sets of lit wires: their length, their entries, what a round adds, that a lit wire stays lit, that a set at rest stays, and that they
-- hang on the cells of the crossbar alone.
use Prim.Native.Nat.{ℕ, zero, suc, ◌+◌, ◌-◌, ◌≤◌, ◌<◌}
use mathlib.Core.Path.{◌≡◌, refl, sym, ap, ◌∙◌}
use mathlib.Core.Logic.{◌⊎◌, inl, inr, ⊎_elim}
use mathlib.Core.Bool.{Bool, true, ◌&&◌, ◌||◌}
use mathlib.Core.List.{List, ◌++◌}
use native.Mathlib.Omega.{arith}
use native.Mathlib.Nat.{add-suc, add-zero}
use lib.ListN.{length, get_or, length-append, get_or-append, get_or-eq_default}
use lib.Seq.{get_or-append-add}
use lib.Dec.{eqb}
use borrow.Author.Tests.{eqb-true, eq-eqb}
use Rattle.std.proofs.lemmas.Bool.{cases_lt, or_left}
use Rattle.common.specs.Lists.{bit, tab, some_below}
use Rattle.common.proofs.Lists.{eqb_bit, length-tab, get_or-tab, same_eq, eq_same, bit_most, tab_agree}
use Rattle.conduction.specs.Round.{lit, start, round, rounds, at_rest}
use Rattle.conduction.specs.Chain.{Wire, row, column, place, Within}

-- two tables one after the other: an entry of the first, and of the second
get_or_first : (m n : ℕ) (f g : ℕ → ℕ) (i : ℕ) → i < m → get_or (tab m f ++ tab n g) i 0 ≡ f i
get_or_first m n f g i h =
    let within : i < length (tab m f) = rw length-tab h in
    get_or-append (tab m f) (tab n g) 0 i within ∙ get_or-tab m f i 0 h

get_or_second : (m n : ℕ) (f g : ℕ → ℕ) (i : ℕ) → i < n → get_or (tab m f ++ tab n g) (m + i) 0 ≡ g i
get_or_second m n f g i h =
    ap (λ (k : ℕ). get_or (tab m f ++ tab n g) (k + i) 0) (sym (length-tab m f))
    ∙ get_or-append-add (tab m f) (tab n g) i 0
    ∙ get_or-tab n g i 0 h

-- an entry is 1 just where the wire is lit
pub lit_one : (set : List ℕ) (i : ℕ) → lit set i ≡ true → get_or set i 0 ≡ 1
unfolding lit
lit_one set i h = eqb-true (get_or set i 0) 1 h

pub one_lit : (set : List ℕ) (i : ℕ) → get_or set i 0 ≡ 1 → lit set i ≡ true
unfolding lit
one_lit set i h = eq-eqb (get_or set i 0) 1 h

module _ (m n : ℕ) where
  -- each place below m + n is that of a wire
  pub wire_at : (i : ℕ) → i < m + n → (w : Wire) × (Within m n w) × (place m w ≡ i)
  unfolding place Within
  wire_at i h =
      ⊎_elim
      (λ (p : i < m). (row i, p, refl))
      (λ (p : m ≤ i). (column (i - m), omega arith, omega arith))
      (cases_lt i m)

  -- and each wire's place is below m + n
  pub place_below : (w : Wire) → Within m n w → place m w < m + n
  unfolding place Within
  place_below (row r) h = omega arith
  place_below (column c) h = omega arith

  -- the entries before round 1
  pub start-entry : (i : ℕ) → i < m + n → get_or (start m n) i 0 ≡ bit (eqb i 0)
  unfolding start
  start-entry i h = get_or-tab (m + n) (λ w. bit (eqb w 0)) i 0 h

  pub start-lit : (i : ℕ) → i < m + n → lit (start m n) i ≡ eqb i 0
  unfolding lit
  start-lit i h = rw (start-entry i h) (eqb_bit (eqb i 0))

module _ (m n : ℕ) (joined : ℕ → ℕ → Bool) where
  -- whether a wire is lit after a round
  unfoldable pub next : List ℕ → Wire → Bool
  next set (row r) = lit set r || some_below n (λ c. joined r c && lit set (m + c))
  next set (column c) = lit set (m + c) || some_below m (λ r. joined r c && lit set r)

  -- the entries after a round
  pub round-entry : (set : List ℕ) (w : Wire) → Within m n w → get_or (round m n joined set) (place m w) 0 ≡ bit (next set w)
  unfolding round place Within next
  round-entry set (row r) h =
      get_or_first m n (λ k. bit (next set (row k))) (λ k. bit (next set (column k))) r h
  round-entry set (column c) h =
      get_or_second m n (λ k. bit (next set (row k))) (λ k. bit (next set (column k))) c h

  pub round-lit : (set : List ℕ) (w : Wire) → Within m n w → lit (round m n joined set) (place m w) ≡ next set w
  unfolding lit
  round-lit set w h = rw (round-entry set w h) (eqb_bit (next set w))

  -- one entry a wire, 0 or 1
  pub length-rounds : (t : ℕ) → length (rounds m n joined t) ≡ m + n
  unfolding rounds start round
  length-rounds zero = length-tab (m + n) (λ w. bit (eqb w 0))
  length-rounds (suc t) = simp (length-append, length-tab)

  rounds_small_below : (t i : ℕ) → i < m + n → get_or (rounds m n joined t) i 0 ≤ 1
  unfolding rounds
  rounds_small_below zero i h = rw (start-entry m n i h) (bit_most (eqb i 0))
  rounds_small_below (suc t) i h =
      let at = wire_at m n i h in
      let set = rounds m n joined t in
      rw (← at.2) (rw (round-entry set at.0 at.1) (bit_most (next set at.0)))

  pub rounds_small : (t i : ℕ) → get_or (rounds m n joined t) i 0 ≤ 1
  rounds_small t i =
      ⊎_elim
      (λ (h : i < m + n). rounds_small_below t i h)
      (λ (h : m + n ≤ i).
      let past : length (rounds m n joined t) ≤ i = rw length-rounds h in
      rw (get_or-eq_default (rounds m n joined t) 0 past) (omega arith))
      (cases_lt i (m + n))

  pub rounds_bits : (t i : ℕ) → (get_or (rounds m n joined t) i 0 ≡ 0) ⊎ (get_or (rounds m n joined t) i 0 ≡ 1)
  rounds_bits t i =
      let small = rounds_small t i in
      ⊎_elim
      (λ (h : get_or (rounds m n joined t) i 0 < 1). inl (omega arith))
      (λ (h : 1 ≤ get_or (rounds m n joined t) i 0). inr (omega arith))
      (cases_lt (get_or (rounds m n joined t) i 0) 1)

  -- "Each round keeps every lit wire"
  next_keeps : (set : List ℕ) (w : Wire) → lit set (place m w) ≡ true → next set w ≡ true
  unfolding place next
  next_keeps set (row r) h = or_left (lit set r) (some_below n (λ c. joined r c && lit set (m + c))) h
  next_keeps set (column c) h = or_left (lit set (m + c)) (some_below m (λ r. joined r c && lit set r)) h

  pub kept : (t i : ℕ) → i < m + n → lit (rounds m n joined t) i ≡ true → lit (rounds m n joined (suc t)) i ≡ true
  unfolding rounds
  kept t i h e =
      let at = wire_at m n i h in
      let set = rounds m n joined t in
      let e' : lit set (place m at.0) ≡ true = rw at.2 e in
      rw (← at.2) (round-lit set at.0 at.1 ∙ next_keeps set at.0 e')

  -- "so row 0 is always lit"
  pub row_0_lit : 0 < m → (t : ℕ) → lit (rounds m n joined t) 0 ≡ true
  unfolding rounds
  row_0_lit h zero = start-lit m n 0 (omega arith)
  row_0_lit h (suc t) = kept t 0 (omega arith) (row_0_lit h t)

  -- at rest a round changes nothing, and then no later round does
  pub rest_same : (t : ℕ) → at_rest m n joined t ≡ true → rounds m n joined (suc t) ≡ rounds m n joined t
  unfolding at_rest
  rest_same t h = sym (same_eq (rounds m n joined t) (rounds m n joined (suc t)) h)

  pub same_rest : (t : ℕ) → rounds m n joined (suc t) ≡ rounds m n joined t → at_rest m n joined t ≡ true
  unfolding at_rest
  same_rest t e = rw e (eq_same (rounds m n joined t))

  rounds_suc : (t : ℕ) → rounds m n joined (suc t) ≡ round m n joined (rounds m n joined t)
  unfolding rounds
  rounds_suc t = refl

  pub rest_stays : (t : ℕ) → at_rest m n joined t ≡ true → at_rest m n joined (suc t) ≡ true
  rest_stays t h =
      same_rest (suc t) (rounds_suc (suc t) ∙ ap (round m n joined) (rest_same t h) ∙ sym (rounds_suc t))

  pub rest_after : (t k : ℕ) → at_rest m n joined t ≡ true → at_rest m n joined (t + k) ≡ true
  rest_after t zero h = rw add-zero h
  rest_after t (suc k) h = rw add-suc (rest_stays (t + k) (rest_after t k h))

  pub rounds-after : (t k : ℕ) → at_rest m n joined t ≡ true → rounds m n joined (t + k) ≡ rounds m n joined t
  rounds-after t zero h = rw add-zero
  rounds-after t (suc k) h = rw add-suc (rest_same (t + k) (rest_after t k h) ∙ rounds-after t k h)

-- two ways to say which cells conduct that agree on the cells of the crossbar
some_same : (n : ℕ) (f g : ℕ → Bool) → ((i : ℕ) → i < n → f i ≡ g i) → some_below n f ≡ some_below n g
unfolding some_below
some_same zero f g h = refl
some_same (suc n) f g h = rw (some_same n f g (λ i p. h i (omega arith)), h n (omega arith))

module _ (m n : ℕ) (joined joined' : ℕ → ℕ → Bool) (agree : (r c : ℕ) → r < m → c < n → joined r c ≡ joined' r c) where
  round_same : (set : List ℕ) → round m n joined set ≡ round m n joined' set
  unfolding round
  round_same set =
      rw (
        tab_agree m
            (λ r. bit (lit set r || some_below n (λ c. joined r c && lit set (m + c))))
            (λ r. bit (lit set r || some_below n (λ c. joined' r c && lit set (m + c))))
            (λ r p.
            rw
            (some_same n (λ c. joined r c && lit set (m + c)) (λ c. joined' r c && lit set (m + c)) (λ c q. rw (agree r c p q)))),
        tab_agree n
            (λ c. bit (lit set (m + c) || some_below m (λ r. joined r c && lit set r)))
            (λ c. bit (lit set (m + c) || some_below m (λ r. joined' r c && lit set r)))
            (λ c q. rw (some_same m (λ r. joined r c && lit set r) (λ r. joined' r c && lit set r) (λ r p. rw (agree r c p q)))),
      )

  pub rounds-same : (t : ℕ) → rounds m n joined t ≡ rounds m n joined' t
  unfolding rounds
  rounds-same zero = refl
  rounds-same (suc t) = ap (round m n joined) (rounds-same t) ∙ round_same (rounds m n joined' t)

  pub rests_same : (t : ℕ) → at_rest m n joined t ≡ at_rest m n joined' t
  unfolding at_rest
  rests_same t = rw (rounds-same t, rounds-same (suc t))
