-- First rounds: what the search over the sets finds, how a round changes it, and which round adds a wire.
use Prim.Native.Nat.{ℕ, zero, suc, ◌+◌, ◌-◌, ◌≤◌, ◌<◌}
use mathlib.Core.Path.{◌≡◌, refl, sym, ap, ◌∙◌}
use mathlib.Core.Logic.{◌⊎◌, inl, inr, ⊎_elim}
use mathlib.Core.Bool.{Bool, true, false, not}
use mathlib.Core.List.{List}
use native.Mathlib.Omega.{arith}
use native.Mathlib.Nat.{add-suc, add-zero}
use lib.ListN.{length, get_or, get_or-eq_default}
use lib.Seq.{ext_get_or}
use borrow.Author.Tests.{not-true}
use Rattle.std.proofs.lemmas.Bool.{cases_Bool, cases_lt, and_from}
use Rattle.std.proofs.Math.Bool.{and-false}
use Rattle.common.specs.Lists.{some_below}
use Rattle.common.proofs.Lists.{and_left, and_right, length-tab, get_or-tab, tab_agree, some_below_at, some_below_is}
use Rattle.conduction.specs.Round.{lit, rounds, at_rest, is_new, first_among, first_round, first_rounds}
use Rattle.conduction.specs.Lit.{FirstLitIn}
use Rattle.conduction.proofs.Rounds.{lit_one, one_lit, length-rounds, rounds_bits, rounds-same, kept, rest_same, same_rest}

module _ (m n : ℕ) (joined : ℕ → ℕ → Bool) where
  -- only wires are lit, and a lit wire stays lit
  pub lit_below : (t w : ℕ) → lit (rounds m n joined t) w ≡ true → w < m + n
  lit_below t w e =
      ⊎_elim
      (λ (h : w < m + n). h)
      (λ (h : m + n ≤ w).
      let past : length (rounds m n joined t) ≤ w = rw length-rounds h in
      absurd (omega (arith, lit_one (rounds m n joined t) w e, get_or-eq_default (rounds m n joined t) 0 past)))
      (cases_lt w (m + n))

  lit_later : (t k w : ℕ) → lit (rounds m n joined t) w ≡ true → lit (rounds m n joined (t + k)) w ≡ true
  lit_later t zero w e = rw add-zero e
  lit_later t (suc k) w e =
      let before = lit_later t k w e in
      rw add-suc (kept m n joined (t + k) w (lit_below (t + k) w before) before)

  pub lit_stays : (s t w : ℕ) → s ≤ t → lit (rounds m n joined s) w ≡ true → lit (rounds m n joined t) w ≡ true
  lit_stays s t w h e = let at : s + (t - s) ≡ t = omega arith in rw at at (lit_later s (t - s) w e)

  pub dark_before : (s t w : ℕ) → s ≤ t → lit (rounds m n joined t) w ≡ false → lit (rounds m n joined s) w ≡ false
  dark_before s t w h e =
      ⊎_elim
      (λ (p : lit (rounds m n joined s) w ≡ true). absurd (cc (lit_stays s t w h p)))
      (λ p. p)
      (cases_Bool (lit (rounds m n joined s) w))

  -- what the search among k sets from t on finds
  record Found (w k t s : ℕ) : Type 0 where
    is : first_among m n joined w k t ≡ 1 + s
    from : t ≤ s
    below : s < t + k
    then_lit : lit (rounds m n joined s) w ≡ true
    none : (u : ℕ) → t ≤ u → u < s → lit (rounds m n joined u) w ≡ false

  record Missed (w k t : ℕ) : Type 0 where
    is : first_among m n joined w k t ≡ 0
    none : (u : ℕ) → t ≤ u → u < t + k → lit (rounds m n joined u) w ≡ false

  search_ends : (w k t : ℕ) → Missed w k t ⊎ ((s : ℕ) × Found w k t s)
  unfolding first_among
  search_ends w zero t = inl (record { is = refl; none = λ u h l. absurd (omega arith) })
  search_ends w (suc k) t =
      ⊎_elim
      (λ (p : lit (rounds m n joined t) w ≡ true).
      inr (
        t,
        record { is = rw (p, first_among); from = omega arith; below = omega arith; then_lit = p; none = λ u h l. absurd (omega arith) },
      ))
      (λ (p : lit (rounds m n joined t) w ≡ false).
      let at_first : (u : ℕ) → u ≡ t → lit (rounds m n joined u) w ≡ false = λ u e. rw e p in
      ⊎_elim
      (λ (missed : Missed w k (suc t)).
      inl
      (record {
        is = rw (p, first_among) missed.is;
        none =
            λ u h l.
            ⊎_elim (λ (q : t < u). missed.none u (omega arith) (omega arith)) (λ (q : u ≤ t). at_first u (omega arith)) (cases_lt t u);
      }))
      (λ (found : (s : ℕ) × Found w k (suc t) s).
      inr (
        found.0,
        record {
          is = rw (p, first_among) found.1.is;
          from = omega (arith, found.1.from);
          below = omega (arith, found.1.below);
          then_lit = found.1.then_lit;
          none =
              λ u h l.
              ⊎_elim (λ (q : t < u). found.1.none u (omega arith) l) (λ (q : u ≤ t). at_first u (omega arith)) (cases_lt t u);
        },
      ))
      (search_ends w k (suc t)))
      (cases_Bool (lit (rounds m n joined t) w))

  -- a wire's number after t rounds: 0 where it is dark then, else 1 plus the round in which it was first lit
  abbrev pub StillDark : ℕ → ℕ → Type 0
  StillDark t w = (first_round m n joined t w ≡ 0) × (lit (rounds m n joined t) w ≡ false)

  abbrev pub LitSince : ℕ → ℕ → Type 0
  LitSince t w = (s : ℕ) × (first_round m n joined t w ≡ 1 + s) × (s ≤ t) × FirstLitIn m n joined w s

  pub first_cases : (t w : ℕ) → StillDark t w ⊎ LitSince t w
  unfolding first_round
  first_cases t w =
      ⊎_elim
      (λ (missed : Missed w (suc t) 0). inl (missed.is, missed.none t (omega arith) (omega arith)))
      (λ (found : (s : ℕ) × Found w (suc t) 0 s).
      inr (
        found.0,
        found.1.is,
        omega (arith, found.1.below),
        record { lit_then = found.1.then_lit; dark_before = λ u h. found.1.none u (omega arith) h },
      ))
      (search_ends w (suc t) 0)

  -- there is only one such round
  pub first_only : (w s t : ℕ) → FirstLitIn m n joined w s → FirstLitIn m n joined w t → s ≡ t
  first_only w s t a b =
      ⊎_elim
      (λ (h : s < t). absurd (cc (a.lit_then, b.dark_before s h)))
      (λ (h : t ≤ s).
      ⊎_elim
      (λ (k : t < s). absurd (cc (b.lit_then, a.dark_before t k)))
      (λ (k : s ≤ t). omega arith)
      (cases_lt t s))
      (cases_lt s t)

  pub first-is : (t w s : ℕ) → s ≤ t → FirstLitIn m n joined w s → first_round m n joined t w ≡ 1 + s
  first-is t w s h first =
      ⊎_elim
      (λ (c : StillDark t w).
      absurd (cc (lit_stays s t w h first.lit_then, c.1)))
      (λ (c : LitSince t w).
      c.1 ∙ ap suc' (first_only w c.0 s c.3 first))
      (first_cases t w)
    where
      suc' : ℕ → ℕ
      suc' k = 1 + k

  pub first-none : (t w : ℕ) → lit (rounds m n joined t) w ≡ false → first_round m n joined t w ≡ 0
  first-none t w e =
      ⊎_elim
      (λ (c : StillDark t w). c.0)
      (λ (c : LitSince t w).
      absurd (cc (lit_stays c.0 t w c.2 c.3.lit_then)))
      (first_cases t w)

  pub first_dark : (t w : ℕ) → first_round m n joined t w ≡ 0 → lit (rounds m n joined t) w ≡ false
  first_dark t w e =
      ⊎_elim
      (λ (c : StillDark t w). c.1)
      (λ (c : LitSince t w). absurd (omega (arith, c.1)))
      (first_cases t w)

  pub first_most : (t w : ℕ) → first_round m n joined t w ≤ t + 1
  first_most t w =
      ⊎_elim
      (λ (c : StillDark t w). omega (arith, c.0))
      (λ (c : LitSince t w). omega (arith, c.1, c.2))
      (first_cases t w)

  -- a wire with the number 1 + s was first lit in round s
  pub first_says : (t w s : ℕ) → first_round m n joined t w ≡ 1 + s → (s ≤ t) × FirstLitIn m n joined w s
  first_says t w s e =
      ⊎_elim
      (λ (c : StillDark t w). absurd (omega (arith, c.0)))
      (λ (c : LitSince t w).
      let same-round : c.0 ≡ s = omega (arith, c.1) in
      (omega (arith, c.2), rw same-round at c.3))
      (first_cases t w)

  -- which wires are new, and that they alone get a number in that round
  pub new_lit : (t w : ℕ) → is_new m n joined t w ≡ true → lit (rounds m n joined (suc t)) w ≡ true
  unfolding is_new
  new_lit t w e = and_left (lit (rounds m n joined (suc t)) w) (not (lit (rounds m n joined t) w)) e

  pub new_dark : (t w : ℕ) → is_new m n joined t w ≡ true → lit (rounds m n joined t) w ≡ false
  unfolding is_new
  new_dark t w e =
      not-true (lit (rounds m n joined t) w) (and_right (lit (rounds m n joined (suc t)) w) (not (lit (rounds m n joined t) w)) e)

  pub is_new_lem : (t w : ℕ) → lit (rounds m n joined (suc t)) w ≡ true → lit (rounds m n joined t) w ≡ false → is_new m n joined t w ≡ true
  unfolding is_new
  is_new_lem t w e d =
      and_from (lit (rounds m n joined (suc t)) w) (not (lit (rounds m n joined t) w)) e (rw d)

  pub not_new : (t w : ℕ) → lit (rounds m n joined t) w ≡ true → is_new m n joined t w ≡ false
  unfolding is_new
  not_new t w e = rw e (and-false (lit (rounds m n joined (suc t)) w))

  pub new_first : (t w : ℕ) → is_new m n joined t w ≡ true → FirstLitIn m n joined w (suc t)
  new_first t w e =
      record { lit_then = new_lit t w e; dark_before = λ s h. dark_before s t w (omega arith) (new_dark t w e) }

  pub first_next : (t w : ℕ) → first_round m n joined (suc t) w ≡ elim (is_new m n joined t w) [ true ↦ t + 2 | false ↦ first_round m n joined t w ]
  first_next t w =
      ⊎_elim
      (λ (new : is_new m n joined t w ≡ true).
      let number : first_round m n joined (suc t) w ≡ t + 2 = omega (arith, first-is (suc t) w (suc t) (omega arith) (new_first t w new)) in
      number ∙ rw new)
      (λ (old : is_new m n joined t w ≡ false).
      let kept-number : first_round m n joined (suc t) w ≡ first_round m n joined t w =
      ⊎_elim
      (λ (c : StillDark t w).
      ⊎_elim
      (λ (l : lit (rounds m n joined (suc t)) w ≡ true). absurd (cc (is_new_lem t w l c.1)))
      (λ (l : lit (rounds m n joined (suc t)) w ≡ false). first-none (suc t) w l ∙ sym c.0)
      (cases_Bool (lit (rounds m n joined (suc t)) w)))
      (λ (c : LitSince t w).
      first-is (suc t) w c.0 (omega (arith, c.2)) c.3 ∙ sym c.1)
      (first_cases t w) in
      kept-number ∙ rw old)
      (cases_Bool (is_new m n joined t w))

  -- a round adds a wire just where the rounds are not at rest
  pub rest_none_new : (t w : ℕ) → at_rest m n joined t ≡ true → is_new m n joined t w ≡ false
  unfolding is_new
  rest_none_new t w h =
      ⊎_elim
      (λ (e : is_new m n joined t w ≡ true).
      let lit-before : lit (rounds m n joined t) w ≡ true = rw (← (rest_same m n joined t h)) (new_lit t w e) in
      absurd (cc (new_dark t w e)))
      (λ e. e)
      (cases_Bool (is_new m n joined t w))

  -- a dark wire's byte, and two sets whose wires are lit alike
  pub dark_byte : (t w : ℕ) → lit (rounds m n joined t) w ≡ false → get_or (rounds m n joined t) w 0 ≡ 0
  dark_byte t w d =
      ⊎_elim
      (λ (z : get_or (rounds m n joined t) w 0 ≡ 0). z)
      (λ (z : get_or (rounds m n joined t) w 0 ≡ 1). absurd (cc (one_lit (rounds m n joined t) w z)))
      (rounds_bits m n joined t w)

  entry-same : (s t w : ℕ) → lit (rounds m n joined s) w ≡ lit (rounds m n joined t) w → get_or (rounds m n joined s) w 0 ≡ get_or (rounds m n joined t) w 0
  entry-same s t w e =
      ⊎_elim
      (λ (p : lit (rounds m n joined s) w ≡ true). lit_one (rounds m n joined s) w p ∙ sym (lit_one (rounds m n joined t) w (sym e ∙ p)))
      (λ (p : lit (rounds m n joined s) w ≡ false). dark_byte s w p ∙ sym (dark_byte t w (sym e ∙ p)))
      (cases_Bool (lit (rounds m n joined s) w))

  pub none_new_rest : (t : ℕ) → ((w : ℕ) → w < m + n → is_new m n joined t w ≡ false) → at_rest m n joined t ≡ true
  none_new_rest t none =
      same_rest m n joined t
      (ext_get_or 0 (rounds m n joined (suc t)) (rounds m n joined t) (length-rounds m n joined (suc t) ∙ sym (length-rounds m n joined t))
      (λ w h.
      let below : w < m + n = rw length-rounds at h in
      entry-same (suc t) t w
      (⊎_elim
      (λ (p : lit (rounds m n joined t) w ≡ true). kept m n joined t w below p ∙ sym p)
      (λ (p : lit (rounds m n joined t) w ≡ false).
      ⊎_elim
      (λ (q : lit (rounds m n joined (suc t)) w ≡ true). absurd (cc (is_new_lem t w q p, none w below)))
      (λ (q : lit (rounds m n joined (suc t)) w ≡ false). q ∙ sym p)
      (cases_Bool (lit (rounds m n joined (suc t)) w)))
      (cases_Bool (lit (rounds m n joined t) w)))))

  pub some_new : (t : ℕ) → at_rest m n joined t ≡ false → (w : ℕ) × (w < m + n) × (is_new m n joined t w ≡ true)
  some_new t moving =
      ⊎_elim
      (λ (e : some_below (m + n) (is_new m n joined t) ≡ true). some_below_is (m + n) (is_new m n joined t) e)
      (λ (e : some_below (m + n) (is_new m n joined t) ≡ false).
      absurd
      (cc (none_new_rest t
      (λ w h.
      ⊎_elim
      (λ (new : is_new m n joined t w ≡ true).
      absurd (cc (some_below_at (m + n) (is_new m n joined t) w h new)))
      (λ old. old)
      (cases_Bool (is_new m n joined t w))))))
      (cases_Bool (some_below (m + n) (is_new m n joined t)))

  -- the list of the numbers: its length and its entries, which are 0 past the wires
  pub length_firsts : (t : ℕ) → length (first_rounds m n joined t) ≡ m + n
  unfolding first_rounds
  length_firsts t = length-tab (m + n) (first_round m n joined t)

  pub firsts_entry : (t w : ℕ) → get_or (first_rounds m n joined t) w 0 ≡ first_round m n joined t w
  unfolding first_rounds
  firsts_entry t w =
      ⊎_elim
      (λ (h : w < m + n). get_or-tab (m + n) (first_round m n joined t) w 0 h)
      (λ (h : m + n ≤ w).
      let past : length (first_rounds m n joined t) ≤ w = rw length_firsts h in
      get_or-eq_default (first_rounds m n joined t) 0 past
      ∙ sym
      (first-none t w
      (⊎_elim
      (λ (e : lit (rounds m n joined t) w ≡ true). absurd (omega (arith, lit_below t w e)))
      (λ e. e)
      (cases_Bool (lit (rounds m n joined t) w)))))
      (cases_lt w (m + n))

  -- at rest a round changes none of them
  pub firsts_rest : (t : ℕ) → at_rest m n joined t ≡ true → first_rounds m n joined (suc t) ≡ first_rounds m n joined t
  unfolding first_rounds
  firsts_rest t h =
      tab_agree (m + n) (first_round m n joined (suc t)) (first_round m n joined t)
      (λ w below. first_next t w ∙ rw (rest_none_new t w h))

-- they hang on the cells of the crossbar alone
module _ (m n : ℕ) (joined joined' : ℕ → ℕ → Bool) (agree : (r c : ℕ) → r < m → c < n → joined r c ≡ joined' r c) where
  searched_same : (w k t : ℕ) → first_among m n joined w k t ≡ first_among m n joined' w k t
  unfolding first_among
  searched_same w zero t = refl
  searched_same w (suc k) t =
      ap (λ (set : List ℕ). elim (lit set w) [ true ↦ 1 + t | false ↦ first_among m n joined w k (suc t) ]) (rounds-same m n joined joined' agree t)
      ∙ ap (λ (later : ℕ). elim (lit (rounds m n joined' t) w) [ true ↦ 1 + t | false ↦ later ]) (searched_same w k (suc t))

  pub firsts_same : (t : ℕ) → first_rounds m n joined t ≡ first_rounds m n joined' t
  unfolding first_rounds first_round
  firsts_same t = tab_agree (m + n) (first_round m n joined t) (first_round m n joined' t) (λ w h. searched_same w (suc t) 0)
