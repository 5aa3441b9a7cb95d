-- After R + C − 1 rounds every crossbar is at rest: each round before that adds a wire, row 0 is lit from the start, and there are
-- R + C wires.
use Prim.Native.Nat.{ℕ, zero, suc, ◌+◌, ◌-◌, ◌≤◌, ◌<◌}
use mathlib.Core.Path.{◌≡◌, refl, sym, ◌∙◌}
use mathlib.Core.Logic.{◌⊎◌, inl, inr, ⊎_elim}
use mathlib.Core.Bool.{Bool, true}
use mathlib.Core.List.{List, [], ◌∷◌}
use native.Mathlib.Omega.{arith}
use lib.ListN.{length, get_or}
use Rattle.std.proofs.lemmas.Bool.{cases_lt}
use Rattle.conduction.specs.Round.{rounds, at_rest}
use Rattle.conduction.proofs.Rounds.{lit_one, one_lit, length-rounds, rounds_small, kept, row_0_lit, same_rest, rest_stays}

-- the entries of a set added up: how many wires it has, each entry being 0 or 1
unfoldable pub total : List ℕ → ℕ
total [] = 0
total (a ∷ s) = a + total s

-- at most one for each wire, and one at least where the first wire is lit
pub total_at_most : (s : List ℕ) → ((i : ℕ) → get_or s i 0 ≤ 1) → total s ≤ length s
unfolding total
total_at_most [] h = omega arith
total_at_most (a ∷ s) h = omega (arith, h 0, total_at_most s (λ i. h (suc i)))

pub total_some : (s : List ℕ) → get_or s 0 0 ≡ 1 → 1 ≤ total s
unfolding total
total_some [] h = omega arith
total_some (a ∷ s) h = omega arith

-- of two sets, the second with each wire of the first: they are equal, or the second has more
pub equal_or_more :
    (s t : List ℕ) → length s ≡ length t → ((i : ℕ) → i < length s → get_or s i 0 ≤ get_or t i 0)
    → (t ≡ s) ⊎ (total s < total t)
unfolding total
equal_or_more [] [] e h = inl refl
equal_or_more [] (b ∷ t) e h = absurd (omega arith)
equal_or_more (a ∷ s) [] e h = absurd (omega arith)
equal_or_more (a ∷ s) (b ∷ t) e h =
    let first : a ≤ b = h 0 (omega arith) in
    ⊎_elim
    (λ (p : t ≡ s).
    ⊎_elim
    (λ (q : a < b). inr (rw p (omega arith)))
    (λ (q : b ≤ a). let ab : b ≡ a = omega arith in inl (rw (p, ab)))
    (cases_lt a b))
    (λ (p : total s < total t). inr (omega arith))
    (equal_or_more s t (omega arith) (λ i k. h (suc i) (omega arith)))

module _ (m n : ℕ) (joined : ℕ → ℕ → Bool) where
  -- no entry falls over a round
  pub entries_rise : (t i : ℕ) → i < m + n → get_or (rounds m n joined t) i 0 ≤ get_or (rounds m n joined (suc t)) i 0
  entries_rise t i h =
      ⊎_elim
      (λ (p : get_or (rounds m n joined t) i 0 < 1). omega arith)
      (λ (p : 1 ≤ get_or (rounds m n joined t) i 0).
      let one : get_or (rounds m n joined t) i 0 ≡ 1 = omega (arith, rounds_small m n joined t i) in
      let lit-after = kept m n joined t i h (one_lit (rounds m n joined t) i one) in
      omega (arith, lit_one (rounds m n joined (suc t)) i lit-after))
      (cases_lt (get_or (rounds m n joined t) i 0) 1)

  -- a round adds a wire, or the rounds are at rest
  pub rest_or_more :
      (t : ℕ) → (at_rest m n joined t ≡ true) ⊎ (total (rounds m n joined t) < total (rounds m n joined (suc t)))
  rest_or_more t =
      ⊎_elim
      (λ p. inl (same_rest m n joined t p))
      (λ p. inr p)
      (equal_or_more
      (rounds m n joined t)
      (rounds m n joined (suc t))
      (length-rounds m n joined t ∙ sym (length-rounds m n joined (suc t)))
      (λ i h. entries_rise t i (rw length-rounds at h)))

  -- so after t rounds more than t wires are lit, or the rounds are at rest
  pub rest_or_many : 0 < m → (t : ℕ) → (at_rest m n joined t ≡ true) ⊎ (t < total (rounds m n joined t))
  rest_or_many h zero =
      inr (total_some (rounds m n joined 0) (lit_one (rounds m n joined 0) 0 (row_0_lit m n joined h 0)))
  rest_or_many h (suc t) =
      ⊎_elim
      (λ (p : at_rest m n joined t ≡ true). inl (rest_stays m n joined t p))
      (λ (p : total (rounds m n joined t) < total (rounds m n joined (suc t))).
      ⊎_elim
      (λ (q : at_rest m n joined t ≡ true). inl (rest_stays m n joined t q))
      (λ (q : t < total (rounds m n joined t)). inr (omega arith))
      (rest_or_many h t))
      (rest_or_more t)

  pub total_rounds : (t : ℕ) → total (rounds m n joined t) ≤ m + n
  total_rounds t =
      omega (arith, total_at_most (rounds m n joined t) (rounds_small m n joined t), length-rounds m n joined t)

  -- "It is at most R + C − 1": no round adds a wire after R + C − 1 rounds, and ground 15 is never met
  pub settles : 0 < m → at_rest m n joined (m + n - 1) ≡ true
  settles h =
      ⊎_elim
      (λ p. p)
      (λ (p : m + n - 1 < total (rounds m n joined (m + n - 1))).
      ⊎_elim
      (λ q. q)
      (λ (q : total (rounds m n joined (m + n - 1)) < total (rounds m n joined (suc (m + n - 1)))).
      absurd (omega (arith, total_rounds (suc (m + n - 1)))))
      (rest_or_more (m + n - 1)))
      (rest_or_many h (m + n - 1))
