-- The count of rounds: it is at rest, it is the least number of rounds at rest, and it is at most R + C − 1.
use Prim.Native.Nat.{ℕ, zero, suc, ◌+◌, ◌-◌, ◌≤◌, ◌<◌}
use mathlib.Core.Path.{◌≡◌}
use mathlib.Core.Logic.{⊎_elim}
use mathlib.Core.Bool.{Bool, true, false}
use native.Mathlib.Omega.{arith}
use native.Mathlib.Nat.{add-suc, suc-add, add-zero, zero-add}
use Rattle.std.proofs.lemmas.Bool.{cases_Bool, cases_lt}
use Rattle.conduction.specs.Round.{at_rest, first_rest, round_count}
use Rattle.conduction.proofs.Settles.{settles}

module _ (m n : ℕ) (joined : ℕ → ℕ → Bool) where
  -- the least number of rounds at rest, from t on, where t + k rounds are at rest
  pub first_rests : (k t : ℕ) → at_rest m n joined (t + k) ≡ true → at_rest m n joined (first_rest m n joined k t) ≡ true
  unfolding first_rest
  first_rests zero t h = rw add-zero at h
  first_rests (suc k) t h =
      ⊎_elim
      (λ (p : at_rest m n joined t ≡ true). rw (p, first_rest) p)
      (λ (p : at_rest m n joined t ≡ false). rw (p, first_rest) (first_rests k (suc t) (rw (suc-add, ← add-suc) h)))
      (cases_Bool (at_rest m n joined t))

  pub first_at_most : (k t : ℕ) → first_rest m n joined k t ≤ t + k
  unfolding first_rest
  first_at_most zero t = omega arith
  first_at_most (suc k) t =
      ⊎_elim
      (λ (p : at_rest m n joined t ≡ true). rw (p, first_rest) (omega arith))
      (λ (p : at_rest m n joined t ≡ false). rw (p, first_rest) (omega (arith, first_at_most k (suc t))))
      (cases_Bool (at_rest m n joined t))

  pub first_least : (k t s : ℕ) → t ≤ s → s < first_rest m n joined k t → at_rest m n joined s ≡ false
  unfolding first_rest
  first_least zero t s h l = absurd (omega arith)
  first_least (suc k) t s h l =
      ⊎_elim
      (λ (p : at_rest m n joined t ≡ true). absurd (let z : s < t = rw (p, first_rest) at l in omega arith))
      (λ (p : at_rest m n joined t ≡ false).
      let later : s < first_rest m n joined k (suc t) = rw (p, first_rest) at l in
      ⊎_elim
      (λ (q : t < s). first_least k (suc t) s (omega arith) later)
      (λ (q : s ≤ t). let st : s ≡ t = omega arith in rw st p)
      (cases_lt t s))
      (cases_Bool (at_rest m n joined t))

  -- the count of rounds is at rest, at most R + C − 1, and the least
  pub count_rests : at_rest m n joined (m + n - 1) ≡ true → at_rest m n joined (round_count m n joined) ≡ true
  unfolding round_count
  count_rests h = first_rests (m + n - 1) 0 (rw zero-add h)

  pub count_settled : 0 < m → at_rest m n joined (round_count m n joined) ≡ true
  count_settled h = count_rests (settles m n joined h)

  pub count_at_most : round_count m n joined ≤ m + n - 1
  unfolding round_count
  count_at_most = omega (arith, first_at_most (m + n - 1) 0)

  pub count_least : (t : ℕ) → t < round_count m n joined → at_rest m n joined t ≡ false
  unfolding round_count
  count_least t h = first_least (m + n - 1) 0 t (omega arith) h

  -- a number of rounds at rest, with none before it, is the count
  pub count_only :
      0 < m → (t : ℕ) → at_rest m n joined t ≡ true → ((s : ℕ) → s < t → at_rest m n joined s ≡ false)
      → round_count m n joined ≡ t
  count_only h t rest least =
      let count = round_count m n joined in
      ⊎_elim
      (λ (p : count < t). absurd (cc (count_settled h, least count p)))
      (λ (p : t ≤ count).
      ⊎_elim
      (λ (q : t < count). absurd (cc (count_least t q)))
      (λ (q : count ≤ t). omega arith)
      (cases_lt t count))
      (cases_lt count t)
