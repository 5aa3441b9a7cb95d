-- Laws of figures: a number below 100000 is read back from the digits that write it, and the digits that were read are those that
-- write the number.
use Prim.Native.Nat.{ℕ, zero, suc, ◌+◌, ◌-◌, ◌*◌, ◌/◌, ◌%◌, ◌≤◌, ◌<◌}
use mathlib.Core.Path.{◌≡◌, refl, sym, ap, ◌∙◌}
use mathlib.Core.Logic.{inl, inr}
use mathlib.Core.Bool.{Bool, true, false, not, ◌||◌}
use mathlib.Core.Option.{some}
use mathlib.Core.List.{List, [], ◌∷◌, ◌++◌, append-nil}
use native.Mathlib.Omega.{arith}
use lib.ListN.{length, drop}
use lib.Seq.{drop_at}
use lib.Dec.{eqb, leb, eqb-suc-zero}
use borrow.Author.Tests.{leb-true, le-leb, ne_eqb, lt-ltb, le-ltb, not-true}
use Rattle.std.proofs.lemmas.Bool.{both_ways, cases_Bool, cases_lt, and_from, or_right}
use Rattle.common.specs.Lists.{all_of}
use Rattle.common.proofs.Lists.{and_left, and_right}
use Rattle.figures.specs.Figure.{is_digit, digits_of, is_figure, number_from, Figured, take_figure, digits, decimal}
use Rattle.figures.proofs.Digits.{digit_range, digits_of_digit, digits_of_other, take_is, take_not}

-- whether a text does not begin with a digit
unfoldable pub no_digit_first : List ℕ → Bool
no_digit_first [] = true
no_digit_first (b ∷ s) = not (is_digit b)

digit_is : (d : ℕ) → d < 10 → is_digit (48 + d) ≡ true
unfolding is_digit
digit_is d h =
    and_from (leb 48 (48 + d)) (leb (48 + d) 57) (le-leb 48 (48 + d) (omega arith)) (le-leb (48 + d) 57 (omega arith))

-- 10 to the power k
unfoldable ten_to : ℕ → ℕ
ten_to zero = 1
ten_to (suc k) = ten_to k * 10

ten_to_positive : (k : ℕ) → 0 < ten_to k
unfolding ten_to
ten_to_positive zero = omega arith
ten_to_positive (suc k) = omega (arith, ten_to_positive k)

-- the two cases of a digit's place: the first digit, or a digit after the others
pub digits_one : (k n : ℕ) (s : List ℕ) → n < 10 → digits (suc k) n s ≡ (48 + n) ∷ s
unfolding digits
digits_one k n s h = rw (lt-ltb n 10 h, digits)

pub digits_more : (k n : ℕ) (s : List ℕ) → 10 ≤ n → digits (suc k) n s ≡ digits k (n / 10) ((48 + n % 10) ∷ s)
unfolding digits
digits_more k n s h = rw (le-ltb n 10 h, digits)

-- the digits are digits
digits-bytes : (k n : ℕ) (s : List ℕ) → all_of is_digit s ≡ true → all_of is_digit (digits k n s) ≡ true
unfolding all_of
digits-bytes zero n s h = unfold digits in h
digits-bytes (suc k) n s h =
    elim (cases_lt n 10) [
      | inl l ↦ rw (digits_one k n s l) (and_from (is_digit (48 + n)) (all_of is_digit s) (digit_is n l) h)
      | inr l ↦
          let d : n % 10 < 10 = omega arith in
          rw (digits_more k n s l)
          (digits-bytes k (n / 10) ((48 + n % 10) ∷ s)
          (and_from (is_digit (48 + n % 10)) (all_of is_digit s) (digit_is (n % 10) d) h))
    ]

pub decimal-bytes : (n : ℕ) → n < 100000 → all_of is_digit (decimal n) ≡ true
unfolding decimal all_of
decimal-bytes n h = digits-bytes 5 n [] refl

-- one digit more
number_next : (m b n : ℕ) (s : List ℕ) → m * 10 + (b - 48) ≡ n → number_from m (b ∷ s) ≡ number_from n s
unfolding number_from
number_next m b n s e = rw e

digits_none : (n : ℕ) (s : List ℕ) → digits zero n s ≡ s
unfolding digits
digits_none n s = refl

-- the digits write the number
digits_number : (k n : ℕ) (s : List ℕ) → n < ten_to k → number_from 0 (digits k n s) ≡ number_from n s
unfolding ten_to
digits_number zero n s h = let e : n ≡ 0 = omega arith in rw (e, digits_none 0 s)
digits_number (suc k) n s h =
    elim (cases_lt n 10) [
      | inl l ↦ rw (digits_one k n s l) (number_next 0 (48 + n) n s (omega arith))
      | inr l ↦
          let below : n / 10 < ten_to k = omega arith in
          rw (digits_more k n s l)
          (digits_number k (n / 10) ((48 + n % 10) ∷ s) below ∙ number_next (n / 10) (48 + n % 10) n s (omega arith))
    ]

-- there are at most as many digits as places
pub digits-length : (k n : ℕ) (s : List ℕ) → length (digits k n s) ≤ k + length s
digits-length zero n s = unfold digits in omega arith
digits-length (suc k) n s =
    elim (cases_lt n 10) [
      | inl l ↦ rw (digits_one k n s l) (omega arith)
      | inr l ↦ rw (digits_more k n s l) (omega (arith, digits-length k (n / 10) ((48 + n % 10) ∷ s)))
    ]

-- whether there is a first digit and it is not 0
unfoldable leads : List ℕ → Bool
leads [] = false
leads (b ∷ ds) = not (eqb b 48)

digits_lead : (k n : ℕ) (s : List ℕ) → 1 ≤ n → n < ten_to k → leads (digits k n s) ≡ true
unfolding ten_to
digits_lead zero n s p h = absurd (omega arith)
digits_lead (suc k) n s p h =
    elim (cases_lt n 10) [
      | inl l ↦ rw (digits_one k n s l) (unfold leads in rw (ne_eqb (48 + n) 48 (λ (e : 48 + n ≡ 48). omega arith)))
      | inr l ↦
          let least : 1 ≤ n / 10 = omega arith in
          let below : n / 10 < ten_to k = omega arith in
          rw (digits_more k n s l) (digits_lead k (n / 10) ((48 + n % 10) ∷ s) least below)
    ]

-- at most 5 digits of which the first is not 0 are a figure
lead_figure : (ds : List ℕ) → leads ds ≡ true → length ds ≤ 5 → is_figure ds ≡ true
unfolding leads is_figure
lead_figure [] p h = p
lead_figure (b ∷ ds) p h =
    and_from (leb (length ds) 4) (eqb (length ds) 0 || not (eqb b 48))
    (le-leb (length ds) 4 (omega arith))
    (or_right (eqb (length ds) 0) (not (eqb b 48)) p)

decimal_figure : (n : ℕ) → n < 100000 → is_figure (decimal n) ≡ true
unfolding decimal
decimal_figure zero h = unfold digits is_figure in refl
decimal_figure (suc n) h =
    lead_figure (digits 5 (suc n) [])
    (unfold ten_to in digits_lead 5 (suc n) [] (omega arith) h)
    (digits-length 5 (suc n) [])

-- all the digits in front of a text that begins with none are the digits that the whole begins with
digits_of_front : (ds s : List ℕ) → all_of is_digit ds ≡ true → no_digit_first s ≡ true → digits_of (ds ++ s) ≡ ds
unfolding all_of
digits_of_front [] [] h k = unfold digits_of in refl
digits_of_front [] (b ∷ s) h k = unfold no_digit_first in digits_of_other b s (not-true (is_digit b) k)
digits_of_front (b ∷ ds) s h k =
    digits_of_digit b (ds ++ s) (and_left (is_digit b) (all_of is_digit ds) h)
    ∙ ap (λ (r : List ℕ). b ∷ r) (digits_of_front ds s (and_right (is_digit b) (all_of is_digit ds) h) k)

takes_front :
    (ds s : List ℕ)
    → is_figure ds ≡ true
    → all_of is_digit ds ≡ true
    → no_digit_first s ≡ true
    → take_figure (ds ++ s) ≡ some (record { figure = number_from 0 ds; rest = s })
takes_front ds s f h k =
    let e = digits_of_front ds s h k in
    take_is (ds ++ s) (ap is_figure e ∙ f) ∙ rw (e, drop_at ds s (length ds) refl)

pub takes_decimal :
    (n : ℕ) (s : List ℕ)
    → n < 100000
    → no_digit_first s ≡ true
    → take_figure (decimal n ++ s) ≡ some (record { figure = n; rest = s })
takes_decimal n s h k =
    let e : number_from 0 (decimal n) ≡ n = unfold decimal ten_to number_from in digits_number 5 n [] h in
    takes_front (decimal n) s (decimal_figure n h) (decimal-bytes n h) k
    ∙ ap (λ (m : ℕ). some (record { figure = m; rest = s })) e

-- the digits of the number that digits write after a number that is not 0, in j places
number_digits :
    (ds s : List ℕ) (j k m : ℕ)
    → j ≡ k + length ds
    → 1 ≤ m
    → all_of is_digit ds ≡ true
    → digits j (number_from m ds) s ≡ digits k m (ds ++ s)
unfolding number_from all_of
number_digits [] s j k m e p h = let q : j ≡ k = omega arith in rw q
number_digits (b ∷ ds) s j k m e p h =
    let d = digit_range b (and_left (is_digit b) (all_of is_digit ds) h) in
    let low : 48 ≤ b = d.0 in
    let high : b ≤ 57 = d.1 in
    let n : ℕ = m * 10 + (b - 48) in
    let q : n / 10 ≡ m = omega arith in
    let r : 48 + n % 10 ≡ b = omega arith in
    number_digits ds s j (suc k) n (omega arith) (omega arith) (and_right (is_digit b) (all_of is_digit ds) h)
    ∙ digits_more k n (ds ++ s) (omega arith)
    ∙ rw (q, r)

number_below :
    (ds : List ℕ) (j k m : ℕ)
    → j ≡ k + length ds
    → m < ten_to k
    → all_of is_digit ds ≡ true
    → number_from m ds < ten_to j
unfolding number_from all_of
number_below [] j k m e p h = let q : j ≡ k = omega arith in rw q p
number_below (b ∷ ds) j k m e p h =
    let d = digit_range b (and_left (is_digit b) (all_of is_digit ds) h) in
    let low : 48 ≤ b = d.0 in
    let high : b ≤ 57 = d.1 in
    number_below ds j (suc k) (m * 10 + (b - 48)) (omega arith)
    (unfold ten_to in omega arith)
    (and_right (is_digit b) (all_of is_digit ds) h)

-- a figure has at most 5 digits, and where the first is 0 it is alone
figure_length : (ds : List ℕ) → is_figure ds ≡ true → length ds ≤ 5
unfolding is_figure
figure_length [] f = omega arith
figure_length (b ∷ ds) f =
    omega (arith, leb-true (length ds) 4 (and_left (leb (length ds) 4) (eqb (length ds) 0 || not (eqb b 48)) f))

figure_zero : (ds : List ℕ) → is_figure (48 ∷ ds) ≡ true → ds ≡ []
unfolding is_figure
figure_zero [] f = refl
figure_zero (b ∷ ds) f =
    let e : eqb (suc (length ds)) 0 ≡ false = eqb-suc-zero (length ds) in
    let h = and_right (leb (suc (length ds)) 4) (eqb (suc (length ds)) 0 || false) f in
    absurd (both_ways (eqb (suc (length ds)) 0 || false) (rw e) h)

-- a figure is the decimal of its number, which is below 100000
decimal_is : (n : ℕ) → decimal n ≡ digits 5 n []
unfolding decimal
decimal_is n = refl

decimal_zero : decimal (number_from 0 (48 ∷ [])) ≡ 48 ∷ []
unfolding decimal digits number_from
decimal_zero = refl

figure_decimal : (ds : List ℕ) → is_figure ds ≡ true → all_of is_digit ds ≡ true → decimal (number_from 0 ds) ≡ ds
unfolding all_of
figure_decimal [] f h = unfold is_figure in absurd cc
figure_decimal (b ∷ ds) f h =
    let few : suc (length ds) ≤ 5 = figure_length (b ∷ ds) f in
    let range = digit_range b (and_left (is_digit b) (all_of is_digit ds) h) in
    let low : 48 ≤ b = range.0 in
    let high : b ≤ 57 = range.1 in
    elim (cases_lt 48 b) [
      | inl more ↦
          let k : ℕ = 4 - length ds in
          let back : 48 + (b - 48) ≡ b = omega arith in
          ap decimal (number_next 0 b (b - 48) ds (omega arith))
          ∙ decimal_is (number_from (b - 48) ds)
          ∙ number_digits ds [] 5 (suc k) (b - 48) (omega arith) (omega arith) (and_right (is_digit b) (all_of is_digit ds) h)
          ∙ digits_one k (b - 48) (ds ++ []) (omega arith)
          ∙ rw (back, append-nil ds)
      | inr least ↦
          let e : b ≡ 48 = omega arith in
          let q : ds ≡ [] = figure_zero ds (rw e at f) in
          rw (e, q) decimal_zero
    ]

figure_below : (ds : List ℕ) → is_figure ds ≡ true → all_of is_digit ds ≡ true → number_from 0 ds < 100000
unfolding ten_to
figure_below ds f h =
    let few = figure_length ds f in
    number_below ds 5 (5 - length ds) 0 (omega arith) (ten_to_positive (5 - length ds)) h

-- the digits that a text begins with are digits and stand in front
digits_of-bytes : (s : List ℕ) → all_of is_digit (digits_of s) ≡ true
unfolding all_of
digits_of-bytes [] = unfold digits_of in refl
digits_of-bytes (b ∷ s) =
    elim (cases_Bool (is_digit b)) [
      | inl h ↦
          rw (digits_of_digit b s h) (and_from (is_digit b) (all_of is_digit (digits_of s)) h (digits_of-bytes s))
      | inr h ↦ rw (digits_of_other b s h)
    ]

digits_of_rest : (s : List ℕ) → digits_of s ++ drop (length (digits_of s)) s ≡ s
digits_of_rest [] = unfold digits_of in refl
digits_of_rest (b ∷ s) =
    elim (cases_Bool (is_digit b)) [
      | inl h ↦ rw (digits_of_digit b s h) (ap (λ (r : List ℕ). b ∷ r) (digits_of_rest s))
      | inr h ↦ rw (digits_of_other b s h)
    ]

pub decimal_taken :
    (s : List ℕ) (f : Figured) → take_figure s ≡ some f → (s ≡ decimal f.figure ++ f.rest) × (f.figure < 100000)
decimal_taken s f e =
    elim (cases_Bool (is_figure (digits_of s))) [
      | inl h ↦
          let g = take_is s h in
          let n : number_from 0 (digits_of s) ≡ f.figure = cc in
          let r : drop (length (digits_of s)) s ≡ f.rest = cc in
          let d : decimal f.figure ≡ digits_of s = ap decimal (sym n) ∙ figure_decimal (digits_of s) h (digits_of-bytes s) in
          (rw (d, ← r) (sym (digits_of_rest s)), rw n at (figure_below (digits_of s) h (digits_of-bytes s)))
      | inr h ↦
          let g = take_not s h in
          absurd cc
    ]
