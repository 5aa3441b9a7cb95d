-- The figure that a text begins with, read digit by digit.
use Prim.Native.Nat.{ℕ, zero, suc, ◌+◌, ◌-◌, ◌*◌, ◌^◌, ◌<◌, ◌≤◌}
use mathlib.Core.Path.{◌≡◌, refl, sym, ap, ◌∙◌}
use mathlib.Core.Bool.{true, false}
use mathlib.Core.Option.{Option, some, none}
use mathlib.Core.Logic.{inl, inr, ⊎_elim}
use mathlib.Core.List.{List, [], ◌∷◌}
use native.Mathlib.Omega.{arith}
use native.Mathlib.Nat.{pow-suc, pow-le-pow_right}
use native.Mathlib.Numerals.{add-one}
use lib.ListN.{length, drop, get_or, get_or-eq_default, drop_of_length-le}
use lib.Dec.{eqb, leb, eqb-suc-zero}
use borrow.Author.Tests.{eqb-true, eqb-false, eq-eqb, ne_eqb, le-leb, lt-leb, leb-true}
use Rattle.std.proofs.lemmas.Bool.{cases_Bool, cases_lt, or_right}
use Rattle.std.proofs.Math.Bool.{and-false}
use Rattle.common.proofs.Lists.{and_left, and_right}
use Rattle.figures.specs.Figure.{is_digit, digits_of, is_figure, number_from, Figured, take_figure}
use Rattle.figures.specs.Reading.{first_digit}
use lib.Seq.{drop-cons}

-- a digit's byte lies in 48 to 57
pub digit_range : (b : ℕ) → is_digit b ≡ true → (48 ≤ b) × (b ≤ 57)
unfolding is_digit
digit_range b h = (leb-true 48 b (and_left (leb 48 b) (leb b 57) h), leb-true b 57 (and_right (leb 48 b) (leb b 57) h))

pub digit_low : (b : ℕ) → b < 48 → is_digit b ≡ false
unfolding is_digit
digit_low b h = rw (lt-leb 48 b h)

pub digit_high : (b : ℕ) → 48 ≤ b → is_digit b ≡ leb b 57
unfolding is_digit
digit_high b h = rw (le-leb 48 b h)

-- a digit stands within the text
pub digit_inside : (s : List ℕ) (i : ℕ) → is_digit (get_or s i 0) ≡ true → i < length s
digit_inside s i h =
    ⊎_elim (λ (k : i < length s). k)
    (λ (k : length s ≤ i). let e : get_or s i 0 ≡ 0 = get_or-eq_default s 0 k in absurd (omega (arith, digit_range (get_or s i 0) h)))
    (cases_lt i (length s))

-- the digits that a text begins with: one more digit, or none
pub digits_of_digit : (b : ℕ) (s : List ℕ) → is_digit b ≡ true → digits_of (b ∷ s) ≡ b ∷ digits_of s
unfolding digits_of
digits_of_digit b s h = rw (h, digits_of)

pub digits_of_other : (b : ℕ) (s : List ℕ) → is_digit b ≡ false → digits_of (b ∷ s) ≡ []
unfolding digits_of
digits_of_other b s h = rw (h, digits_of)

-- and from a position on
pub digits-next : (s : List ℕ) (i : ℕ) → is_digit (get_or s i 0) ≡ true → digits_of (drop i s) ≡ get_or s i 0 ∷ digits_of (drop (i + 1) s)
digits-next s i h =
    let k : i < length s = digit_inside s i h in
    rw (add-one i, drop-cons s i 0) (digits_of_digit (get_or s i 0) (drop (suc i) s) h)

pub digits_end : (s : List ℕ) (i : ℕ) → is_digit (get_or s i 0) ≡ false → digits_of (drop i s) ≡ []
unfolding digits_of
digits_end s i h =
    ⊎_elim (λ (k : i < length s). rw (drop-cons s i 0) (digits_of_other (get_or s i 0) (drop (suc i) s) h))
    (λ (k : length s ≤ i). ap digits_of (drop_of_length-le s k))
    (cases_lt i (length s))

-- the two cases of the digits that a text begins with: a figure, or not
pub take_is : (s : List ℕ) → is_figure (digits_of s) ≡ true → take_figure s ≡ some (record { figure = number_from 0 (digits_of s); rest = drop (length (digits_of s)) s })
unfolding take_figure
take_is s h = rw (h, take_figure)

pub take_not : (s : List ℕ) → is_figure (digits_of s) ≡ false → take_figure s ≡ none
unfolding take_figure
take_not s h = rw (h, take_figure)

-- the first digit of a text, if it begins with one
pub first_is : (b : ℕ) (s : List ℕ) → is_digit b ≡ true → first_digit (b ∷ s) ≡ some (record { figure = b - 48; rest = s })
unfolding first_digit
first_is b s h = rw (h, first_digit)

pub first_empty : (s : List ℕ) → length s ≡ 0 → first_digit s ≡ none
unfolding first_digit
first_empty [] h = refl
first_empty (b ∷ s) h = absurd (omega arith)

pub first_not : (b : ℕ) (s : List ℕ) → is_digit b ≡ false → first_digit (b ∷ s) ≡ none
unfolding first_digit
first_not b s h = rw (h, first_digit)

pub ruleset first = (first_empty, first_is, first_not)

-- a figure of which the digits of the number v are read, read on with at most k digits more
unfoldable pub read_on : ℕ → ℕ → List ℕ → Option Figured
read_on zero v s = elim (first_digit s) [ none ↦ some (record { figure = v; rest = s }) | some d ↦ none ]
read_on (suc k) v s =
    elim (first_digit s) [
      | none ↦ some (record { figure = v; rest = s })
      | some d ↦ elim (eqb v 0) [ true ↦ none | false ↦ read_on k (v * 10 + d.figure) d.rest ]
    ]

-- the number of a figure, and what follows its digits, after those of the number v
abbrev whole : ℕ → List ℕ → Figured
whole v s = record { figure = number_from v (digits_of s); rest = drop (length (digits_of s)) s }

on_empty : (k v : ℕ) → read_on k v [] ≡ some (whole v [])
unfolding read_on first_digit digits_of number_from
on_empty zero v = refl
on_empty (suc k) v = refl

on_other : (k v b : ℕ) (s : List ℕ) → is_digit b ≡ false → read_on k v (b ∷ s) ≡ some (record { figure = v; rest = b ∷ s })
unfolding read_on
on_other zero v b s h = rw (first_not b s h, read_on)
on_other (suc k) v b s h = rw (first_not b s h, read_on)

on_digit : (k v b : ℕ) (s : List ℕ) → is_digit b ≡ true → (v ≡ 0 → ⊥) → read_on (suc k) v (b ∷ s) ≡ read_on k (v * 10 + (b - 48)) s
unfolding read_on
on_digit k v b s h p = rw (first_is b s h, ne_eqb v 0 p, read_on)

on_many : (v b : ℕ) (s : List ℕ) → is_digit b ≡ true → read_on zero v (b ∷ s) ≡ none
unfolding read_on
on_many v b s h = rw (first_is b s h, read_on)

-- the digits fit, or there are too many
reads_all : (k v : ℕ) (s : List ℕ) → (v ≡ 0 → ⊥) → length (digits_of s) ≤ k → read_on k v s ≡ some (whole v s)
unfolding number_from
reads_all k v [] p h = on_empty k v
reads_all zero v (b ∷ s) p h =
    elim (cases_Bool (is_digit b)) [
      | inl e ↦ absurd (omega (arith, ap length (digits_of_digit b s e)))
      | inr e ↦ on_other zero v b s e ∙ rw (digits_of_other b s e)
    ]
reads_all (suc k) v (b ∷ s) p h =
    elim (cases_Bool (is_digit b)) [
      | inl e ↦
          let d = digits_of_digit b s e in
          on_digit k v b s e p ∙ reads_all k (v * 10 + (b - 48)) s (λ z. p (omega arith)) (omega (arith, ap length d)) ∙ rw d
      | inr e ↦ on_other (suc k) v b s e ∙ rw (digits_of_other b s e)
    ]

reads_none : (k v : ℕ) (s : List ℕ) → (v ≡ 0 → ⊥) → k < length (digits_of s) → read_on k v s ≡ none
reads_none k v [] p h = unfold digits_of in absurd (omega arith)
reads_none zero v (b ∷ s) p h =
    elim (cases_Bool (is_digit b)) [
      | inl e ↦ on_many v b s e
      | inr e ↦ absurd (omega (arith, ap length (digits_of_other b s e)))
    ]
reads_none (suc k) v (b ∷ s) p h =
    elim (cases_Bool (is_digit b)) [
      | inl e ↦
          on_digit k v b s e p ∙ reads_none k (v * 10 + (b - 48)) s (λ z. p (omega arith)) (omega (arith, ap length (digits_of_digit b s e)))
      | inr e ↦ absurd (omega (arith, ap length (digits_of_other b s e)))
    ]

-- after a first digit 0 no digit may follow
zero_one : (s : List ℕ) → digits_of s ≡ [] → take_figure (48 ∷ s) ≡ some (record { figure = 0; rest = s })
unfolding is_figure number_from is_digit
zero_one s e = let d : digits_of (48 ∷ s) ≡ 48 ∷ [] = digits_of_digit 48 s refl ∙ rw e in take_is (48 ∷ s) (rw d) ∙ rw d

zero_more : (b : ℕ) (s : List ℕ) → is_digit b ≡ true → take_figure (48 ∷ b ∷ s) ≡ none
unfolding is_figure is_digit
zero_more b s e =
    let d : digits_of (48 ∷ b ∷ s) ≡ 48 ∷ b ∷ digits_of s = digits_of_digit 48 (b ∷ s) refl ∙ rw (digits_of_digit b s e) in
    take_not (48 ∷ b ∷ s) (rw (d, eqb-suc-zero (length (digits_of s))) (and-false (leb (suc (length (digits_of s))) 4)))

reads_zero : (s : List ℕ) → read_on 4 0 s ≡ take_figure (48 ∷ s)
unfolding read_on digits_of number_from
reads_zero [] = on_empty 4 0 ∙ sym (zero_one [] refl)
reads_zero (b ∷ s) =
    elim (cases_Bool (is_digit b)) [
      | inl e ↦ rw (first_is b s e, read_on) (sym (zero_more b s e))
      | inr e ↦ on_other 4 0 b s e ∙ sym (zero_one (b ∷ s) (digits_of_other b s e))
    ]

first_whole : (b : ℕ) (s : List ℕ) → is_digit b ≡ true → whole 0 (b ∷ s) ≡ whole (b - 48) s
unfolding number_from
first_whole b s h =
    let n : 0 * 10 + (b - 48) ≡ b - 48 = omega arith in
    rw (digits_of_digit b s h) (ap (λ v. record { figure = number_from v (digits_of s); rest = drop (length (digits_of s)) s }) n)

-- a figure by its first digit
take_digit : (b : ℕ) (s : List ℕ) → is_digit b ≡ true → take_figure (b ∷ s) ≡ read_on 4 (b - 48) s
unfolding is_figure number_from
take_digit b s h =
    let r = digit_range b h in
    let d = digits_of_digit b s h in
    elim (cases_Bool (eqb b 48)) [
      | inl e ↦ let z : b ≡ 48 = eqb-true b 48 e in rw z (sym (reads_zero s))
      | inr e ↦
          let p : b - 48 ≡ 0 → ⊥ = λ z. eqb-false b 48 e (omega arith) in
          elim (cases_lt (length (digits_of s)) 5) [
            | inl few ↦
                take_is (b ∷ s) (rw (d, e, le-leb (length (digits_of s)) 4 (omega arith)) (or_right (eqb (length (digits_of s)) 0) true refl)) ∙ ap some (first_whole b s h) ∙ sym (reads_all 4 (b - 48) s p (omega arith))
            | inr many ↦
                take_not (b ∷ s) (rw (d, lt-leb (length (digits_of s)) 4 (omega arith))) ∙ sym (reads_none 4 (b - 48) s p (omega arith))
          ]
    ]

-- what a first digit says of the text
record First (s : List ℕ) (d : Figured) : Type 0 where
  byte : ℕ
  front : s ≡ byte ∷ d.rest
  digit : is_digit byte ≡ true
  value : d.figure ≡ byte - 48

first_of : (s : List ℕ) (d : Figured) → first_digit s ≡ some d → First s d
first_of [] d h = unfold first_digit in absurd cc
first_of (b ∷ s) d h =
    elim (cases_Bool (is_digit b)) [
      | inl e ↦ let k = first_is b s e in record { byte = b; front = cc; digit = e; value = cc }
      | inr e ↦ let k = first_not b s e in absurd cc
    ]

none_of : (s : List ℕ) → first_digit s ≡ none → digits_of s ≡ []
unfolding digits_of
none_of [] h = refl
none_of (b ∷ s) h =
    elim (cases_Bool (is_digit b)) [ inl e ↦ (let k = first_is b s e in absurd cc) | inr e ↦ digits_of_other b s e ]

pub take_none : (s : List ℕ) → first_digit s ≡ none → take_figure s ≡ none
unfolding is_figure
take_none s h = take_not s (rw (none_of s h))

pub first_small : (s : List ℕ) (d : Figured) → first_digit s ≡ some d → d.figure < 10
first_small s d h = let f = first_of s d h in omega (arith, f.value, digit_range f.byte f.digit)

-- fewer than five digits write a number below ten thousand
pub few_digits : (k v : ℕ) → k < 5 → v < 10 ^ k → v < 10000
few_digits k v h p =
    let q : 10 ^ k ≤ 10000 = pow-le-pow_right (omega arith) (let l : k ≤ 4 = omega arith in l) in
    omega arith

pub take_first : (s : List ℕ) (d : Figured) → first_digit s ≡ some d → take_figure s ≡ read_on 4 d.figure d.rest
take_first s d h =
    let f = first_of s d h in
    ap take_figure f.front ∙ take_digit f.byte d.rest f.digit ∙ ap (λ v. read_on 4 v d.rest) (sym f.value)

-- reading on, by the digit that what is left begins with
module _ (k v : ℕ) (s : List ℕ) where
  pub on_none : first_digit s ≡ none → read_on k v s ≡ some (record { figure = v; rest = s })
  unfolding read_on
  on_none h = by k
    where
      by : (j : ℕ) → read_on j v s ≡ some (record { figure = v; rest = s })
      by zero = rw (h, read_on)
      by (suc j) = rw (h, read_on)

  module _ (d : Figured) (h : first_digit s ≡ some d) where
    pub on_last : k ≡ 0 → read_on k v s ≡ none
    unfolding read_on
    on_last e = rw (e, h, read_on)

    pub on_zero : 0 < k → v ≡ 0 → read_on k v s ≡ none
    unfolding read_on
    on_zero e z = by k e
      where
        by : (j : ℕ) → 0 < j → read_on j v s ≡ none
        by zero p = absurd (omega arith)
        by (suc j) p = rw (h, eq-eqb v 0 z, read_on)

    pub on_more : (j : ℕ) → k ≡ suc j → (v ≡ 0 → ⊥) → read_on k v s ≡ read_on j (v * 10 + d.figure) d.rest
    unfolding read_on
    on_more j e p = rw (e, h, ne_eqb v 0 p, read_on)

-- one digit more is one place more
pub place_more : (v d k : ℕ) → v < 10 ^ k → d < 10 → v * 10 + d < 10 ^ (k + 1)
place_more v d k h p = rw (add-one, pow-suc) (omega arith)

-- what ends the reading of a figure
pub ruleset reading = (take_none, few_digits, on_none, on_zero, on_last)
