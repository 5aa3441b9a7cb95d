-- Bytes written at a position, and a figure written digit by digit, the last first.
use Prim.Native.Nat.{ℕ, zero, suc, ◌+◌, ◌-◌, ◌/◌, ◌%◌, ◌<◌, ◌≤◌}
use mathlib.Core.Path.{◌≡◌, refl, sym, ap, ◌∙◌}
use mathlib.Core.Bool.{true, false}
use mathlib.Core.Logic.{inl, inr}
use mathlib.Core.List.{List, [], ◌∷◌, ◌++◌, append_assoc, append-nil}
use native.Mathlib.Omega.{arith}
use native.Mathlib.Numerals.{add-one}
use lib.ListN.{length, take, drop, set, length-append, length-drop, length-set, take-append-drop, drop_of_length-le, get_or}
use lib.Seq.{drop-drop, take_at, drop-append-add, length-take-le, set_split, take-suc}
use lib.Dec.{ltb}
use borrow.Rule.Slice.PartMut.{put_mid}
use borrow.Author.Tests.{lt-ltb, le-ltb}
use Rattle.std.proofs.lemmas.Bool.{cases_Bool, cases_lt}
use Rattle.std.proofs.lemmas.List.{drop-replicate, drop-set}
use Rattle.common.specs.Lists.{zeros, padded}
use Rattle.figures.specs.Figure.{digits, decimal}
use Rattle.figures.specs.Position.{splice}
use Rattle.figures.proofs.Decimals.{digits_one, digits_more, digits-length}

module _ (s : List ℕ) (at : ℕ) where
  -- what is written changes no length
  pub length-splice : (w : List ℕ) → at + length w ≤ length s → length (splice s at w) ≡ length s
  unfolding splice
  length-splice w h = simp (length-append, length-take-le at s (omega arith), length-drop) (omega arith)

  -- two writings, the second where the first ends, are one
  pub splice-splice : (u w : List ℕ) → at ≤ length s → splice (splice s at u) (at + length u) w ≡ splice s at (u ++ w)
  unfolding splice
  splice-splice u w h =
      let p : length (take at s ++ u) ≡ at + length u = simp (length-append, length-take-le at s h) in
      let d : List ℕ = drop (at + length u) s in
      let e : at + length u + length w ≡ at + length (u ++ w) = simp length-append (omega arith) in
      let q : drop (at + length u + length w) (take at s ++ u ++ d) ≡ drop (at + length (u ++ w)) s =
      ap (λ (k : ℕ). drop (k + length w) (take at s ++ u ++ d)) (sym p)
      ∙ drop-append-add (take at s ++ u) d (length w)
      ∙ drop-drop (length w) (at + length u) s
      ∙ ap (λ (k : ℕ). drop k s) e
      in
      rw (take_at (take at s ++ u) d (at + length u) p, q, append_assoc (take at s) u w)

module _ (s : List ℕ) where
  -- nothing written
  pub splice_nil : (at : ℕ) → splice s at [] ≡ s
  unfolding splice
  splice_nil at = let e : at + 0 ≡ at = omega arith in rw (e, append-nil) (take-append-drop at s)

  -- one byte written
  pub splice_one : (at b : ℕ) → at < length s → set s at b ≡ splice s at (b ∷ [])
  unfolding splice
  splice_one at b h =
      let e : at + 1 ≡ suc at = add-one at in
      set_split s at b h ∙ rw e (sym (append_assoc (take at s) (b ∷ []) (drop (suc at) s)))

-- the first j bytes of a word are written: one more
pub splice_more : (s w : List ℕ) (at j : ℕ) → at + length w ≤ length s → j < length w → set (splice s at (take j w)) (at + j) (get_or w j 0) ≡ splice s at (take (j + 1) w)
splice_more s w at j h k =
    let l : length (take j w) ≡ j = length-take-le j w (omega arith) in
    let n : length (splice s at (take j w)) ≡ length s = length-splice s at (take j w) (omega arith) in
    splice_one (splice s at (take j w)) (at + j) (get_or w j 0) (omega arith)
    ∙ ap (λ (m : ℕ). splice (splice s at (take j w)) (at + m) (get_or w j 0 ∷ [])) (sym l)
    ∙ splice-splice s at (take j w) (get_or w j 0 ∷ []) (omega arith)
    ∙ ap (splice s at) (sym (take-suc w j 0 k) ∙ ap (λ (m : ℕ). take m w) (sym (add-one j)))

-- a text written at the start of zeros
pub splice-zeros : (room : ℕ) (w : List ℕ) → splice (zeros room) 0 w ≡ padded room w
unfolding splice padded
splice-zeros room w = let e : 0 + length w ≡ length w = omega arith in rw (e, drop-replicate)

-- a slice of as many bytes as a word, filled with it
pub put_splice : (s w x : List ℕ) (at n : ℕ) → x ≡ w → n ≡ length w → put_mid at n s x ≡ splice s at w
unfolding splice
put_splice s w x at n e h =
    let d : drop (at + length w) s ≡ drop n (drop at s) = rw h (sym (drop-drop (length w) at s)) in
    rw (e, d) (sym (append_assoc (take at s) w (drop n (drop at s))))

-- the last k digits of n, in front of a text
unfoldable last : ℕ → ℕ → List ℕ → List ℕ
last zero n s = s
last (suc k) n s = last k (n / 10) ((48 + n % 10) ∷ s)

-- how many digits `digits` writes
unfoldable count : ℕ → ℕ → ℕ
count zero n = 0
count (suc k) n = elim (ltb n 10) [ true ↦ 1 | false ↦ suc (count k (n / 10)) ]

count_one : (k n : ℕ) → n < 10 → count (suc k) n ≡ 1
unfolding count
count_one k n h = rw (lt-ltb n 10 h, count)

count_more : (k n : ℕ) → 10 ≤ n → count (suc k) n ≡ suc (count k (n / 10))
unfolding count
count_more k n h = rw (le-ltb n 10 h, count)

count_last : (n : ℕ) → count 1 n ≡ 1
unfolding count
count_last n = elim (cases_Bool (ltb n 10)) [ inl e ↦ rw (e, count) | inr e ↦ rw (e, count) ]

digits_last : (k n : ℕ) (s : List ℕ) → digits k n s ≡ last (count k n) n s
unfolding last count digits
digits_last zero n s = refl
digits_last (suc k) n s =
    elim (cases_lt n 10) [
      | inl h ↦ let e : 48 + n ≡ 48 + n % 10 = omega arith in digits_one k n s h ∙ rw (count_one k n h, ← e)
      | inr h ↦ digits_more k n s h ∙ digits_last k (n / 10) ((48 + n % 10) ∷ s) ∙ rw (count_more k n h)
    ]

length_last : (k n : ℕ) (s : List ℕ) → length (last k n s) ≡ k + length s
unfolding last
length_last zero n s = omega arith
length_last (suc k) n s = length_last k (n / 10) ((48 + n % 10) ∷ s) ∙ omega arith

-- the length of a figure, by the size of the number
length-decimal : (n : ℕ) → length (decimal n) ≡ count 5 n
unfolding decimal
length-decimal n = ap length (digits_last 5 n []) ∙ length_last (count 5 n) n [] ∙ omega arith

module _ (n : ℕ) where
  pub length_most : length (decimal n) ≤ 5
  unfolding decimal
  length_most = digits-length 5 n []

  pub length_one : n < 10 → length (decimal n) ≡ 1
  length_one h = length-decimal n ∙ count_one 4 n h

  pub length_two : 10 ≤ n → n < 100 → length (decimal n) ≡ 2
  length_two h k = length-decimal n ∙ count_more 4 n h ∙ ap suc (count_one 3 (n / 10) (omega arith))

  pub length_three : 100 ≤ n → n < 1000 → length (decimal n) ≡ 3
  length_three h k =
      length-decimal n ∙ count_more 4 n (omega arith) ∙ ap suc (count_more 3 (n / 10) (omega arith) ∙ ap suc (count_one 2 (n / 10 / 10) (omega arith)))

  pub length_four : 1000 ≤ n → n < 10000 → length (decimal n) ≡ 4
  length_four h k =
      length-decimal n
      ∙ count_more 4 n (omega arith)
      ∙ ap suc (count_more 3 (n / 10) (omega arith) ∙ ap suc (count_more 2 (n / 10 / 10) (omega arith) ∙ ap suc (count_one 1 (n / 10 / 10 / 10) (omega arith))))

  pub length_five : 10000 ≤ n → length (decimal n) ≡ 5
  length_five h =
      length-decimal n
      ∙ count_more 4 n (omega arith)
      ∙ ap suc (count_more 3 (n / 10) (omega arith)
      ∙ ap suc (count_more 2 (n / 10 / 10) (omega arith)
      ∙ ap suc (count_more 1 (n / 10 / 10 / 10) (omega arith) ∙ ap suc (count_last (n / 10 / 10 / 10 / 10)))))

pub ruleset lengths = (length_one, length_two, length_three, length_four, length_five)

-- the last k digits of n stored into the first k places, the last first
unfoldable pub fill : ℕ → ℕ → List ℕ → List ℕ
fill zero n s = s
fill (suc k) n s = fill k (n / 10) (set s k (48 + n % 10))

fill_first : (k n : ℕ) (s : List ℕ) → fill (suc k) n s ≡ fill k (n / 10) (set s k (48 + n % 10))
unfolding fill
fill_first k n s = refl

pub fill_step : (i n : ℕ) (s : List ℕ) → 0 < i → fill i n s ≡ fill (i - 1) (n / 10) (set s (i - 1) (48 + n % 10))
fill_step i n s h =
    let e : i ≡ suc (i - 1) = omega arith in
    ap (λ k. fill k n s) e ∙ fill_first (i - 1) n s

pub fill_done : (k n : ℕ) (s : List ℕ) → k ≤ 0 → fill k n s ≡ s
unfolding fill
fill_done zero n s h = refl
fill_done (suc k) n s h = absurd (omega arith)

last-append : (k n : ℕ) (s : List ℕ) → last k n s ≡ last k n [] ++ s
unfolding last
last-append zero n s = refl
last-append (suc k) n s =
    last-append k (n / 10) ((48 + n % 10) ∷ s)
    ∙ sym (ap (λ (l : List ℕ). l ++ s) (last-append k (n / 10) ((48 + n % 10) ∷ [])) ∙ append_assoc (last k (n / 10) []) ((48 + n % 10) ∷ []) s)

fill_last : (k n : ℕ) (s : List ℕ) → k ≤ length s → fill k n s ≡ last k n [] ++ drop k s
unfolding fill last
fill_last zero n s h = refl
fill_last (suc k) n s h =
    let b : ℕ = 48 + n % 10 in
    let l : k ≤ length (set s k b) = simp length-set (omega arith) in
    fill_last k (n / 10) (set s k b) l
    ∙ rw (drop-set s k b h, add-one, last-append k (n / 10) (b ∷ [])) (sym (append_assoc (last k (n / 10) []) (b ∷ []) (drop (suc k) s)))

decimal_last : (n : ℕ) → decimal n ≡ last (length (decimal n)) n []
unfolding decimal
decimal_last n = digits_last 5 n [] ∙ ap (λ (k : ℕ). last k n []) (sym (length-decimal n))

-- storing as many digits as a figure has writes the figure at the front
pub fill_decimal :
    (k n : ℕ) (s : List ℕ)
    → k ≡ length (decimal n)
    → length (decimal n) ≤ length s
    → fill k n s ≡ decimal n ++ drop (length (decimal n)) s
fill_decimal k n s e h =
    let d : fill (length (decimal n)) n s ≡ last (length (decimal n)) n [] ++ drop (length (decimal n)) s = fill_last (length (decimal n)) n s h in
    ap (λ k. fill k n s) e ∙ d ∙ ap (λ (l : List ℕ). l ++ drop (length (decimal n)) s) (sym (decimal_last n))

-- the figures of one digit and of two
pub one_digit : (n : ℕ) (s : List ℕ) → n < 10 → length (decimal n) ≤ length s → set s 0 (48 + n) ≡ decimal n ++ drop (length (decimal n)) s
unfolding fill
one_digit n s h k =
    let d : set s 0 (48 + n % 10) ≡ decimal n ++ drop (length (decimal n)) s = fill_decimal 1 n s (sym (length_one n h)) k in
    let e : 48 + n ≡ 48 + n % 10 = omega arith in
    ap (set s 0) e ∙ d

pub two_digits :
    (n : ℕ) (s : List ℕ)
    → 10 ≤ n
    → n < 100
    → length (decimal n) ≤ length s
    → set (set s 1 (48 + n % 10)) 0 (48 + n / 10) ≡ decimal n ++ drop (length (decimal n)) s
unfolding fill
two_digits n s g h k =
    let d : set (set s 1 (48 + n % 10)) 0 (48 + n / 10 % 10) ≡ decimal n ++ drop (length (decimal n)) s = fill_decimal 2 n s (sym (length_two n g h)) k in
    let e : 48 + n / 10 ≡ 48 + n / 10 % 10 = omega arith in
    ap (set (set s 1 (48 + n % 10)) 0) e ∙ d

-- a slice that is just filled by what is written at its front
pub front_whole : (s w : List ℕ) → length s ≡ length w → w ++ drop (length w) s ≡ w
front_whole s w h = ap (λ (l : List ℕ). w ++ l) (drop_of_length-le s (omega arith)) ∙ append-nil w
