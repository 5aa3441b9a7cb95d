-- Laws of lines: a text is its lines with their line feeds, and a line put in front of a text is the first of its lines.
use Rattle.std.specs.Prelude.{Some, None, position}
use Rattle.std.specs.List.{position_or_len}
use Rattle.std.proofs.lemmas.List.{take_rest}
use Rattle.std.proofs.lemmas.Bool.{cases_Bool, cases_lt, and_from}
use Prim.Native.Nat.{ℕ, suc, ◌+◌, ◌-◌, ◌<◌, ◌≤◌}
use mathlib.Core.Path.{◌≡◌, refl, sym, ap, ◌∙◌}
use mathlib.Core.Logic.{inl, inr}
use mathlib.Core.Bool.{Bool, true, false, not}
use mathlib.Core.List.{List, [], ◌∷◌, ◌++◌}
use native.Mathlib.Omega.{arith}
use native.Mathlib.Numerals.{add-one}
use lib.ListN.{length, take, drop}
use lib.Dec.{eqb}
use borrow.Author.Tests.{eqb-true, not-true, lt-ltb, le-ltb}
use Rattle.common.specs.Lists.{all_of}
use Rattle.common.proofs.Lists.{and_left, and_right}
use Rattle.figures.specs.Line.{Lines, left, ◌⏎◌, onto, lines_of, follows}

-- the lines after the first
unfoldable pub after_first : Lines → Lines
after_first (left s) = left s
after_first (l ⏎ ls) = ls

-- whether no byte is a line feed
unfoldable pub one_line : List ℕ → Bool
one_line l = all_of (λ b. not (eqb b 10)) l

-- the text of lines
unfoldable pub text_of : Lines → List ℕ
text_of (left s) = s
text_of (l ⏎ ls) = l ++ (10 ∷ text_of ls)

-- the two cases of a byte: a line feed, or a byte of the first line
pub lines_feed : (b : ℕ) (s : List ℕ) → eqb b 10 ≡ true → lines_of (b ∷ s) ≡ [] ⏎ lines_of s
unfolding lines_of
lines_feed b s h = rw (h, lines_of)

pub lines_byte : (b : ℕ) (s : List ℕ) → eqb b 10 ≡ false → lines_of (b ∷ s) ≡ onto b (lines_of s)
unfolding lines_of
lines_byte b s h = rw (h, lines_of)

pub lines-first : (l s : List ℕ) → one_line l ≡ true → lines_of (l ++ (10 ∷ s)) ≡ l ⏎ lines_of s
unfolding one_line all_of onto
lines-first [] s h = lines_feed 10 s refl
lines-first (b ∷ l) s h =
    let p : eqb b 10 ≡ false = not-true (eqb b 10) (and_left (not (eqb b 10)) (one_line l) h) in
    let q = lines-first l s (and_right (not (eqb b 10)) (one_line l) h) in
    lines_byte b (l ++ (10 ∷ s)) p ∙ ap (onto b) q

text_onto : (b : ℕ) (ls : Lines) → text_of (onto b ls) ≡ b ∷ text_of ls
unfolding text_of onto
text_onto b (left s) = refl
text_onto b (l ⏎ ls) = refl

text_feed : (ls : Lines) → text_of ([] ⏎ ls) ≡ 10 ∷ text_of ls
unfolding text_of
text_feed ls = refl

pub text_lines : (s : List ℕ) → text_of (lines_of s) ≡ s
text_lines [] = unfold lines_of text_of in refl
text_lines (b ∷ s) =
    elim (cases_Bool (eqb b 10)) [
      | inl h ↦ ap text_of (lines_feed b s h) ∙ text_feed (lines_of s) ∙ rw (text_lines s, eqb-true b 10 h)
      | inr h ↦ ap text_of (lines_byte b s h) ∙ text_onto b (lines_of s) ∙ ap (λ (l : List ℕ). b ∷ l) (text_lines s)
    ]

pub follows_none : (ls : Lines) → follows ls ≡ false → ls ≡ left []
unfolding follows
follows_none (left []) h = refl
follows_none (left (b ∷ s)) h = absurd cc
follows_none (l ⏎ ls) h = absurd cc

-- what a first line says of the text: its bytes, the line feed, and a text whose lines are the others
pub record First (s l : List ℕ) (ls : Lines) : Type 0 where
  pub remains : List ℕ
  pub text : s ≡ l ++ (10 ∷ remains)
  pub others : ls ≡ lines_of remains
  pub alone : one_line l ≡ true

onto_first :
    (b : ℕ) (s l : List ℕ) (ls ms : Lines)
    → eqb b 10 ≡ false
    → ((m : List ℕ) (ns : Lines) → ms ≡ m ⏎ ns → First s m ns)
    → onto b ms ≡ l ⏎ ls
    → First (b ∷ s) l ls
unfolding onto one_line all_of
onto_first b s l ls (left r) e first h = absurd cc
onto_first b s l ls (m ⏎ ns) e first h =
    let f = first m ns refl in
    let p : b ∷ m ≡ l = cc in
    let q : ns ≡ ls = cc in
    record {
      remains = f.remains;
      text = ap (λ (r : List ℕ). b ∷ r) f.text ∙ ap (λ (r : List ℕ). r ++ (10 ∷ f.remains)) p;
      others = sym q ∙ f.others;
      alone = ap one_line (sym p) ∙ and_from (not (eqb b 10)) (one_line m) (rw e) f.alone;
    }

pub first_line : (s l : List ℕ) (ls : Lines) → lines_of s ≡ l ⏎ ls → First s l ls
unfolding one_line all_of
first_line [] l ls h = unfold lines_of in absurd cc
first_line (b ∷ s) l ls h =
    elim (cases_Bool (eqb b 10)) [
      | inl e ↦
          let g : [] ⏎ lines_of s ≡ l ⏎ ls = sym (lines_feed b s e) ∙ h in
          let p : [] ≡ l = cc in
          let q : lines_of s ≡ ls = cc in
          let n : b ≡ 10 = eqb-true b 10 e in
          record {
            remains = s;
            text = ap (λ (c : ℕ). c ∷ s) n ∙ ap (λ (r : List ℕ). r ++ (10 ∷ s)) p;
            others = sym q;
            alone = ap one_line (sym p);
          }
      | inr e ↦
          let g : onto b (lines_of s) ≡ l ⏎ ls = sym (lines_byte b s e) ∙ h in
          onto_first b s l ls (lines_of s) e (first_line s) g
    ]

-- the lines of a text by the position of its first line feed
abbrev is_feed : ℕ → Bool
is_feed b = eqb b 10

feed_lines : (s : List ℕ) → position_or_len is_feed s < length s → lines_of s ≡ take (position_or_len is_feed s) s ⏎ lines_of (drop (position_or_len is_feed s + 1) s)
unfolding onto
feed_lines [] h = absurd (omega arith)
feed_lines (b ∷ s) h =
    elim (cases_Bool (eqb b 10)) [
      | inl e ↦ rw (e, lines_feed b s e)
      | inr e ↦
          let n : position_or_len is_feed (b ∷ s) ≡ suc (position_or_len is_feed s) = rw e (omega arith) in
          let k : position_or_len is_feed s < length s = omega arith in
          rw (n, add-one, lines_byte b s e, feed_lines s k, add-one)
    ]

no_feed : (s : List ℕ) → length s ≤ position_or_len is_feed s → lines_of s ≡ left s
unfolding onto lines_of
no_feed [] h = refl
no_feed (b ∷ s) h =
    elim (cases_Bool (eqb b 10)) [
      | inl e ↦ let n : position_or_len is_feed (b ∷ s) ≡ 0 = rw e in absurd (omega arith)
      | inr e ↦
          let n : position_or_len is_feed (b ∷ s) ≡ 1 + position_or_len is_feed s = rw e in
          let k : length s ≤ position_or_len is_feed s = omega arith in
          lines_byte b s e ∙ ap (onto b) (no_feed s k)
    ]

pub line_none : (s : List ℕ) → None ≡ position is_feed s → lines_of s ≡ left s
line_none s h =
    elim (cases_lt (position_or_len is_feed s) (length s)) [
      | inl k ↦ absurd (let e = rw (lt-ltb _ _ k) at h in cc)
      | inr k ↦ no_feed s k
    ]

pub line_found : (s : List ℕ) (i : ℕ) → Some i ≡ position is_feed s → (i < length s) × (lines_of s ≡ take i s ⏎ lines_of (take (length s - (i + 1)) (drop (i + 1) s)))
line_found s i h =
    elim (cases_lt (position_or_len is_feed s) (length s)) [
      | inl k ↦
          let e = rw (lt-ltb _ _ k) at h in
          let n : i ≡ position_or_len is_feed s = cc in
          (rw n k, rw (n, take_rest) (feed_lines s k))
      | inr k ↦ absurd (let e = rw (le-ltb _ _ k) at h in cc)
    ]
