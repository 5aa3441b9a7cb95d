-- Laws of templates: the values that fit a template are read back from the line that they write, and a line that has values is the
-- line that these write.
use Prim.Native.Nat.{ℕ, zero, suc, ◌+◌, ◌≤◌, ◌<◌}
use Prim.Native.String.{String}
use mathlib.Core.Path.{◌≡◌, refl, sym, ap, ◌∙◌}
use mathlib.Core.Logic.{◌⊎◌, inl, inr}
use mathlib.Core.Bool.{Bool, true, false, not, ◌&&◌}
use mathlib.Core.Option.{Option, some, none, map}
use mathlib.Core.List.{List, [], ◌∷◌, ◌++◌, append_assoc}
use native.Mathlib.Omega.{arith}
use lib.ListN.{get_or, drop}
use lib.Seq.{get_or-drop, drop-drop}
use lib.Dec.{eqb}
use borrow.Author.Tests.{eqb-true, eqb-false, ne_eqb}
use Rattle.std.proofs.lemmas.Bool.{cases_Bool, cases_lt, and_from}
use Rattle.common.specs.Lists.{all_of}
use Rattle.common.specs.Outcome.{Outcome, done, refused}
use Rattle.common.proofs.Lists.{and_left, and_right, all_of_append}
use Rattle.common.proofs.Within.{EndsWithin, ends_done, not_the_form}
use Rattle.figures.specs.Bytes.{bytes, after}
use Rattle.figures.specs.Figure.{Figured, is_digit, take_figure, decimal}
use Rattle.figures.specs.Line.{Lines, left, ◌⏎◌, lines_of}
use Rattle.figures.proofs.Decimals.{no_digit_first, takes_decimal, decimal_taken, decimal-bytes}
use Rattle.figures.proofs.Digits.{digit_range}
use Rattle.figures.proofs.Line.{one_line, first_line, lines-first}
use Rattle.figures.proofs.Words.{after_front, after_taken}
use Rattle.forms.specs.Template.{Template, word, figure, label, label_of, letter_of, values, written, line}
use Rattle.forms.specs.Due.{Taken, due}
use Rattle.forms.specs.Forms.{
  job_form,
  one_form,
  node_form,
  out_form,
  end_form,
  crossbar_form,
  on_form,
  yes_form,
  no_form,
  refused_form,
  rounds_form,
  reads_form,
  set_figures,
  set_form,
}

-- the values fit the template: one below 100000 for each figure, one of 1 to 3 for each label, and no others
unfoldable pub FitsTemplate : Template → List ℕ → Type 0
FitsTemplate [] [] = Unit
FitsTemplate [] (v ∷ vs) = ⊥
FitsTemplate (word w ∷ t) vs = FitsTemplate t vs
FitsTemplate (figure ∷ t) [] = ⊥
FitsTemplate (figure ∷ t) (v ∷ vs) = (v < 100000) × FitsTemplate t vs
FitsTemplate (label ∷ t) [] = ⊥
FitsTemplate (label ∷ t) (v ∷ vs) = (1 ≤ v) × (v ≤ 3) × FitsTemplate t vs

-- whether a word is not empty and begins with no digit
unfoldable pub parts : List ℕ → Bool
parts [] = false
parts (b ∷ s) = not (is_digit b)

-- whether a figure may stand in front: nothing follows, or a word that begins with no digit
unfoldable pub closes : Template → Bool
closes [] = true
closes (word w ∷ t) = parts (bytes w)
closes (figure ∷ t) = false
closes (label ∷ t) = false

-- whether each figure ends where its digits end, and no word holds a line feed
unfoldable pub apart : Template → Bool
apart [] = true
apart (word w ∷ t) = one_line (bytes w) && apart t
apart (figure ∷ t) = closes t && apart t
apart (label ∷ t) = apart t

-- each line of document 01 is such a template
pub job_apart : apart job_form ≡ true
unfolding job_form apart closes parts bytes one_line all_of is_digit
job_apart = refl

pub one_apart : apart one_form ≡ true
unfolding one_form apart closes parts bytes one_line all_of is_digit
one_apart = refl

pub node_apart : apart node_form ≡ true
unfolding node_form apart closes parts bytes one_line all_of is_digit
node_apart = refl

pub out_apart : apart out_form ≡ true
unfolding out_form apart closes parts bytes one_line all_of is_digit
out_apart = refl

pub end_apart : apart end_form ≡ true
unfolding end_form apart closes parts bytes one_line all_of is_digit
end_apart = refl

pub crossbar_apart : apart crossbar_form ≡ true
unfolding crossbar_form apart closes parts bytes one_line all_of is_digit
crossbar_apart = refl

pub on_apart : apart on_form ≡ true
unfolding on_form apart closes parts bytes one_line all_of is_digit
on_apart = refl

pub yes_apart : apart yes_form ≡ true
unfolding yes_form apart closes parts bytes one_line all_of is_digit
yes_apart = refl

pub no_apart : apart no_form ≡ true
unfolding no_form apart closes parts bytes one_line all_of is_digit
no_apart = refl

pub refused_apart : apart refused_form ≡ true
unfolding refused_form apart closes parts bytes one_line all_of is_digit
refused_apart = refl

pub rounds_apart : apart rounds_form ≡ true
unfolding rounds_form apart closes parts bytes one_line all_of is_digit
rounds_apart = refl

pub reads_apart : apart reads_form ≡ true
unfolding reads_form apart closes parts bytes one_line all_of is_digit
reads_apart = refl

set_closes : (n : ℕ) → closes (set_figures n) ≡ true
unfolding set_figures closes parts bytes is_digit
set_closes zero = refl
set_closes (suc n) = refl

set_figures_apart : (n : ℕ) → apart (set_figures n) ≡ true
unfolding set_figures apart closes parts bytes one_line all_of is_digit
set_figures_apart zero = refl
set_figures_apart (suc n) = and_from (closes (set_figures n)) (apart (set_figures n)) (set_closes n) (set_figures_apart n)

pub set_apart : (n : ℕ) → apart (set_form n) ≡ true
unfolding set_form apart bytes one_line all_of
set_apart n = set_figures_apart n

-- a label and its letter
pub letter_label : (v : ℕ) → 1 ≤ v → v ≤ 3 → label_of (letter_of v) ≡ v
letter_label v low high =
    elim (cases_lt v 2) [
      | inl h ↦ let e : v ≡ 1 = omega arith in rw e (unfold label_of letter_of in refl)
      | inr k ↦
          elim (cases_lt v 3) [
            | inl h ↦ let e : v ≡ 2 = omega arith in rw e (unfold label_of letter_of in refl)
            | inr h ↦ let e : v ≡ 3 = omega arith in rw e (unfold label_of letter_of in refl)
          ]
    ]

label_cases : (b : ℕ) → eqb (label_of b) 0 ≡ false → (b ≡ 104) ⊎ (b ≡ 118) ⊎ (b ≡ 98)
unfolding label_of
label_cases b h =
    elim (cases_Bool (eqb b 104)) [
      | inl e ↦ inl (eqb-true b 104 e)
      | inr e ↦
          elim (cases_Bool (eqb b 118)) [
            | inl f ↦ inr (inl (eqb-true b 118 f))
            | inr f ↦
                elim (cases_Bool (eqb b 98)) [
                  | inl g ↦ inr (inr (eqb-true b 98 g))
                  | inr g ↦
                      let z : label_of b ≡ 0 = rw (e, f, g, label_of) in
                      absurd (eqb-false (label_of b) 0 h z)
                ]
          ]
    ]

pub label_letter : (b : ℕ) → eqb (label_of b) 0 ≡ false → (letter_of (label_of b) ≡ b) × (1 ≤ label_of b) × (label_of b ≤ 3)
unfolding label_of letter_of
label_letter b h =
    elim (label_cases b h) [
      | inl e ↦ rw e (refl, omega arith, omega arith)
      | inr other ↦ elim other [ inl e ↦ rw e (refl, omega arith, omega arith) | inr e ↦ rw e (refl, omega arith, omega arith) ]
    ]

-- the step of a template at each item, and what its values say of that item
pub values_word : (w : String) (t : Template) (s r : List ℕ) → after (bytes w) s ≡ some r → values (word w ∷ t) s ≡ values t r
unfolding values
values_word w t s r h = rw (h, values)

pub values_figure :
    (t : Template) (s : List ℕ) (f : Figured)
    → take_figure s ≡ some f
    → values (figure ∷ t) s ≡ map (λ vs. f.figure ∷ vs) (values t f.rest)
unfolding values
values_figure t s f h = rw (h, values)

pub word_none : (w : String) (t : Template) (s : List ℕ) → after (bytes w) s ≡ none → values (word w ∷ t) s ≡ none
unfolding values
word_none w t s h = rw (h, values)

pub figure_none : (t : Template) (s : List ℕ) → take_figure s ≡ none → values (figure ∷ t) s ≡ none
unfolding values
figure_none t s h = rw (h, values)

values_label :
    (t : Template) (b : ℕ) (s : List ℕ)
    → eqb (label_of b) 0 ≡ false
    → values (label ∷ t) (b ∷ s) ≡ map (λ vs. label_of b ∷ vs) (values t s)
unfolding values
values_label t b s h = rw (h, values)

word_from :
    (t : Template) (o : Option (List ℕ)) (vs : List ℕ)
    → ◌≡◌ {A = Option (List ℕ)} (elim o [ none ↦ none | some rest ↦ values t rest ]) (some vs)
    → (r : List ℕ) × (o ≡ some r) × (values t r ≡ some vs)
word_from t none vs h = absurd cc
word_from t (some r) vs h = (r, refl, h)

pub word_values :
    (w : String) (t : Template) (s vs : List ℕ)
    → values (word w ∷ t) s ≡ some vs
    → (r : List ℕ) × (after (bytes w) s ≡ some r) × (values t r ≡ some vs)
unfolding values
word_values w t s vs h = word_from t (after (bytes w) s) vs h

figure_from :
    (t : Template) (o : Option Figured) (us : List ℕ)
    → ◌≡◌ {A = Option (List ℕ)}
    (elim o [ none ↦ none | some f ↦ map (λ vs. f.figure ∷ vs) (values t f.rest) ])
    (some us)
    → (f : Figured) × (o ≡ some f) × (map (λ vs. f.figure ∷ vs) (values t f.rest) ≡ some us)
figure_from t none us h = absurd cc
figure_from t (some f) us h = (f, refl, h)

figure_values :
    (t : Template) (s us : List ℕ)
    → values (figure ∷ t) s ≡ some us
    → (f : Figured) × (take_figure s ≡ some f) × (map (λ vs. f.figure ∷ vs) (values t f.rest) ≡ some us)
unfolding values
figure_values t s us h = figure_from t (take_figure s) us h

nothing_values : (vs : List ℕ) → values [] [] ≡ some vs → [] ≡ vs
unfolding values
nothing_values vs h = cc

label_none : (t : Template) (b : ℕ) (s : List ℕ) → eqb (label_of b) 0 ≡ true → values (label ∷ t) (b ∷ s) ≡ none
unfolding values
label_none t b s h = rw (h, values)

label_empty : (t : Template) → values (label ∷ t) [] ≡ none
unfolding values
label_empty t = refl

-- the first of the values and the others
more_values :
    (v : ℕ) (o : Option (List ℕ)) (us : List ℕ)
    → map (λ vs. v ∷ vs) o ≡ some us
    → (vs : List ℕ) × (o ≡ some vs) × (us ≡ v ∷ vs)
more_values v none us h = absurd cc
more_values v (some vs) us h = (vs, refl, cc)

pub parts_front : (w s : List ℕ) → parts w ≡ true → no_digit_first (w ++ s) ≡ true
unfolding parts no_digit_first
parts_front [] s h = absurd cc
parts_front (b ∷ w) s h = h

-- what closes a figure begins with no digit
closes_written : (t : Template) (vs : List ℕ) → closes t ≡ true → no_digit_first (written t vs) ≡ true
unfolding closes written no_digit_first
closes_written [] vs h = refl
closes_written (word w ∷ t) vs h = parts_front (bytes w) (written t vs) h
closes_written (figure ∷ t) vs h = absurd cc
closes_written (label ∷ t) vs h = absurd cc

-- a figure or a label in front of a line is read back
figure_front :
    (t : Template) (v : ℕ) (vs : List ℕ)
    → apart (figure ∷ t) ≡ true
    → v < 100000
    → values (figure ∷ t) (decimal v ++ written t vs) ≡ map (λ us. v ∷ us) (values t (written t vs))
unfolding apart
figure_front t v vs a p =
    values_figure t (decimal v ++ written t vs) (record { figure = v; rest = written t vs })
    (takes_decimal v (written t vs) p (closes_written t vs (and_left (closes t) (apart t) a)))

label_front :
    (t : Template) (v : ℕ) (vs : List ℕ)
    → 1 ≤ v
    → v ≤ 3
    → values (label ∷ t) (letter_of v ∷ written t vs) ≡ map (λ us. v ∷ us) (values t (written t vs))
label_front t v vs low high =
    let e = letter_label v low high in
    let n : eqb (label_of (letter_of v)) 0 ≡ false =
    ne_eqb (label_of (letter_of v)) 0 (λ (z : label_of (letter_of v) ≡ 0). omega arith) in
    values_label t (letter_of v) (written t vs) n ∙ rw e

pub values-written : (t : Template) (vs : List ℕ) → apart t ≡ true → FitsTemplate t vs → values t (written t vs) ≡ some vs
unfolding FitsTemplate apart written
values-written [] [] a f = unfold values in refl
values-written [] (v ∷ vs) a f = absurd f
values-written (word w ∷ t) vs a f =
    values_word w t (bytes w ++ written t vs) (written t vs) (after_front (bytes w) (written t vs))
    ∙ values-written t vs (and_right (one_line (bytes w)) (apart t) a) f
values-written (figure ∷ t) [] a f = absurd f
values-written (figure ∷ t) (v ∷ vs) a f =
    figure_front t v vs a f.0 ∙ rw (values-written t vs (and_right (closes t) (apart t) a) f.1)
values-written (label ∷ t) [] a f = absurd f
values-written (label ∷ t) (v ∷ vs) a f = label_front t v vs f.0 f.1 ∙ rw (values-written t vs a f.2)

pub written-values : (t : Template) (l vs : List ℕ) → values t l ≡ some vs → (l ≡ written t vs) × FitsTemplate t vs
unfolding FitsTemplate written
written-values [] [] vs h = let e : [] ≡ vs = nothing_values vs h in rw (← e) (refl, tt)
written-values [] (b ∷ l) vs h = unfold values in absurd cc
written-values (word w ∷ t) l vs h =
    let m = word_values w t l vs h in
    let k = written-values t m.0 vs m.2 in
    (after_taken (bytes w) l m.0 m.1 ∙ ap (λ (r : List ℕ). bytes w ++ r) k.0, k.1)
written-values (figure ∷ t) l us h =
    let m = figure_values t l us h in
    let f : Figured = m.0 in
    let d = decimal_taken l f m.1 in
    let n = more_values f.figure (values t f.rest) us m.2 in
    let k = written-values t f.rest n.0 n.1 in
    rw n.2
    (d.0 ∙ ap (λ (r : List ℕ). decimal f.figure ++ r) k.0, (d.1, k.1))
written-values (label ∷ t) [] us h =
    let e = label_empty t in absurd cc
written-values (label ∷ t) (b ∷ l) us h =
    elim (cases_Bool (eqb (label_of b) 0)) [
      | inl z ↦ let e = label_none t b l z in absurd cc
      | inr z ↦
          let n = more_values (label_of b) (values t l) us (sym (values_label t b l z) ∙ h) in
          let k = written-values t l n.0 n.1 in
          let c = label_letter b z in
          rw n.2
          (ap (λ (a : ℕ). a ∷ l) (sym c.0) ∙ ap (λ (r : List ℕ). letter_of (label_of b) ∷ r) k.0, (c.1, c.2, k.1))
    ]

-- the line holds no line feed
one_line-append : (l s : List ℕ) → one_line l ≡ true → one_line s ≡ true → one_line (l ++ s) ≡ true
unfolding one_line
one_line-append l s h k = all_of_append (λ b. not (eqb b 10)) l s h k

digits-line : (ds : List ℕ) → all_of is_digit ds ≡ true → one_line ds ≡ true
unfolding one_line all_of
digits-line [] h = refl
digits-line (b ∷ ds) h =
    let low : 48 ≤ b = (digit_range b (and_left (is_digit b) (all_of is_digit ds) h)).0 in
    let e : eqb b 10 ≡ false = ne_eqb b 10 (λ (z : b ≡ 10). omega arith) in
    and_from (not (eqb b 10)) (one_line ds) (rw e) (digits-line ds (and_right (is_digit b) (all_of is_digit ds) h))

letter_line : (v : ℕ) → 1 ≤ v → v ≤ 3 → eqb (letter_of v) 10 ≡ false
letter_line v low high =
    ne_eqb (letter_of v) 10
    (λ (z : letter_of v ≡ 10).
    let n : label_of 10 ≡ 0 = unfold label_of in refl in
    omega (arith, n, ap label_of z, letter_label v low high))

letter_more : (b : ℕ) (s : List ℕ) → eqb b 10 ≡ false → one_line s ≡ true → one_line (b ∷ s) ≡ true
unfolding one_line all_of
letter_more b s e h = and_from (not (eqb b 10)) (one_line s) (rw e) h

pub written-line : (t : Template) (vs : List ℕ) → apart t ≡ true → FitsTemplate t vs → one_line (written t vs) ≡ true
unfolding FitsTemplate apart written
written-line [] [] a f = unfold one_line all_of in refl
written-line [] (v ∷ vs) a f = absurd f
written-line (word w ∷ t) vs a f =
    one_line-append (bytes w) (written t vs) (and_left (one_line (bytes w)) (apart t) a)
    (written-line t vs (and_right (one_line (bytes w)) (apart t) a) f)
written-line (figure ∷ t) [] a f = absurd f
written-line (figure ∷ t) (v ∷ vs) a f =
    one_line-append (decimal v) (written t vs) (digits-line (decimal v) (decimal-bytes v f.0))
    (written-line t vs (and_right (closes t) (apart t) a) f.1)
written-line (label ∷ t) [] a f = absurd f
written-line (label ∷ t) (v ∷ vs) a f =
    letter_more (letter_of v) (written t vs) (letter_line v f.0 f.1) (written-line t vs a f.2)

-- the line due, taken from lines
pub due_is :
    (t : Template) (n : ℕ) (l vs : List ℕ) (ls : Lines)
    → values t l ≡ some vs
    → due t n (l ⏎ ls) ≡ done (record { vals = vs; later = ls })
unfolding due
due_is t n l vs ls h = rw (h, due)

due_from :
    (n : ℕ) (v : Option (List ℕ)) (ls : Lines) (o : Taken)
    → ◌≡◌ {A = Outcome Taken} (elim v [ none ↦ refused 1 n | some vs ↦ done (record { vals = vs; later = ls }) ]) (done o)
    → (v ≡ some o.vals) × (ls ≡ o.later)
due_from n none ls o h = absurd cc
due_from n (some vs) ls o h =
    let e : record { vals = vs; later = ls } ≡ o = cc in
    (ap (λ (p : Taken). some p.vals) e, ap (λ (p : Taken). p.later) e)

pub due-line :
    (t : Template) (n : ℕ) (ls : Lines) (o : Taken)
    → due t n ls ≡ done o
    → (l : List ℕ) × (ls ≡ l ⏎ o.later) × (values t l ≡ some o.vals)
unfolding due
due-line t n (left s) o h = absurd cc
due-line t n (l ⏎ ls) o h =
    let d = due_from n (values t l) ls o h in
    (l, ap (λ (ms : Lines). l ⏎ ms) d.1, d.0)

pub due_fits : (t : Template) (n : ℕ) (ls : Lines) (o : Taken) → due t n ls ≡ done o → FitsTemplate t o.vals
due_fits t n ls o h = let d = due-line t n ls o h in (written-values t d.0 o.vals d.2).1

-- the line due, where a text begins with it
pub due-written :
    (t : Template) (vs : List ℕ) (n : ℕ) (s : List ℕ)
    → apart t ≡ true
    → FitsTemplate t vs
    → due t n (lines_of (line t vs ++ s)) ≡ done (record { vals = vs; later = lines_of s })
unfolding line
due-written t vs n s a f =
    let e : (written t vs ++ (10 ∷ [])) ++ s ≡ written t vs ++ (10 ∷ s) = append_assoc (written t vs) (10 ∷ []) s in
    ap (λ (r : List ℕ). due t n (lines_of r)) e
    ∙ ap (due t n) (lines-first (written t vs) s (written-line t vs a f))
    ∙ due_is t n (written t vs) vs (lines_of s) (values-written t vs a f)

-- a text whose first line was taken as the line due begins with the line of the values
pub due_taken :
    (t : Template) (n : ℕ) (s : List ℕ) (o : Taken)
    → due t n (lines_of s) ≡ done o
    → (rest : List ℕ) × (s ≡ line t o.vals ++ rest) × (o.later ≡ lines_of rest) × FitsTemplate t o.vals
unfolding line
due_taken t n s o h =
    let d = due-line t n (lines_of s) o h in
    let f = first_line s d.0 o.later d.1 in
    let w = written-values t d.0 o.vals d.2 in
    let e : (written t o.vals ++ (10 ∷ [])) ++ f.remains ≡ written t o.vals ++ (10 ∷ f.remains) =
    append_assoc (written t o.vals) (10 ∷ []) f.remains in
    (f.remains, f.text ∙ ap (λ (r : List ℕ). r ++ (10 ∷ f.remains)) w.0 ∙ sym e, f.others, w.1)

-- The values of a line by their places.

-- as many entries as the template has values, from place i on
unfoldable pub entries : Template → ℕ → List ℕ → List ℕ
entries [] i vs = []
entries (word w ∷ t) i vs = entries t i vs
entries (figure ∷ t) i vs = get_or vs i 0 ∷ entries t (suc i) vs
entries (label ∷ t) i vs = get_or vs i 0 ∷ entries t (suc i) vs

-- the bounds of these entries
unfoldable pub ValueWithin : Template → ℕ → List ℕ → Type 0
ValueWithin [] i vs = Unit
ValueWithin (word w ∷ t) i vs = ValueWithin t i vs
ValueWithin (figure ∷ t) i vs = (get_or vs i 0 < 100000) × ValueWithin t (suc i) vs
ValueWithin (label ∷ t) i vs = (1 ≤ get_or vs i 0) × (get_or vs i 0 ≤ 3) × ValueWithin t (suc i) vs

-- the entry at place i of values that are v and others from there on, and the others
place_first : (us vs : List ℕ) (i v : ℕ) → drop i us ≡ v ∷ vs → get_or us i 0 ≡ v
place_first us vs i v e =
    let k : i ≡ i + 0 = omega arith in
    ap (λ (j : ℕ). get_or us j 0) k ∙ sym (get_or-drop i us 0 0) ∙ ap (λ (l : List ℕ). get_or l 0 0) e

place_more : (us vs : List ℕ) (i v : ℕ) → drop i us ≡ v ∷ vs → drop (suc i) us ≡ vs
place_more us vs i v e =
    let k : suc i ≡ i + 1 = omega arith in
    ap (λ (j : ℕ). drop j us) k ∙ sym (drop-drop 1 i us) ∙ ap (drop 1) e

fits_from :
    (t : Template) (us vs : List ℕ) (i : ℕ) → drop i us ≡ vs → FitsTemplate t vs → (vs ≡ entries t i us) × ValueWithin t i us
unfolding FitsTemplate entries ValueWithin
fits_from [] us [] i e f = (refl, tt)
fits_from [] us (v ∷ vs) i e f = absurd f
fits_from (word w ∷ t) us vs i e f = fits_from t us vs i e f
fits_from (figure ∷ t) us [] i e f = absurd f
fits_from (figure ∷ t) us (v ∷ vs) i e f =
    let p = place_first us vs i v e in
    let k = fits_from t us vs (suc i) (place_more us vs i v e) f.1 in
    rw p (ap (λ (r : List ℕ). v ∷ r) k.0, (f.0, k.1))
fits_from (label ∷ t) us [] i e f = absurd f
fits_from (label ∷ t) us (v ∷ vs) i e f =
    let p = place_first us vs i v e in
    let k = fits_from t us vs (suc i) (place_more us vs i v e) f.2 in
    rw p (ap (λ (r : List ℕ). v ∷ r) k.0, (f.0, f.1, k.1))

pub fits_entries : (t : Template) (vs : List ℕ) → FitsTemplate t vs → vs ≡ entries t 0 vs
fits_entries t vs f = (fits_from t vs vs 0 refl f).0

pub fits_within : (t : Template) (vs : List ℕ) → FitsTemplate t vs → ValueWithin t 0 vs
fits_within t vs f = (fits_from t vs vs 0 refl f).1

-- The values of the lines that are read by a template: the values of a line that was read, and that values in bounds fit.

pub job_values :
    (vs : List ℕ)
    → FitsTemplate job_form vs
    → (vs ≡ get_or vs 0 0 ∷ get_or vs 1 0 ∷ get_or vs 2 0 ∷ [])
    × (get_or vs 0 0 < 100000) × (get_or vs 1 0 < 100000) × (get_or vs 2 0 < 100000)
unfolding entries ValueWithin job_form
job_values vs f = let w = fits_within job_form vs f in (fits_entries job_form vs f, w.0, w.1.0, w.1.1.0)

pub job_fits : (a b c : ℕ) → a < 100000 → b < 100000 → c < 100000 → FitsTemplate job_form (a ∷ b ∷ c ∷ [])
unfolding FitsTemplate job_form
job_fits a b c pa pb pc = (pa, (pb, (pc, tt)))

pub one_values :
    (vs : List ℕ)
    → FitsTemplate one_form vs
    → (vs ≡ get_or vs 0 0 ∷ []) × (1 ≤ get_or vs 0 0) × (get_or vs 0 0 ≤ 3)
unfolding entries ValueWithin one_form
one_values vs f = let w = fits_within one_form vs f in (fits_entries one_form vs f, w.0, w.1)

pub one_fits : (a : ℕ) → 1 ≤ a → a ≤ 3 → FitsTemplate one_form (a ∷ [])
unfolding FitsTemplate one_form
one_fits a low high = (low, high, tt)

pub node_values :
    (vs : List ℕ)
    → FitsTemplate node_form vs
    → (vs ≡ get_or vs 0 0 ∷ get_or vs 1 0 ∷ get_or vs 2 0 ∷ get_or vs 3 0 ∷ get_or vs 4 0 ∷ [])
    × (get_or vs 0 0 < 100000) × (get_or vs 1 0 < 100000) × (get_or vs 2 0 < 100000) × (get_or vs 3 0 < 100000)
    × (1 ≤ get_or vs 4 0) × (get_or vs 4 0 ≤ 3)
unfolding entries ValueWithin node_form
node_values vs f =
    let w = fits_within node_form vs f in
    (fits_entries node_form vs f, w.0, w.1.0, w.1.1.0, w.1.1.1.0, w.1.1.1.1.0, w.1.1.1.1.1)

pub node_fits :
    (a b c d e : ℕ)
    → a < 100000
    → b < 100000
    → c < 100000
    → d < 100000
    → 1 ≤ e
    → e ≤ 3
    → FitsTemplate node_form (a ∷ b ∷ c ∷ d ∷ e ∷ [])
unfolding FitsTemplate node_form
node_fits a b c d e pa pb pc pd low high = (pa, (pb, (pc, (pd, (low, high, tt)))))

pub out_values :
    (vs : List ℕ)
    → FitsTemplate out_form vs
    → (vs ≡ get_or vs 0 0 ∷ get_or vs 1 0 ∷ []) × (get_or vs 0 0 < 100000) × (get_or vs 1 0 < 100000)
unfolding entries ValueWithin out_form
out_values vs f = let w = fits_within out_form vs f in (fits_entries out_form vs f, w.0, w.1.0)

pub out_fits : (a b : ℕ) → a < 100000 → b < 100000 → FitsTemplate out_form (a ∷ b ∷ [])
unfolding FitsTemplate out_form
out_fits a b pa pb = (pa, (pb, tt))

pub end_values : (vs : List ℕ) → FitsTemplate end_form vs → vs ≡ []
unfolding entries end_form
end_values = fits_entries end_form

pub end_fits : FitsTemplate end_form []
unfolding FitsTemplate end_form
end_fits = tt

pub crossbar-values :
    (vs : List ℕ)
    → FitsTemplate crossbar_form vs
    → (vs ≡ get_or vs 0 0 ∷ get_or vs 1 0 ∷ get_or vs 2 0 ∷ get_or vs 3 0 ∷ [])
    × (get_or vs 0 0 < 100000) × (get_or vs 1 0 < 100000) × (get_or vs 2 0 < 100000) × (get_or vs 3 0 < 100000)
unfolding entries ValueWithin crossbar_form
crossbar-values vs f =
    let w = fits_within crossbar_form vs f in
    (fits_entries crossbar_form vs f, w.0, w.1.0, w.1.1.0, w.1.1.1.0)

pub crossbar_fits :
    (a b c d : ℕ)
    → a < 100000
    → b < 100000
    → c < 100000
    → d < 100000
    → FitsTemplate crossbar_form (a ∷ b ∷ c ∷ d ∷ [])
unfolding FitsTemplate crossbar_form
crossbar_fits a b c d pa pb pc pd = (pa, (pb, (pc, (pd, tt))))

pub on_values :
    (vs : List ℕ)
    → FitsTemplate on_form vs
    → (vs ≡ get_or vs 0 0 ∷ get_or vs 1 0 ∷ []) × (get_or vs 0 0 < 100000) × (get_or vs 1 0 < 100000)
unfolding entries ValueWithin on_form
on_values vs f = let w = fits_within on_form vs f in (fits_entries on_form vs f, w.0, w.1.0)

pub on_fits : (a b : ℕ) → a < 100000 → b < 100000 → FitsTemplate on_form (a ∷ b ∷ [])
unfolding FitsTemplate on_form
on_fits a b pa pb = (pa, (pb, tt))

pub yes_values :
    (vs : List ℕ)
    → FitsTemplate yes_form vs
    → (vs ≡ get_or vs 0 0 ∷ get_or vs 1 0 ∷ get_or vs 2 0 ∷ [])
    × (get_or vs 0 0 < 100000) × (get_or vs 1 0 < 100000) × (get_or vs 2 0 < 100000)
unfolding entries ValueWithin yes_form
yes_values vs f = let w = fits_within yes_form vs f in (fits_entries yes_form vs f, w.0, w.1.0, w.1.1.0)

pub yes_fits : (a b c : ℕ) → a < 100000 → b < 100000 → c < 100000 → FitsTemplate yes_form (a ∷ b ∷ c ∷ [])
unfolding FitsTemplate yes_form
yes_fits a b c pa pb pc = (pa, (pb, (pc, tt)))

pub no_values :
    (vs : List ℕ)
    → FitsTemplate no_form vs
    → (vs ≡ get_or vs 0 0 ∷ get_or vs 1 0 ∷ get_or vs 2 0 ∷ [])
    × (get_or vs 0 0 < 100000) × (get_or vs 1 0 < 100000) × (get_or vs 2 0 < 100000)
unfolding entries ValueWithin no_form
no_values vs f = let w = fits_within no_form vs f in (fits_entries no_form vs f, w.0, w.1.0, w.1.1.0)

pub no_fits : (a b c : ℕ) → a < 100000 → b < 100000 → c < 100000 → FitsTemplate no_form (a ∷ b ∷ c ∷ [])
unfolding FitsTemplate no_form
no_fits a b c pa pb pc = (pa, (pb, (pc, tt)))

-- a line that is due, number n of the text
pub due_ends : {b : ℕ} (t : Template) (n : ℕ) (ls : Lines) → n ≤ b → EndsWithin (λ (o : Taken). n ≤ b) b (due t n ls)
unfolding due
due_ends {b} t n (left s) h = not_the_form h
due_ends {b} t n (l ⏎ ls) h = by_values (values t l)
  where
    by_values :
        (o : Option (List ℕ))
        → EndsWithin (λ (o : Taken). n ≤ b) b (elim o [ none ↦ refused 1 n | some vs ↦ done (record { vals = vs; later = ls }) ])
    by_values none = not_the_form h
    by_values (some vs) = ends_done h
