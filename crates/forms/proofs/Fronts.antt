-- A line read at the front of a text is the line due.
use Prim.Native.Nat.{ℕ, ◌<◌, ◌≤◌}
use Prim.Native.String.{String}
use mathlib.Core.Path.{◌≡◌, refl, sym, ap, ◌∙◌}
use mathlib.Core.Bool.{Bool, true, false}
use mathlib.Core.Option.{Option, some, none, map}
use mathlib.Core.List.{List, [], ◌∷◌, ◌++◌, append_assoc, append-nil}
use native.Mathlib.Omega.{arith}
use lib.Dec.{eqb}
use borrow.Author.Tests.{ne_eqb}
use Rattle.common.specs.Outcome.{done, refused}
use Rattle.common.proofs.Lists.{and_left, and_right}
use Rattle.common.specs.Fault.{fault_of, faults}
use Rattle.std.specs.Prelude as Std
use Rattle.std.specs.Prelude.{Some, None}
use Rattle.std.specs.Option.{unwrap_or}
use Rattle.figures.specs.Reading.{Given}
use Rattle.figures.specs.Bytes.{bytes, after}
use Rattle.figures.specs.Figure.{Figured, is_digit, take_figure, decimal}
use Rattle.figures.specs.Line.{Lines, left, ◌⏎◌, lines_of}
use Rattle.figures.proofs.Decimals.{no_digit_first, takes_decimal, decimal_taken}
use Rattle.figures.proofs.Line.{one_line}
use Rattle.figures.proofs.Words.{after_front, after_taken}
use Rattle.forms.specs.declared.Form.{Form}
use Rattle.forms.specs.Template.{Template, word, figure, label, label_of, letter_of, values, written, line}
use Rattle.forms.specs.Due.{Taken, due}
use Rattle.forms.specs.Form.{not_due}
use Rattle.forms.specs.declared.LineRead.{LineRead}
use Rattle.forms.specs.Read.{first_label, Front, with_value, front, FormRead, read_of, front_form, form_of, LineIs}
use Rattle.forms.proofs.Template.{FitsTemplate, apart, closes, parts_front, letter_label, label_letter, due_taken, due-written}

-- the label that a text begins with
pub label_found : (s r : List ℕ) (b t : ℕ) → s ≡ b ∷ r → label_of b ≡ t → 0 < t → first_label s ≡ some (record { figure = t; rest = r })
unfolding first_label
label_found s r b t e l h =
    let p : eqb (label_of b) 0 ≡ false = ne_eqb (label_of b) 0 (λ (z : label_of b ≡ 0). omega arith) in
    rw (e, p, first_label) (ap (λ v. some (record { figure = v; rest = r })) l)

label_taken : (s : List ℕ) (f : Figured) → first_label s ≡ some f → (s ≡ letter_of f.figure ∷ f.rest) × (1 ≤ f.figure) × (f.figure ≤ 3)
unfolding first_label
label_taken [] f h = absurd cc
label_taken (b ∷ s) f h = by (eqb (label_of b) 0) refl
  where
    by : (z : Bool) → eqb (label_of b) 0 ≡ z → (b ∷ s ≡ letter_of f.figure ∷ f.rest) × (1 ≤ f.figure) × (f.figure ≤ 3)
    by true e = let k : ◌≡◌ {A = Option Figured} none (some f) = rw (e, first_label) at h in absurd cc
    by false e =
        let k : ◌≡◌ {A = Option Figured} (some (record { figure = label_of b; rest = s })) (some f) = rw (e, first_label) at h in
        let g : ◌≡◌ {A = Figured} (record { figure = label_of b; rest = s }) f = cc in
        let l = label_letter b e in
        rw (← g) (ap (λ c. c ∷ s) (sym l.0), l.1, l.2)

label_front : (v : ℕ) (s : List ℕ) → 1 ≤ v → v ≤ 3 → first_label (letter_of v ∷ s) ≡ some (record { figure = v; rest = s })
label_front v s low high = label_found (letter_of v ∷ s) s (letter_of v) v refl (letter_label v low high) (omega arith)

-- a line in front of a text, item by item
module _ (t : Template) (vs r : List ℕ) where
  line_word : (w : String) → line (word w ∷ t) vs ++ r ≡ bytes w ++ (line t vs ++ r)
  unfolding line written
  line_word w = simp append_assoc

  line_figure : (v : ℕ) → line (figure ∷ t) (v ∷ vs) ++ r ≡ decimal v ++ (line t vs ++ r)
  unfolding line written
  line_figure v = simp append_assoc

  line_label : (v : ℕ) → line (label ∷ t) (v ∷ vs) ++ r ≡ letter_of v ∷ (line t vs ++ r)
  unfolding line written
  line_label v = simp append_assoc

line_last : (w : String) (vs r : List ℕ) → line (word w ∷ []) vs ++ r ≡ (bytes w ++ (10 ∷ [])) ++ r
unfolding line written
line_last w vs r = rw (append-nil (bytes w))

line_none : (vs r : List ℕ) → line [] vs ++ r ≡ (10 ∷ []) ++ r
unfolding line written
line_none vs r = refl

-- The values that are read, and what is left, are those of a line in front of it.
record Stands (t : Template) (s : List ℕ) (x : Front) : Type 0 where
  text : s ≡ line t x.vals ++ x.rest
  fits : FitsTemplate t x.vals

-- what an option gives, step by step
taken_word : (o : Option (List ℕ)) (g : List ℕ → Option Front) (x : Front) → ◌≡◌ {A = Option Front} (elim o [ none ↦ none | some r ↦ g r ]) (some x) → (r : List ℕ) × (o ≡ some r) × (g r ≡ some x)
taken_word none g x h = absurd cc
taken_word (some r) g x h = (r, refl, h)

taken_end : (o : Option (List ℕ)) (x : Front) → map (λ r. record { vals = []; rest = r }) o ≡ some x → (o ≡ some x.rest) × (x.vals ≡ [])
taken_end none x h = absurd cc
taken_end (some r) x h = (cc, cc)

taken_value : (o : Option Figured) (g : List ℕ → Option Front) (x : Front) → ◌≡◌ {A = Option Front} (elim o [ none ↦ none | some f ↦ with_value f.figure (g f.rest) ]) (some x)
    → (f : Figured) × (y : Front) × (o ≡ some f) × (g f.rest ≡ some y) × (x ≡ record { vals = f.figure ∷ y.vals; rest = y.rest })
taken_value none g x h = absurd cc
taken_value (some f) g x h = by (g f.rest) refl h
  where
    by : (p : Option Front) → g f.rest ≡ p → with_value f.figure p ≡ some x
        → (f' : Figured) × (y : Front) × (some f ≡ some f') × (g f'.rest ≡ some y) × (x ≡ record { vals = f'.figure ∷ y.vals; rest = y.rest })
    by none e k = absurd cc
    by (some y) e k = (f, y, refl, e, cc)

front_stands : (t : Template) (s : List ℕ) (x : Front) → front t s ≡ some x → Stands t s x
unfolding front FitsTemplate
front_stands [] s x h =
    let k = taken_end (after (10 ∷ []) s) x h in
    record { text = after_taken (10 ∷ []) s x.rest k.0 ∙ sym (line_none x.vals x.rest); fits = rw k.1 tt }
front_stands (word w ∷ []) s x h =
    let k = taken_end (after (bytes w ++ (10 ∷ [])) s) x h in
    record { text = after_taken (bytes w ++ (10 ∷ [])) s x.rest k.0 ∙ sym (line_last w x.vals x.rest); fits = rw k.1 tt }
front_stands (word w ∷ i ∷ t) s x h =
    let k = taken_word (after (bytes w) s) (front (i ∷ t)) x h in
    let m = front_stands (i ∷ t) k.0 x k.2 in
    record { text = after_taken (bytes w) s k.0 k.1 ∙ ap (λ r. bytes w ++ r) m.text ∙ sym (line_word (i ∷ t) x.vals x.rest w); fits = m.fits }
front_stands (figure ∷ t) s x h =
    let k = taken_value (take_figure s) (front t) x h in
    let d = decimal_taken s k.0 k.2 in
    let m = front_stands t k.0.rest k.1 k.3 in
    rw k.4 (record { text = d.0 ∙ ap (λ r. decimal k.0.figure ++ r) m.text ∙ sym (line_figure t k.1.vals k.1.rest k.0.figure); fits = (d.1, m.fits) })
front_stands (label ∷ t) s x h =
    let k = taken_value (first_label s) (front t) x h in
    let d = label_taken s k.0 k.2 in
    let m = front_stands t k.0.rest k.1 k.3 in
    rw k.4 (record { text = d.0 ∙ ap (λ r. letter_of k.0.figure ∷ r) m.text ∙ sym (line_label t k.1.vals k.1.rest k.0.figure); fits = (d.1, d.2, m.fits) })

-- a line in front of a text is read
closes_line : (t : Template) (vs r : List ℕ) → closes t ≡ true → no_digit_first (line t vs ++ r) ≡ true
unfolding closes line written no_digit_first is_digit
closes_line [] vs r h = refl
closes_line (word w ∷ t) vs r h = rw (line_word t vs r w) (parts_front (bytes w) (line t vs ++ r) h)
closes_line (figure ∷ t) vs r h = absurd cc
closes_line (label ∷ t) vs r h = absurd cc

front_line : (t : Template) (vs r : List ℕ) → apart t ≡ true → FitsTemplate t vs → front t (line t vs ++ r) ≡ some (record { vals = vs; rest = r })
unfolding front FitsTemplate apart
front_line [] [] r a f = rw (line_none [] r, after_front (10 ∷ []) r)
front_line [] (v ∷ vs) r a f = absurd f
front_line (word w ∷ []) [] r a f = rw (line_last w [] r, after_front (bytes w ++ (10 ∷ [])) r)
front_line (word w ∷ []) (v ∷ vs) r a f = absurd f
front_line (word w ∷ i ∷ t) vs r a f =
    rw (line_word (i ∷ t) vs r w, after_front (bytes w) (line (i ∷ t) vs ++ r), front)
    (front_line (i ∷ t) vs r (and_right (one_line (bytes w)) (apart (i ∷ t)) a) f)
front_line (figure ∷ t) [] r a f = absurd f
front_line (figure ∷ t) (v ∷ vs) r a f =
    rw (line_figure t vs r v, takes_decimal v (line t vs ++ r) f.0 (closes_line t vs r (and_left (closes t) (apart t) a)), front, front_line t vs r (and_right (closes t) (apart t) a) f.1)
front_line (label ∷ t) [] r a f = absurd f
front_line (label ∷ t) (v ∷ vs) r a f = rw (line_label t vs r v, label_front v (line t vs ++ r) f.0 f.1, front, front_line t vs r a f.2)

-- so the line that is read is the line due, and where none is read, none is due
pub only_refused : (t : Template) (n : ℕ) (ls : Lines) → ((o : Taken) → due t n ls ≡ done o → ⊥) → due t n ls ≡ refused 1 n
unfolding due
only_refused t n (left s) h = refl
only_refused t n (l ⏎ ls) h = by (values t l) refl
  where
    by : (o : Option (List ℕ)) → values t l ≡ o → due t n (l ⏎ ls) ≡ refused 1 n
    by none e = rw (e, due)
    by (some vs) e = absurd (h (record { vals = vs; later = ls }) (rw (e, due)))

module _ (t : Template) (n : ℕ) (s : List ℕ) (a : apart t ≡ true) where
  pub front_due : (x : Front) → front t s ≡ some x → due t n (lines_of s) ≡ done (record { vals = x.vals; later = lines_of x.rest })
  front_due x h = let m = front_stands t s x h in ap (λ r. due t n (lines_of r)) m.text ∙ due-written t x.vals n x.rest a m.fits

  pub front_refused : front t s ≡ none → due t n (lines_of s) ≡ refused 1 n
  front_refused h =
      only_refused t n (lines_of s)
      (λ o e.
      let d = due_taken t n s o e in
      let f = ap (front t) d.1 ∙ front_line t o.vals d.0 a d.3 in
      absurd cc)

-- A reader that answers what it read, or the refusal, keeps the promise of a line.
module _ (t : Template) (f : List ℕ → Form) (n : ℕ) (s : List ℕ) (a : apart t ≡ true) where
  refused_is : (r : LineRead) → front_form t f s ≡ none → (r.form ≡ not_due n) × (r.rest.now ≡ s) → LineIs t f n s r.form r.rest.now
  unfolding front_form form_of not_due fault_of faults
  refused_is r h e = by (front t s) refl
    where
      by : (o : Option Front) → front t s ≡ o → LineIs t f n s r.form r.rest.now
      by none k =
          let d = front_refused t n s a k in
          record { yields = e.0 ∙ ap (form_of f) (sym d); leaves = λ o z. absurd cc; stays = λ k l z. e.1 }
      by (some x) k = let z : ◌≡◌ {A = Option FormRead} (some (record { form = f x.vals; rest = x.rest })) none = rw k at h in absurd cc

  read_is : (r : LineRead) → front_form t f s ≡ some (read_of r) → LineIs t f n s r.form r.rest.now
  unfolding front_form form_of
  read_is r h = by (front t s) refl
    where
      by : (o : Option Front) → front t s ≡ o → LineIs t f n s r.form r.rest.now
      by none k = let z : ◌≡◌ {A = Option FormRead} none (some (read_of r)) = rw k at h in absurd cc
      by (some x) k =
          let z : ◌≡◌ {A = Option FormRead} (some (record { form = f x.vals; rest = x.rest })) (some (read_of r)) = rw k at h in
          let y : ◌≡◌ {A = FormRead} (record { form = f x.vals; rest = x.rest }) (read_of r) = cc in
          let d = front_due t n s a x k in
          record {
            yields = sym (ap (λ (q : FormRead). q.form) y) ∙ ap (form_of f) (sym d);
            leaves = λ o e.
                let w : o ≡ record { vals = x.vals; later = lines_of x.rest } = cc in
                ap (λ (q : Taken). q.later) w ∙ ap (λ (q : FormRead). lines_of q.rest) y;
            stays = λ k l z. absurd cc;
          }

  pub line_is :
      (o : Std.Option LineRead) (x r : LineRead)
      → Given (front_form t f s) read_of o
      → (x.form ≡ not_due n) × (x.rest.now ≡ s)
      → r ≡ unwrap_or o x
      → LineIs t f n s r.form r.rest.now
  line_is None x r h e u = rw u (refused_is x h e)
  line_is (Some q) x r h e u = rw u (read_is q h)
