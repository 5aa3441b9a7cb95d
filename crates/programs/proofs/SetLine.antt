-- The set line, read figure by figure: how many blanks follow a position says how many figures do.
use Prim.Native.Nat.{ℕ, zero, suc, ◌+◌, ◌≤◌, ◌<◌}
use mathlib.Core.Path.{◌≡◌, refl, sym, ap, ◌∙◌}
use mathlib.Core.Logic.{◌⊎◌, inl, inr, ⊎_elim}
use mathlib.Core.Bool.{true, false, not, ◌&&◌}
use mathlib.Core.Option.{Option, some, none, map}
use mathlib.Core.List.{List, [], ◌∷◌, ◌++◌, append_assoc, append-nil}
use native.Mathlib.Omega.{arith}
use lib.ListN.{length, take, set, length-append, length-set, length-replicate}
use lib.Seq.{length-take-le}
use lib.Dec.{eqb, leb}
use borrow.Author.Tests.{ne_eqb, le-leb, lt-leb}
use Rattle.std.proofs.lemmas.List.{take_more_set}
use Rattle.std.specs.Prelude as std
use Rattle.std.specs.Prelude.{Some, None, MatchOption}
use Rattle.std.proofs.lemmas.Bool.{cases_Bool, cases_eq}
use Rattle.std.proofs.Math.Bool.{and-false}
use Rattle.common.specs.Limits.{max_switches}
use Rattle.common.specs.Lists.{zeros, padded, all_of}
use Rattle.common.specs.Outcome.{done, refused, ◌then◌, ◌when◌, lowest, unless, buffer_of}
use Rattle.common.proofs.Lists.{and_left, and_right, padded-set, all_of_append, all_of_single}
use Rattle.common.proofs.Outcome.{unless_then}
use Rattle.figures.specs.Bytes.{bytes, after}
use Rattle.figures.specs.Figure.{Figured, is_digit, take_figure, decimal}
use Rattle.figures.specs.Line.{Lines, left, ◌⏎◌, lines_of}
use Rattle.figures.proofs.Decimals.{decimal-bytes, decimal_taken}
use Rattle.figures.proofs.Digits.{digit_range}
use Rattle.figures.proofs.Words.{after_same, after_other, after_front, after_taken}
use Rattle.forms.specs.Template.{figure, values}
use Rattle.forms.specs.Forms.{set_figures, set_form}
use Rattle.forms.proofs.Template.{values_word, values_figure, word_none, figure_none}
use Rattle.programs.specs.Programs.{blanks, set_line}
use Rattle.programs.specs.Setting.{SetIs, SetFilled}

-- bytes that are no blanks
blanks_other : (b : ℕ) (s : List ℕ) → (b ≡ 32 → ⊥) → blanks (b ∷ s) ≡ blanks s
unfolding blanks
blanks_other b s h = rw (ne_eqb b 32 h, blanks)

digits-blanks : (w s : List ℕ) → all_of is_digit w ≡ true → blanks (w ++ s) ≡ blanks s
unfolding all_of
digits-blanks [] s h = refl
digits-blanks (b ∷ w) s h =
    blanks_other b (w ++ s) (λ (e : b ≡ 32). omega (arith, digit_range b (and_left (is_digit b) (all_of is_digit w) h)))
    ∙ digits-blanks w s (and_right (is_digit b) (all_of is_digit w) h)

figure_blanks : (s : List ℕ) (f : Figured) → take_figure s ≡ some f → blanks s ≡ blanks f.rest
figure_blanks s f h =
    let d = decimal_taken s f h in
    ap blanks d.0 ∙ digits-blanks (decimal f.figure) f.rest (decimal-bytes f.figure d.1)

set-blanks : (s : List ℕ) → blanks (bytes "(set" ++ s) ≡ blanks s
unfolding bytes blanks
set-blanks s = refl

-- the figures that are left of a set line
unfoldable pub figures_in : List ℕ → Option (List ℕ)
figures_in s = values (set_figures (blanks s)) s

-- a figure more
figures_blank : (s : List ℕ) → figures_in (32 ∷ s) ≡ values (figure ∷ set_figures (blanks s)) s
unfolding figures_in blanks set_figures bytes
figures_blank s = values_word " " (figure ∷ set_figures (blanks s)) (32 ∷ s) s (after_front (32 ∷ []) s)

figures_more :
    (s : List ℕ) (f : Figured)
    → take_figure s ≡ some f
    → figures_in (32 ∷ s) ≡ map (λ vs. f.figure ∷ vs) (figures_in f.rest)
unfolding figures_in
figures_more s f h =
    figures_blank s
    ∙ values_figure (set_figures (blanks s)) s f h
    ∙ ap (λ (n : ℕ). map (λ (vs : List ℕ). f.figure ∷ vs) (values (set_figures n) f.rest)) (figure_blanks s f h)

figures_missing : (s : List ℕ) → take_figure s ≡ none → figures_in (32 ∷ s) ≡ none
figures_missing s h = figures_blank s ∙ figure_none (set_figures (blanks s)) s h

-- the bracket, and nothing after it
figures_end : figures_in (41 ∷ []) ≡ some []
unfolding figures_in blanks set_figures values bytes after
figures_end = refl

values_long : (a : ℕ) (s : List ℕ) → values [] (a ∷ s) ≡ none
unfolding values
values_long a s = refl

values_other : (n b : ℕ) (s : List ℕ) → (b ≡ 32 → ⊥) → (b ≡ 41 → s ≡ [] → ⊥) → values (set_figures n) (b ∷ s) ≡ none
unfolding set_figures bytes after
values_other zero b [] h k =
    word_none ")" [] (b ∷ []) (after_other 41 b [] [] (ne_eqb 41 b (λ (e : 41 ≡ b). k (sym e) refl)))
values_other zero b (a ∷ s) h k =
    ⊎_elim
    (λ (e : eqb 41 b ≡ true). values_word ")" [] (b ∷ a ∷ s) (a ∷ s) (after_same 41 b [] (a ∷ s) e) ∙ values_long a s)
    (λ (e : eqb 41 b ≡ false). word_none ")" [] (b ∷ a ∷ s) (after_other 41 b [] (a ∷ s) e))
    (cases_Bool (eqb 41 b))
values_other (suc n) b s h k =
    word_none " " (figure ∷ set_figures n) (b ∷ s) (after_other 32 b [] s (ne_eqb 32 b (λ (e : 32 ≡ b). h (sym e))))

figures_other : (b : ℕ) (s : List ℕ) → (b ≡ 32 → ⊥) → (b ≡ 41 → s ≡ [] → ⊥) → figures_in (b ∷ s) ≡ none
unfolding figures_in
figures_other b s h k = values_other (blanks (b ∷ s)) b s h k

figures_none : figures_in [] ≡ none
unfolding figures_in blanks set_figures values bytes after
figures_none = refl

high_among : (us : List ℕ) (v : ℕ) (vs : List ℕ) → 1 < v → all_of (λ b. leb b 1) (us ++ v ∷ vs) ≡ false
unfolding all_of
high_among [] v vs h = rw (lt-leb v 1 h)
high_among (u ∷ us) v vs h = rw (high_among us v vs h) (and-false (leb u 1))

-- a set line with nothing after it, by the figures of the line: none, as many as there may be, too many, and one above 1
module _ (l : List ℕ) where
  line_none : values (set_form (blanks l)) l ≡ none → set_line (l ⏎ left []) ≡ refused 1 1
  unfolding set_line
  line_none e = rw (e, set_line)

  line_found :
      (vs : List ℕ)
      → values (set_form (blanks l)) l ≡ some vs
      → length vs ≤ max_switches
      → all_of (λ b. leb b 1) vs ≡ true
      → set_line (l ⏎ left []) ≡ done (record { vals = vs; later = left [] })
  unfolding set_line lowest unless
  line_found vs e h k = rw (e, le-leb (length vs) max_switches h, k, set_line)

  line_refused : (vs : List ℕ) → values (set_form (blanks l)) l ≡ some vs → (leb (length vs) max_switches && all_of (λ b. leb b 1) vs) ≡ false → set_line (l ⏎ left []) ≡ refused 1 1
  unfolding set_line lowest unless
  line_refused vs e h = rw (e, h, set_line)

  line_many : (vs : List ℕ) → values (set_form (blanks l)) l ≡ some vs → max_switches < length vs → set_line (l ⏎ left []) ≡ refused 1 1
  line_many vs e h = line_refused vs e (rw (lt-leb (length vs) max_switches h))

  line_high : (us vs : List ℕ) (v : ℕ) → values (set_form (blanks l)) l ≡ some (us ++ v ∷ vs) → 1 < v → set_line (l ⏎ left []) ≡ refused 1 1
  line_high us vs v e h =
      line_refused (us ++ v ∷ vs) e (rw (high_among us v vs h) (and-false (leb (length (us ++ v ∷ vs)) max_switches)))

-- figures in front of those that follow
unfoldable pub ahead : List ℕ → Option (List ℕ) → Option (List ℕ)
ahead us o = map (λ vs. us ++ vs) o

ahead_nil : (o : Option (List ℕ)) → o ≡ ahead [] o
unfolding ahead
ahead_nil none = refl
ahead_nil (some vs) = refl

ahead_more : (us : List ℕ) (v : ℕ) (o : Option (List ℕ)) → ahead us (map (λ vs. v ∷ vs) o) ≡ ahead (us ++ (v ∷ [])) o
unfolding ahead
ahead_more us v none = refl
ahead_more us v (some vs) = ap some (sym (append_assoc us (v ∷ []) vs))

-- the line l is read: `found` begins with the first `count` figures of it, and `rest` is left
pub record Reading (l rest found : List ℕ) (count : ℕ) : Type 0 where
  pub long : length found ≡ max_switches
  pub low : all_of (λ b. leb b 1) (take count found) ≡ true
  pub so_far : values (set_form (blanks l)) l ≡ ahead (take count found) (figures_in rest)

module _ (l : List ℕ) where
  -- the line does not begin with the word, and does
  pub reading_other : (found : List ℕ) → after (bytes "(set") l ≡ none → SetIs l None found
  unfolding set_form SetIs
  reading_other found h = line_none l (word_none "(set" (set_figures (blanks l)) l h)

  pub reading_start : (s found : List ℕ) → after (bytes "(set") l ≡ some s → length found ≡ max_switches → Reading l s found 0
  unfolding set_form all_of figures_in
  reading_start s found a long =
      let b : blanks l ≡ blanks s = ap blanks (after_taken (bytes "(set") l s a) ∙ set-blanks s in
      record {
        long = long;
        low = refl;
        so_far =
            ap (λ (n : ℕ). values (set_form n) l) b
            ∙ values_word "(set" (set_figures (blanks s)) l s a
            ∙ ahead_nil (values (set_figures (blanks s)) s);
      }

module _ (l rest found : List ℕ) (count : ℕ) (r : Reading l rest found count) where
  -- a blank, and no figure, one above 1, or one more; where nothing is answered, nothing is said of the buffer
  module _ (s : List ℕ) (blank : after (bytes " ") rest ≡ some s) where
    here : rest ≡ 32 ∷ s
    unfolding bytes
    here = after_taken (bytes " ") rest s blank

    pub reading_missing : (figures : List ℕ) → take_figure s ≡ none → SetIs l None figures
    unfolding SetIs ahead
    reading_missing figures h = line_none l (r.so_far ∙ ap (λ (t : List ℕ). ahead (take count found) (figures_in t)) here ∙ ap (ahead (take count found)) (figures_missing s h))

    module _ (f : Figured) (h : take_figure s ≡ some f) where
      next : values (set_form (blanks l)) l ≡ ahead (take count found) (map (λ vs. f.figure ∷ vs) (figures_in f.rest))
      next = r.so_far ∙ ap (λ (t : List ℕ). ahead (take count found) (figures_in t)) here ∙ ap (ahead (take count found)) (figures_more s f h)

      pub reading_high : (figures : List ℕ) → 1 < f.figure → SetIs l None figures
      unfolding SetIs ahead
      reading_high figures k = by (figures_in f.rest) next
        where
          by : (o : Option (List ℕ)) → values (set_form (blanks l)) l ≡ ahead (take count found) (map (λ vs. f.figure ∷ vs) o) → set_line (l ⏎ left []) ≡ refused 1 1
          by none e = line_none l e
          by (some vs) e = line_high l (take count found) vs f.figure e k

      pub reading_more : count < max_switches → f.figure ≤ 1 → Reading l f.rest (set found count f.figure) (count + 1)
      reading_more k low =
          let t : take (count + 1) (set found count f.figure) ≡ take count found ++ (f.figure ∷ []) = take_more_set found count f.figure (omega (arith, r.long)) in
          record {
            long = simp length-set r.long;
            low = rw t (all_of_append (λ b. leb b 1) (take count found) (f.figure ∷ []) r.low (all_of_single (λ b. leb b 1) f.figure (le-leb f.figure 1 low)));
            so_far = next ∙ ahead_more (take count found) f.figure (figures_in f.rest) ∙ ap (λ (u : List ℕ). ahead u (figures_in f.rest)) (sym t);
          }

  -- the bracket, and nothing after it
  pub reading_done : count ≤ max_switches → rest ≡ 41 ∷ [] → SetIs l (Some count) found
  unfolding SetIs ahead
  reading_done few e =
      let within : count ≤ length found = omega (arith, r.long) in
      let long : length (take count found) ≡ count = length-take-le count found within in
      let all : values (set_form (blanks l)) l ≡ some (take count found) =
      r.so_far ∙ ap (λ (t : List ℕ). ahead (take count found) (figures_in t)) e ∙ ap (ahead (take count found)) figures_end ∙ ap some (append-nil (take count found))
      in
      (within, line_found l (take count found) all (omega arith) r.low)

  -- anything else, where no figure follows or no more may follow
  pub reading_wrong :
      (rest ≡ 41 ∷ [] → ⊥)
      → ((b : ℕ) (s : List ℕ) → rest ≡ b ∷ s → (b ≡ 32 → ⊥) ⊎ (max_switches ≤ length (take count found)))
      → SetIs l None found
  unfolding SetIs ahead
  reading_wrong unended last = by rest refl
    where
      many : (v : ℕ) (o : Option (List ℕ)) → values (set_form (blanks l)) l ≡ ahead (take count found) (map (λ vs. v ∷ vs) o) → max_switches ≤ length (take count found) → set_line (l ⏎ left []) ≡ refused 1 1
      many v none e h = line_none l e
      many v (some vs) e h = line_many l (take count found ++ v ∷ vs) e (simp length-append (omega arith))

      gone : (t : List ℕ) → rest ≡ t → figures_in t ≡ none → set_line (l ⏎ left []) ≡ refused 1 1
      gone t e n = line_none l (r.so_far ∙ ap (λ (u : List ℕ). ahead (take count found) (figures_in u)) e ∙ ap (ahead (take count found)) n)

      figure_or_none : (s : List ℕ) (o : Option Figured) → rest ≡ 32 ∷ s → max_switches ≤ length (take count found) → take_figure s ≡ o → set_line (l ⏎ left []) ≡ refused 1 1
      figure_or_none s none e h t = gone (32 ∷ s) e (figures_missing s t)
      figure_or_none s (some f) e h t =
          many f.figure (figures_in f.rest)
          (r.so_far ∙ ap (λ (u : List ℕ). ahead (take count found) (figures_in u)) e ∙ ap (ahead (take count found)) (figures_more s f t)) h

      by : (t : List ℕ) → rest ≡ t → set_line (l ⏎ left []) ≡ refused 1 1
      by [] e = gone [] e figures_none
      by (b ∷ s) e =
          ⊎_elim
          (λ (k : b ≡ 32).
          let blank : rest ≡ 32 ∷ s = e ∙ ap (λ (n : ℕ). n ∷ s) k in
          ⊎_elim
          (λ (other : b ≡ 32 → ⊥). absurd (other k))
          (λ (full : max_switches ≤ length (take count found)). figure_or_none s (take_figure s) blank full refl)
          (last b s e))
          (λ (k : b ≡ 32 → ⊥). gone (b ∷ s) e (figures_other b s k (λ q z. unended (e ∙ rw (q, z)))))
          (cases_eq b 32)

  -- no figure follows where no blank does
  pub reading_ends : (rest ≡ 41 ∷ [] → ⊥) → after (bytes " ") rest ≡ none → SetIs l None found
  unfolding bytes
  reading_ends unended h =
      reading_wrong unended
      (λ b s e. inl (λ k. let blank : rest ≡ 32 ∷ s = e ∙ ap (λ (n : ℕ). n ∷ s) k in let some_is : after (32 ∷ []) rest ≡ some s = rw blank (after_front (32 ∷ []) s) in cc))

  pub reading_full : (rest ≡ 41 ∷ [] → ⊥) → count ≡ max_switches → SetIs l None found
  reading_full unended full =
      let long : length (take count found) ≡ count = length-take-le count found (omega (arith, r.long)) in
      reading_wrong unended (λ b s e. inr (omega arith))

  -- what is left is tested where no blank follows, or no more figure may
  pub reading_last :
      (o : std.Option ℕ) (k : ℕ)
      → MatchOption o (rest ≡ 41 ∷ [] → ⊥) (λ n. (n ≡ k) × (rest ≡ 41 ∷ []))
      → count ≡ k
      → k ≤ max_switches
      → (after (bytes " ") rest ≡ none) ⊎ (k ≡ max_switches)
      → SetIs l o found
  reading_last (Some n) k h is few last = rw (h.0, ← is) (reading_done (omega arith) h.1)
  reading_last None k h is few (inl bare) = reading_ends h bare
  reading_last None k h is few (inr full) = reading_full h (omega arith)

-- the same, where the line is read into a buffer of zeros: past the figures found there are zeros
pub record Filling (l rest found : List ℕ) (count : ℕ) : Type 0 where
  pub reading : Reading l rest found count
  pub clear : found ≡ padded max_switches (take count found)

module _ (l : List ℕ) where
  pub filling_other : (found : List ℕ) → after (bytes "(set") l ≡ none → SetFilled l None found
  unfolding SetIs SetFilled
  filling_other = reading_other l

  pub filling_start : (s found : List ℕ) → after (bytes "(set") l ≡ some s → found ≡ zeros max_switches → Filling l s found 0
  unfolding padded max_switches
  filling_start s found a clear =
      record {
        reading = reading_start l s found a (rw clear (length-replicate {A = ℕ} max_switches 0));
        clear = clear;
      }

module _ (l rest found : List ℕ) (count : ℕ) (f : Filling l rest found count) where
  module _ (s : List ℕ) (blank : after (bytes " ") rest ≡ some s) where
    pub filling_missing : (figures : List ℕ) → take_figure s ≡ none → SetFilled l None figures
    unfolding SetIs SetFilled
    filling_missing = reading_missing l rest found count f.reading s blank

    module _ (g : Figured) (h : take_figure s ≡ some g) where
      pub filling_high : (figures : List ℕ) → 1 < g.figure → SetFilled l None figures
      unfolding SetIs SetFilled
      filling_high = reading_high l rest found count f.reading s blank g h

      pub filling_more : count < max_switches → g.figure ≤ 1 → Filling l g.rest (set found count g.figure) (count + 1)
      filling_more k low =
          let long : count ≤ length found = omega (arith, f.reading.long) in
          let t : take (count + 1) (set found count g.figure) ≡ take count found ++ (g.figure ∷ []) = take_more_set found count g.figure (omega (arith, f.reading.long)) in
          record {
            reading = reading_more l rest found count f.reading s blank g h k low;
            clear = rw t (ap (λ (u : List ℕ). set u count g.figure) f.clear ∙ padded-set max_switches (take count found) count g.figure (length-take-le count found long) k);
          }

  pub filling_done : count ≤ max_switches → rest ≡ 41 ∷ [] → SetFilled l (Some count) found
  unfolding SetIs SetFilled
  filling_done few e = (few, (reading_done l rest found count f.reading few e).1, f.clear)

  pub filling_last :
      (o : std.Option ℕ) (k : ℕ)
      → MatchOption o (rest ≡ 41 ∷ [] → ⊥) (λ n. (n ≡ k) × (rest ≡ 41 ∷ []))
      → count ≡ k
      → k ≤ max_switches
      → (after (bytes " ") rest ≡ none) ⊎ (k ≡ max_switches)
      → SetFilled l o found
  unfolding SetIs SetFilled
  filling_last (Some n) k h is few last = rw (h.0, ← is) (filling_done (omega arith) h.1)
  filling_last None k h is few last = reading_last l rest found count f.reading None k h is few last

pub ruleset reading = (
  reading_other,
  reading_start,
  reading_missing,
  reading_high,
  reading_more,
  reading_last,
  filling_other,
  filling_start,
  filling_missing,
  filling_high,
  filling_more,
  filling_last,
)

-- the lines after a set line are handed on as they are
set_alone : (l : List ℕ) (ls : Lines) → set_line (l ⏎ ls) ≡ set_line (l ⏎ left []) then λ o. done (record { vals = o.vals; later = ls })
unfolding set_line ◌then◌
set_alone l ls = by (values (set_form (blanks l)) l) refl
  where
    by : (o : Option (List ℕ)) → values (set_form (blanks l)) l ≡ o → set_line (l ⏎ ls) ≡ set_line (l ⏎ left []) then λ o. done (record { vals = o.vals; later = ls })
    by none e = rw (e, set_line)
    by (some vs) e = rw (e, set_line) (unless_then _ (lowest ((1 when not (leb (length vs) max_switches && all_of (λ b. leb b 1) vs)) ∷ [])) 1 _ _ refl)

-- a text by its first line: where there is none, where its line is refused and where it is not
module _ (s : List ℕ) where
  pub set_absent : lines_of s ≡ left s → set_line (lines_of s) ≡ refused 1 1
  unfolding set_line
  set_absent h = rw h

  module _ (l rest figures : List ℕ) (first : lines_of s ≡ l ⏎ lines_of rest) where
    whole : set_line (lines_of s) ≡ set_line (l ⏎ left []) then λ o. done (record { vals = o.vals; later = lines_of rest })
    whole = ap set_line first ∙ set_alone l (lines_of rest)

    pub set_refused : SetIs l None figures → set_line (lines_of s) ≡ refused 1 1
    unfolding SetIs ◌then◌
    set_refused h = whole ∙ rw h

    pub set_done : (n : ℕ) → SetIs l (Some n) figures → set_line (lines_of s) ≡ done (record { vals = take n figures; later = lines_of rest })
    unfolding SetIs ◌then◌
    set_done n h = whole ∙ rw h.1

    -- the same where a buffer of zeros was filled, and what that buffer holds
    pub filled_refused : SetFilled l None figures → set_line (lines_of s) ≡ refused 1 1
    unfolding SetIs SetFilled
    filled_refused = set_refused

    pub filled_done : (n : ℕ) → SetFilled l (Some n) figures → set_line (lines_of s) ≡ done (record { vals = take n figures; later = lines_of rest })
    unfolding SetFilled ◌then◌
    filled_done n h = whole ∙ rw h.1

    pub set_buffer : (n : ℕ) → SetFilled l (Some n) figures → figures ≡ buffer_of max_switches (λ t. t.vals) (set_line (lines_of s))
    unfolding SetFilled buffer_of
    set_buffer n h = rw (filled_done n h) h.2

  -- the buffer of a refusal
  pub set_clear : (figures : List ℕ) → set_line (lines_of s) ≡ refused 1 1 → figures ≡ zeros max_switches → figures ≡ buffer_of max_switches (λ t. t.vals) (set_line (lines_of s))
  unfolding buffer_of
  set_clear figures h z = rw h z

pub set_within : (l figures : List ℕ) (n : ℕ) → SetIs l (Some n) figures → n ≤ length figures
unfolding SetIs
set_within l figures n h = h.0

pub filled_within : (l figures : List ℕ) (n : ℕ) → SetFilled l (Some n) figures → n ≤ max_switches
unfolding SetFilled
filled_within l figures n h = h.0

pub ruleset first = (set_absent, set_refused, set_done, set_within, filled_refused, filled_done, set_buffer, set_clear, filled_within)
