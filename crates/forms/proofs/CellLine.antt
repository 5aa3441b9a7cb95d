-- A cell line read at the front of a text: the three forms begin alike, and the first whose end stands there is the line's.
use Prim.Native.Nat.{ℕ}
use Prim.Native.String.{String}
use mathlib.Core.Path.{◌≡◌, refl, sym, ap, ◌∙◌}
use mathlib.Core.Bool.{true}
use mathlib.Core.Option.{Option, some, none, map}
use mathlib.Core.List.{List, [], ◌∷◌, ◌++◌}
use lib.ListN.{get_or}
use Rattle.std.specs.Prelude as Std
use Rattle.std.specs.Prelude.{Some, None}
use Rattle.std.specs.Option.{unwrap_or}
use Rattle.common.specs.Outcome.{done, refused}
use Rattle.figures.specs.Reading.{Given}
use Rattle.figures.specs.Bytes.{bytes, after}
use Rattle.figures.specs.Figure.{Figured, take_figure}
use Rattle.figures.specs.Line.{Lines, left, ◌⏎◌, lines_of}
use Rattle.cells.specs.declared.Cell.TheVariants.{On, Yes, No}
use Rattle.forms.specs.declared.LineRead.{LineRead}
use Rattle.forms.specs.Template.{Template, word, figure, values}
use Rattle.forms.specs.Due.{due}
use Rattle.forms.specs.Forms.{on_form, yes_form, no_form}
use Rattle.forms.specs.Form.{Placed, placed, switch_of, not_due}
use Rattle.forms.specs.Read.{cell_form, capped_cell, placed_in, placed_form, CellIs, Front, with_value, front, FormRead, read_of, PlaceRead, front_place, front_switch, front_kind, front_cell}
use Rattle.forms.proofs.Template.{apart, on_apart, yes_apart, no_apart, due-line}
use Rattle.forms.proofs.Fronts.{front_due, front_refused}

-- a line of a template, and that the first line has no values of it
found : (t : Template) (s : List ℕ) (x : Front) → apart t ≡ true → front t s ≡ some x → (l : List ℕ) × (lines_of s ≡ l ⏎ lines_of x.rest) × (values t l ≡ some x.vals)
found t s x a h = due-line t 0 (lines_of s) _ (front_due t 0 s a x h)

missing : (t : Template) (s : List ℕ) → apart t ≡ true → front t s ≡ none → (l : List ℕ) (ls : Lines) → lines_of s ≡ l ⏎ ls → values t l ≡ none
unfolding due
missing t s a h l ls e = by (values t l) refl
  where
    by : (o : Option (List ℕ)) → values t l ≡ o → values t l ≡ none
    by none k = k
    by (some vs) k =
        let d : due t 0 (l ⏎ ls) ≡ refused 1 0 = ap (due t 0) (sym e) ∙ front_refused t 0 s a h in
        let z : due t 0 (l ⏎ ls) ≡ done (record { vals = vs; later = ls }) = rw (k, due) in
        absurd cc

-- the row and the column, before what a template goes on with
unfoldable after_place : Option PlaceRead → Template → Option Front
after_place none t = none
after_place (some p) t = with_value p.row (with_value p.column (front t p.rest))

place_front : (t : Template) (s : List ℕ) → front (word "(cell " ∷ figure ∷ word " " ∷ figure ∷ t) s ≡ after_place (front_place s) t
unfolding front front_place after_place
place_front t s = at_word (after (bytes "(cell ") s) refl
  where
    at_word : (o : Option (List ℕ)) → after (bytes "(cell ") s ≡ o → front (word "(cell " ∷ figure ∷ word " " ∷ figure ∷ t) s ≡ after_place (front_place s) t
    at_word none e = rw (e, front, front_place)
    at_word (some q) e = at_row (take_figure q) refl
      where
        at_row : (o : Option Figured) → take_figure q ≡ o → front (word "(cell " ∷ figure ∷ word " " ∷ figure ∷ t) s ≡ after_place (front_place s) t
        at_row none f = rw (e, f, front, front_place)
        at_row (some r) f = at_blank (after (bytes " ") r.rest) refl
          where
            at_blank : (o : Option (List ℕ)) → after (bytes " ") r.rest ≡ o → front (word "(cell " ∷ figure ∷ word " " ∷ figure ∷ t) s ≡ after_place (front_place s) t
            at_blank none g = rw (e, f, g, front, front_place)
            at_blank (some p) g = at_column (take_figure p) refl
              where
                at_column : (o : Option Figured) → take_figure p ≡ o → front (word "(cell " ∷ figure ∷ word " " ∷ figure ∷ t) s ≡ after_place (front_place s) t
                at_column none h = rw (e, f, g, h, front, front_place)
                at_column (some c) h = rw (e, f, g, h, front, front_place)

-- the end of a line with a switch
switch_front : (w : String) (s : List ℕ) → front_switch (bytes w) s ≡ map (λ (x : Front). record { figure = switch_of (get_or x.vals 0 0); rest = x.rest }) (front (word w ∷ figure ∷ word "))" ∷ []) s)
unfolding front front_switch
switch_front w s = at_word (after (bytes w) s) refl
  where
    at_word : (o : Option (List ℕ)) → after (bytes w) s ≡ o → front_switch (bytes w) s ≡ map (λ (x : Front). record { figure = switch_of (get_or x.vals 0 0); rest = x.rest }) (front (word w ∷ figure ∷ word "))" ∷ []) s)
    at_word none e = rw (e, front, front_switch)
    at_word (some q) e = at_figure (take_figure q) refl
      where
        at_figure : (o : Option Figured) → take_figure q ≡ o → front_switch (bytes w) s ≡ map (λ (x : Front). record { figure = switch_of (get_or x.vals 0 0); rest = x.rest }) (front (word w ∷ figure ∷ word "))" ∷ []) s)
        at_figure none f = rw (e, f, front, front_switch)
        at_figure (some x) f = at_end (after (bytes "))" ++ (10 ∷ [])) x.rest) refl
          where
            at_end : (o : Option (List ℕ)) → after (bytes "))" ++ (10 ∷ [])) x.rest ≡ o → front_switch (bytes w) s ≡ map (λ (x : Front). record { figure = switch_of (get_or x.vals 0 0); rest = x.rest }) (front (word w ∷ figure ∷ word "))" ∷ []) s)
            at_end none g = rw (e, f, g, front, front_switch)
            at_end (some r) g = rw (e, f, g, front, front_switch)

abbrev on_end : Template
on_end = word " (on))" ∷ []

abbrev yes_end : Template
yes_end = word " (yes " ∷ figure ∷ word "))" ∷ []

abbrev no_end : Template
no_end = word " (no " ∷ figure ∷ word "))" ∷ []

kind_on : (s : List ℕ) (x : Front) → front on_end s ≡ some x → front_kind s ≡ some (record { cell = On; rest = x.rest })
unfolding front front_kind
kind_on s x h = by (after (bytes " (on))" ++ (10 ∷ [])) s) refl
  where
    by : (o : Option (List ℕ)) → after (bytes " (on))" ++ (10 ∷ [])) s ≡ o → front_kind s ≡ some (record { cell = On; rest = x.rest })
    by none e = let z : ◌≡◌ {A = Option Front} none (some x) = rw (e, front) at h in absurd cc
    by (some r) e =
        let z : ◌≡◌ {A = Option Front} (some (record { vals = []; rest = r })) (some x) = rw (e, front) at h in
        let y : ◌≡◌ {A = Front} (record { vals = []; rest = r }) x = cc in
        rw (e, front_kind) (ap (λ (q : Front). some (record { cell = On; rest = q.rest })) y)

kind_other : (s : List ℕ) → front on_end s ≡ none
    → front_kind s
    ≡ elim (front_switch (bytes " (yes ") s) [
      | some f ↦ some (record { cell = Yes f.figure; rest = f.rest })
      | none ↦ map (λ (f : Figured). record { cell = No f.figure; rest = f.rest }) (front_switch (bytes " (no ") s)
    ]
unfolding front front_kind
kind_other s h = by (after (bytes " (on))" ++ (10 ∷ [])) s) refl
  where
    by : (o : Option (List ℕ)) → after (bytes " (on))" ++ (10 ∷ [])) s ≡ o
        → front_kind s
        ≡ elim (front_switch (bytes " (yes ") s) [
          | some f ↦ some (record { cell = Yes f.figure; rest = f.rest })
          | none ↦ map (λ (f : Figured). record { cell = No f.figure; rest = f.rest }) (front_switch (bytes " (no ") s)
        ]
    by none e = rw (e, front_kind)
    by (some r) e = let z : ◌≡◌ {A = Option Front} (some (record { vals = []; rest = r })) none = rw (e, front) at h in absurd cc

module _ (s : List ℕ) (not_on : front on_end s ≡ none) where
  kind_yes : (x : Front) → front yes_end s ≡ some x → front_kind s ≡ some (record { cell = Yes (switch_of (get_or x.vals 0 0)); rest = x.rest })
  kind_yes x h = kind_other s not_on ∙ rw (switch_front " (yes " s, h)

  module _ (not_yes : front yes_end s ≡ none) where
    kind_no : (x : Front) → front no_end s ≡ some x → front_kind s ≡ some (record { cell = No (switch_of (get_or x.vals 0 0)); rest = x.rest })
    kind_no x h = kind_other s not_on ∙ rw (switch_front " (yes " s, not_yes, switch_front " (no " s, h)

    kind_none : front no_end s ≡ none → front_kind s ≡ none
    kind_none h = kind_other s not_on ∙ rw (switch_front " (yes " s, not_yes, switch_front " (no " s, h)

-- what is read of a cell line, and what the line is
data CellRead (s : List ℕ) : Type 0 where
  no_cell : front_cell s ≡ none → ((l : List ℕ) (ls : Lines) → lines_of s ≡ l ⏎ ls → placed l ≡ none) → CellRead s
  a_cell : (p : Placed) (l rest : List ℕ)
      → front_cell s ≡ some (record { form = cell_form p.row p.column (capped_cell p.cell); rest = rest })
      → lines_of s ≡ l ⏎ lines_of rest
      → placed l ≡ some p
      → CellRead s

module _ (s : List ℕ) where
  -- the three forms by what follows the place
  on_front : front on_form s ≡ after_place (front_place s) on_end
  unfolding on_form
  on_front = place_front on_end s

  yes_front : front yes_form s ≡ after_place (front_place s) yes_end
  unfolding yes_form
  yes_front = place_front yes_end s

  no_front : front no_form s ≡ after_place (front_place s) no_end
  unfolding no_form
  no_front = place_front no_end s

  none_placed : front on_form s ≡ none → front yes_form s ≡ none → front no_form s ≡ none → (l : List ℕ) (ls : Lines) → lines_of s ≡ l ⏎ ls → placed l ≡ none
  unfolding placed
  none_placed not_on not_yes not_no l ls e =
      rw (missing on_form s on_apart not_on l ls e, missing yes_form s yes_apart not_yes l ls e, missing no_form s no_apart not_no l ls e, placed)

  by_place : (o : Option PlaceRead) → front_place s ≡ o → CellRead s
  unfolding front_cell after_place placed capped_cell
  by_place none e = no_cell (rw (e, front_cell)) (none_placed (on_front ∙ rw e) (yes_front ∙ rw e) (no_front ∙ rw e))
  by_place (some p) e = by_on (front on_end p.rest) refl
    where
      by_on : (o : Option Front) → front on_end p.rest ≡ o → CellRead s
      by_on (some x) h =
          let t = found on_form s (record { vals = p.row ∷ p.column ∷ x.vals; rest = x.rest }) on_apart (on_front ∙ rw (e, after_place, h)) in
          a_cell (record { row = p.row; column = p.column; cell = On }) t.0 x.rest (rw (e, front_cell, kind_on p.rest x h)) t.1 (rw (t.2, placed))
      by_on none h = by_yes (front yes_end p.rest) refl
        where
          not_on : front on_form s ≡ none
          not_on = on_front ∙ rw (e, after_place, h)

          by_yes : (o : Option Front) → front yes_end p.rest ≡ o → CellRead s
          by_yes (some x) k =
              let t = found yes_form s (record { vals = p.row ∷ p.column ∷ x.vals; rest = x.rest }) yes_apart (yes_front ∙ rw (e, after_place, k)) in
              a_cell (record { row = p.row; column = p.column; cell = Yes (get_or x.vals 0 0) }) t.0 x.rest (rw (e, front_cell, kind_yes p.rest h x k)) t.1
              (rw (missing on_form s on_apart not_on t.0 _ t.1, t.2, placed))
          by_yes none k = by_no (front no_end p.rest) refl
            where
              not_yes : front yes_form s ≡ none
              not_yes = yes_front ∙ rw (e, after_place, k)

              by_no : (o : Option Front) → front no_end p.rest ≡ o → CellRead s
              by_no (some x) j =
                  let t = found no_form s (record { vals = p.row ∷ p.column ∷ x.vals; rest = x.rest }) no_apart (no_front ∙ rw (e, after_place, j)) in
                  a_cell (record { row = p.row; column = p.column; cell = No (get_or x.vals 0 0) }) t.0 x.rest (rw (e, front_cell, kind_no p.rest h k x j)) t.1
                  (rw (missing on_form s on_apart not_on t.0 _ t.1, missing yes_form s yes_apart not_yes t.0 _ t.1, t.2, placed))
              by_no none j =
                  no_cell (rw (e, front_cell, kind_none p.rest h k j)) (none_placed not_on not_yes (no_front ∙ rw (e, after_place, j)))

-- A reader that answers what it read, or the refusal, keeps the promise of a cell line.
module _ (n : ℕ) (s : List ℕ) where
  refused_is : (r : LineRead) → front_cell s ≡ none → (r.form ≡ not_due n) × (r.rest.now ≡ s) → CellIs n s r.form r.rest.now
  unfolding placed_form placed_in
  refused_is r h e = by (by_place s (front_place s) refl)
    where
      by : CellRead s → CellIs n s r.form r.rest.now
      by (a_cell p l rest c ls k) = absurd cc
      by (no_cell c none_there) = record {
        yields = e.0 ∙ sym (ap (placed_form n) (at_lines (lines_of s) refl));
        leaves = λ l ls p d k. let z = none_there l ls d in absurd cc;
        stays = λ z. e.1;
      }
        where
          at_lines : (ls : Lines) → lines_of s ≡ ls → placed_in (lines_of s) ≡ none
          at_lines (left t) d = rw d
          at_lines (l ⏎ ls) d = rw d (none_there l ls d)

  read_is : (r : LineRead) → front_cell s ≡ some (read_of r) → CellIs n s r.form r.rest.now
  unfolding placed_form placed_in
  read_is r h = by (by_place s (front_place s) refl)
    where
      by : CellRead s → CellIs n s r.form r.rest.now
      by (no_cell c none_there) = absurd cc
      by (a_cell p l rest c ls k) =
          let y : ◌≡◌ {A = FormRead} (record { form = cell_form p.row p.column (capped_cell p.cell); rest = rest }) (read_of r) = cc in
          record {
            yields = sym (ap (λ (q : FormRead). q.form) y) ∙ rw (ls, k, placed_form);
            leaves = λ m ms q d j. let z : ms ≡ lines_of rest = cc in z ∙ ap (λ (x : FormRead). lines_of x.rest) y;
            stays = λ z. let w : placed_in (lines_of s) ≡ some p = rw ls k in absurd cc;
          }

  pub cell_is : (o : Std.Option LineRead) (x r : LineRead) → Given (front_cell s) read_of o → (x.form ≡ not_due n) × (x.rest.now ≡ s) → r ≡ unwrap_or o x → CellIs n s r.form r.rest.now
  cell_is None x r h e u = rw u (refused_is x h e)
  cell_is (Some q) x r h e u = rw u (read_is q h)
