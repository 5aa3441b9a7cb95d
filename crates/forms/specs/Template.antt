-- A template of a line: words as they stand, and between them figures and labels. A line is the form due when the template
-- takes the whole line; its values are the figures and labels in turn.
use Rattle.std.specs.Prelude.{ℕ, true, false, List, [], ◌∷◌, ◌++◌, get_or, drop, eqb}
use Prim.Native.String.{String}
use Rattle.std.proofs.Math.Option.{Option, some, none, map}
use Rattle.common.specs.Labels.{label_h, label_v, label_b}
use Rattle.figures.specs.Bytes.{bytes, after}
use Rattle.figures.specs.Figure.{take_figure, decimal}

pub data Item : Type 0 where
  word : String → Item
  figure : Item
  label : Item

abbrev pub Template : Type 0
Template = List Item

-- "Labels T: `h` a row, `v` a column, `b` both", and the node table's "1 for `h`, 2 for `v`, 3 for `b`", of the bytes 104, 118 and 98; 0 for any other byte
unfoldable pub label_of : ℕ → ℕ
label_of b =
    elim (eqb b 104) [ true ↦ label_h | false ↦ elim (eqb b 118) [ true ↦ label_v | false ↦ elim (eqb b 98) [ true ↦ label_b | false ↦ 0 ] ] ]

-- the byte of a label; only the three labels are written
unfoldable pub letter_of : ℕ → ℕ
letter_of t = elim (eqb t label_h) [ true ↦ 104 | false ↦ elim (eqb t label_v) [ true ↦ 118 | false ↦ 98 ] ]

-- the values of a line under a template, or nothing where the line is no such form
unfoldable pub values : Template → List ℕ → Option (List ℕ)
values [] [] = some []
values [] (b ∷ s) = none
values (word w ∷ t) s = elim (after (bytes w) s) [ none ↦ none | some rest ↦ values t rest ]
values (figure ∷ t) s =
    elim (take_figure s) [ none ↦ none | some f ↦ map (λ vs. f.figure ∷ vs) (values t f.rest) ]
values (label ∷ t) [] = none
values (label ∷ t) (b ∷ s) = elim (eqb (label_of b) 0) [ true ↦ none | false ↦ map (λ vs. label_of b ∷ vs) (values t s) ]

-- the bytes of a line with these values
unfoldable pub written : Template → List ℕ → List ℕ
written [] vs = []
written (word w ∷ t) vs = bytes w ++ written t vs
written (figure ∷ t) vs = decimal (get_or vs 0 0) ++ written t (drop 1 vs)
written (label ∷ t) vs = letter_of (get_or vs 0 0) ∷ written t (drop 1 vs)

-- the line with these values and its line feed
unfoldable pub line : Template → List ℕ → List ℕ
line t vs = written t vs ++ (10 ∷ [])
