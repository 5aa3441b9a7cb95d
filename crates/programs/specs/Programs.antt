-- Document 01, "Two programs": what each prints for its whole input.
use Rattle.std.specs.Prelude.{ℕ, suc, ◌+◌, ◌*◌, true, false, not, ◌&&◌, List, [], ◌∷◌, ◌++◌, length, get_or, take, eqb, leb, ltb}
use Rattle.std.proofs.Math.Option.{some, none}
use Rattle.common.specs.Limits.{max_rows, max_columns, max_switches, max_input}
use Rattle.common.specs.Lists.{bit, all_of}
use Rattle.common.specs.Outcome.{Outcome, done, refused, ◌then◌, ◌when◌, lowest, unless}
use Rattle.figures.specs.Line.{Lines, left, ◌⏎◌, lines_of}
use Rattle.cells.specs.declared.Crossbar.{Crossbar}
use Rattle.cells.specs.Record.{Whole}
use Rattle.forms.specs.Template.{values, line}
use Rattle.forms.specs.Due.{Taken}
use Rattle.forms.specs.Forms.{set_form, refused_form, rounds_form, reads_form, end_form}
use Rattle.placement.specs.Map.{map_job}
use Rattle.conduction.specs.Light.{Lit, light}
use Rattle.listings.specs.Listing.{listing}
use Rattle.listings.specs.Loading.{load_from, record_of, cells_of}

-- what a program prints: the answer's text, or `(refused n line)`
unfoldable pub program_text : Outcome (List ℕ) → List ℕ
program_text (done s) = s
program_text (refused k n) = line refused_form (k ∷ n ∷ [])

-- what is to follow, unless the input is too long: "In both programs input above 65,535 bytes is `(refused 14 0)`."
unfoldable pub input_fits : List ℕ → Outcome (List ℕ) → Outcome (List ℕ)
input_fits s rest = unless (lowest ((14 when ltb max_input (length s)) ∷ [])) 0 rest

-- "The first reads a job from standard input and prints the listing, or `(refused n line)`."
unfoldable pub map_program : List ℕ → List ℕ
map_program s = program_text (input_fits s (map_job s (max_rows * max_columns) then λ w. done (listing w.head w.codes)))

-- how many blanks (byte 32) a line has
unfoldable pub blanks : List ℕ → ℕ
blanks [] = 0
blanks (b ∷ s) = elim (eqb b 32) [ true ↦ suc (blanks s) | false ↦ blanks s ]

-- "a line `(set 1 1)` (V figures 0 or 1; `(set)` when V is 0; up to 64 in form, and any other figure is 1)": a blank stands before
-- each figure, so a line with n blanks has n figures
unfoldable pub set_line : Lines → Outcome Taken
set_line (left s) = refused 1 1
set_line (l ⏎ ls) =
    elim (values (set_form (blanks l)) l) [
      | none ↦ refused 1 1
      | some vs ↦
          unless (lowest ((1 when not (leb (length vs) max_switches && all_of (λ b. leb b 1) vs)) ∷ [])) 1
          (done (record { vals = vs; later = ls }))
    ]

-- what an output on row r reads. Document 02, Req 01: "An output reads 1 exactly when its number is not 0."
unfoldable pub reading : List ℕ → ℕ → ℕ
reading firsts r = bit (not (eqb (get_or firsts r 0) 0))

-- "a line `(reads J v)` for each output with v 1 if lit", from output j on
unfoldable pub reads_lines : List ℕ → ℕ → List ℕ → List ℕ
reads_lines firsts j [] = []
reads_lines firsts j (r ∷ rs) = line reads_form (j ∷ reading firsts r ∷ []) ++ reads_lines firsts (suc j) rs

-- "It prints `(rounds t)`, a line `(reads J v)` for each output with v 1 if lit, and `(end)`."
unfoldable pub readings : Crossbar → Lit → List ℕ
readings x a = line rounds_form (a.count ∷ []) ++ reads_lines a.firsts 0 (take x.outputs x.outs) ++ line end_form []

-- light on the loaded crossbar under the set line's setting, then its readings: "a set line with the wrong number of figures is `(refused 13 0)` after the listing
-- passes"
unfoldable pub light_and_read : List ℕ → Whole → Outcome (List ℕ)
light_and_read setting w =
    light w.head w.codes setting (max_rows + max_columns) then λ a. done (readings w.head a)

-- "Two programs": "The second reads a line `(set 1 1)` .. and then a listing. .. Its lines count over the whole input": the listing's first
-- is line 2
unfoldable pub light_program : List ℕ → List ℕ
light_program s =
    program_text
    (input_fits s
    (set_line (lines_of s)
    then λ o. load_from 2 o.later then λ x. light_and_read o.vals (record { head = record_of x; codes = cells_of x })))
