-- The lines of document 01, one template each: "One blank stands between items, none elsewhere."; and the lines of all outputs in turn.
use Rattle.std.specs.Prelude.{ℕ, zero, suc, List, [], ◌∷◌, ◌++◌}
use Rattle.forms.specs.Template.{Template, word, figure, label, line}

-- "Job text", 1: `(job V N K)`
unfoldable pub job_form : Template
job_form = word "(job " ∷ figure ∷ word " " ∷ figure ∷ word " " ∷ figure ∷ word ")" ∷ []

-- 2: `(one T)`
unfoldable pub one_form : Template
one_form = word "(one " ∷ label ∷ word ")" ∷ []

-- 3: `(node I X (L H) T)`
unfoldable pub node_form : Template
node_form =
    word "(node "
    ∷ figure
    ∷ word " "
    ∷ figure
    ∷ word " ("
    ∷ figure
    ∷ word " "
    ∷ figure
    ∷ word ") "
    ∷ label
    ∷ word ")"
    ∷ []

-- 4: `(out J I)`, and in a listing `(out J r)`
unfoldable pub out_form : Template
out_form = word "(out " ∷ figure ∷ word " " ∷ figure ∷ word ")" ∷ []

-- the line of each output, from output j on: "then `(out J r)` for each output", and so in a job's text
unfoldable pub out_lines : ℕ → List ℕ → List ℕ
out_lines j [] = []
out_lines j (i ∷ is) = line out_form (j ∷ i ∷ []) ++ out_lines (suc j) is

-- 5: `(end)`
unfoldable pub end_form : Template
end_form = word "(end)" ∷ []

-- "Listing": `(crossbar R C V K)`
unfoldable pub crossbar_form : Template
crossbar_form =
    word "(crossbar " ∷ figure ∷ word " " ∷ figure ∷ word " " ∷ figure ∷ word " " ∷ figure ∷ word ")" ∷ []

-- `(cell r c (on))`, `(cell r c (yes x))`, `(cell r c (no x))`
unfoldable pub on_form : Template
on_form = word "(cell " ∷ figure ∷ word " " ∷ figure ∷ word " (on))" ∷ []

unfoldable pub yes_form : Template
yes_form = word "(cell " ∷ figure ∷ word " " ∷ figure ∷ word " (yes " ∷ figure ∷ word "))" ∷ []

unfoldable pub no_form : Template
no_form = word "(cell " ∷ figure ∷ word " " ∷ figure ∷ word " (no " ∷ figure ∷ word "))" ∷ []

-- "Two programs": `(refused n line)`, `(rounds t)`, `(reads J v)`
unfoldable pub refused_form : Template
refused_form = word "(refused " ∷ figure ∷ word " " ∷ figure ∷ word ")" ∷ []

unfoldable pub rounds_form : Template
rounds_form = word "(rounds " ∷ figure ∷ word ")" ∷ []

unfoldable pub reads_form : Template
reads_form = word "(reads " ∷ figure ∷ word " " ∷ figure ∷ word ")" ∷ []

-- `(set f f ..)` with n figures
unfoldable pub set_figures : ℕ → Template
set_figures zero = word ")" ∷ []
set_figures (suc n) = word " " ∷ figure ∷ set_figures n

unfoldable pub set_form : ℕ → Template
set_form n = word "(set" ∷ set_figures n
