-- How the reading of a job ends, and walk: with a number of 1 to 15 and a line below a bound, or an accepted job.
use Prim.Native.Nat.{ℕ, zero, suc, ◌+◌, ◌*◌, ◌≤◌}
use mathlib.Core.Path.{refl, ◌≡◌}
use mathlib.Core.List.{List, []}
use native.Mathlib.Omega.{arith}
use native.Mathlib.Nat.{mul-le-mul}
use lib.ListN.{get_or}
use lib.Dec.{ltb}
use borrow.Author.Tests.{ltb-false}
use Rattle.std.proofs.lemmas.Bool.{or_parts}
use Rattle.common.specs.Limits.{max_rows, max_columns}
use Rattle.common.specs.Outcome.{Outcome, most_number, number_of, done}
use Rattle.common.proofs.Lists.{bit_most}
use Rattle.common.proofs.Outcome.{not_met}
use Rattle.common.proofs.Within.{EndsWithin, ends_done, then_ends, unless_ends, within, most_line, zero_done}
use Rattle.figures.specs.Line.{Lines, lines_of}
use Rattle.forms.specs.Due.{due}
use Rattle.forms.specs.Forms.{job_form, one_form, node_form, out_form, end_form}
use Rattle.forms.proofs.Template.{due_ends}
use Rattle.diagram.specs.Diagram.{Diagram}
use Rattle.diagram.specs.Faults.{head_fault, one_fault, node_fault, out_fault}
use Rattle.diagram.specs.Walk.{walk_value}
use Rattle.diagram.specs.Wires.{row_count, column_count, too_large}
use Rattle.jobs.specs.Reading.{ReadText, read_end, read_outs, read_nodes, read_one, read_head, read_text}
use Rattle.jobs.specs.Job.{size_tested, accepted, walk}
use Rattle.jobs.proofs.Accepted.{head_ranges}

-- the lines of a job, from line n on
module _ (b : ℕ) where
  abbrev EndsText : Outcome ReadText → Type 0
  EndsText = EndsWithin (λ (t : ReadText). t.last ≤ b) b

  end_ends : (d : Diagram) (n : ℕ) (ls : Lines) → n + 1 ≤ b → EndsText (read_end d n ls)
  unfolding read_end within most_number
  end_ends d n ls h =
      let here : n ≤ b = omega arith in
      then_ends (due end_form n ls) _ (due_ends end_form n ls here) (λ o g. unless_ends _ (n + 1) _ refl h (λ z. ends_done here))

  outs_end : (k : ℕ) (d : Diagram) (n : ℕ) (ls : Lines) → n + k + 1 ≤ b → EndsText (read_outs k d n ls)
  unfolding read_outs out_fault within most_number
  outs_end zero d n ls h = end_ends d n ls (omega arith)
  outs_end (suc k) d n ls h =
      let here : n ≤ b = omega arith in
      let rest : (n + 1) + k + 1 ≤ b = omega arith in
      then_ends (due out_form n ls) _ (due_ends out_form n ls here)
      (λ o g. unless_ends _ n _ refl here (λ z. outs_end k _ (n + 1) o.later rest))

  nodes_end : (m k : ℕ) (d : Diagram) (n : ℕ) (ls : Lines) → n + m + k + 1 ≤ b → EndsText (read_nodes m k d n ls)
  unfolding read_nodes node_fault within most_number
  nodes_end zero k d n ls h = outs_end k d n ls (omega arith)
  nodes_end (suc m) k d n ls h =
      let here : n ≤ b = omega arith in
      let rest : (n + 1) + m + k + 1 ≤ b = omega arith in
      then_ends (due node_form n ls) _ (due_ends node_form n ls here)
      (λ o g. unless_ends _ n _ refl here (λ z. nodes_end m k _ (n + 1) o.later rest))

  one_ends : (v m k n : ℕ) (ls : Lines) → n + m + k + 2 ≤ b → EndsText (read_one v m k n ls)
  unfolding read_one one_fault within most_number
  one_ends v m k n ls h =
      let here : n ≤ b = omega arith in
      let rest : (n + 1) + m + k + 1 ≤ b = omega arith in
      then_ends (due one_form n ls) _ (due_ends one_form n ls here)
      (λ o g. unless_ends _ n _ refl here (λ z. nodes_end m k _ (n + 1) o.later rest))

text_ends : (s : List ℕ) → EndsText most_line (read_text s)
unfolding read_text read_head head_fault within most_number most_line
text_ends s =
    then_ends (due job_form 1 (lines_of s)) _ (due_ends job_form 1 (lines_of s) (omega arith))
    (λ o g.
    unless_ends _ 1 _ refl g
    (λ z.
    let ranges = head_ranges (get_or o.vals 0 0) (get_or o.vals 1 0) (get_or o.vals 2 0) z in
    one_ends most_line (get_or o.vals 0 0) (get_or o.vals 1 0) (get_or o.vals 2 0) (1 + 1) o.later (omega (arith, ranges.1, ranges.3))))

-- an accepted job has at most 128 · 128 cells
pub accepted_ends : (s : List ℕ) → EndsWithin (λ (d : Diagram). row_count d * column_count d ≤ max_rows * max_columns) most_line (accepted s)
unfolding accepted size_tested too_large within most_number
accepted_ends s =
    then_ends (read_text s) _ (text_ends s)
    (λ t last.
    unless_ends _ t.last _ refl last
    (λ z.
    let r = row_count t.diagram in
    let c = column_count t.diagram in
    let small = or_parts (ltb max_rows r) (ltb max_columns c) (not_met 10 (too_large t.diagram) [] z) in
    ends_done (mul-le-mul (ltb-false max_rows r small.0) (ltb-false max_columns c small.1))))

-- number 0: the job is accepted
pub accepted_done : (s : List ℕ) → number_of (accepted s) ≡ 0 → (d : Diagram) × (accepted s ≡ done d)
accepted_done s e = let found = zero_done (accepted s) (accepted_ends s) e in (found.0, found.1)

-- walk's value
pub walk_ends : (s setting : List ℕ) (j : ℕ) → EndsWithin (λ v. v ≤ 1) most_line (walk s setting j)
unfolding walk walk_value within most_number
walk_ends s setting j =
    then_ends (accepted s) _ (accepted_ends s) (λ d most. unless_ends _ 0 _ refl (omega arith) (λ z. ends_done (bit_most _)))
