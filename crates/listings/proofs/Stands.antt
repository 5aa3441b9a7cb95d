-- The reader of output lines between two lines: the output rows so far, and how a line takes it further.
use Prim.Native.Nat.{ℕ, suc, ◌+◌, ◌-◌, ◌≤◌, ◌<◌}
use mathlib.Core.Path.{◌≡◌, refl, sym, ap, ◌∙◌}
use mathlib.Core.List.{List, [], ◌∷◌, ◌++◌}
use native.Mathlib.Omega.{arith}
use lib.ListN.{length, set, take, drop, length-append, length-set, length-replicate}
use borrow.Author.Tests.{ltb-true}
use Rattle.std.specs.Prelude.{Result, Ok, Err, IfErr, MatchResult}
use Rattle.std.proofs.lemmas.List.{take-replicate, drop-replicate}
use Rattle.common.proofs.Lists.{padded-set}
use Rattle.common.specs.declared.Fault.{Fault}
use Rattle.common.specs.declared.Fault.TheVariants as fault
use Rattle.common.specs.declared.Refusal.{Refusal}
use Rattle.common.specs.Limits.{max_rows, max_outputs}
use Rattle.common.specs.Lists.{zeros, padded}
use Rattle.common.specs.Outcome.{done, refused, ◌then◌, unless}
use Rattle.common.specs.Fault.{fault_of, faults, tested, handed}
use Rattle.common.proofs.Lists.{padded_full}
use Rattle.common.proofs.Outcome.{unless_none}
use Rattle.common.proofs.Faults.{handed_failed, tested_passed, handed_on}
use Rattle.figures.specs.Line.{lines_of}
use Rattle.listings.specs.declared.sizes.ListingSizes.{ListingSizes}
use Rattle.forms.specs.declared.OutForm.{OutForm}
use Rattle.forms.specs.Forms.{out_form}
use Rattle.forms.specs.Due.{due, last_line}
use Rattle.forms.proofs.Told.{IsDue}
use Rattle.forms.proofs.LastLine.{last_hands}
use Rattle.listings.specs.Loading.{Listed, out_row_fault, with_out_row, load_end, load_outs}
use Rattle.listings.specs.Loader.{listed}
use Rattle.listings.proofs.Faults.{row_counted}
use Rattle.listings.proofs.Loaded.{stand_facts}
use Rattle.listings.proofs.Steps.{ranged}

-- the output rows of a listing as the record has them
abbrev pub rows_read : Listed → List ℕ
rows_read x = padded max_outputs x.outs

-- output lines of a text from line n on, with `rest` left of it from the line of output j on: `outs` has an entry for each output
pub record StandsRead (text : List ℕ) (s : ListingSizes) (n : ℕ) (outs rest : List ℕ) (j : ℕ) : Type 0 where
  pub stands : List ℕ
  pub same : load_outs s.form.outputs (listed s.form [] []) n (lines_of text) ≡ load_outs (s.form.outputs - j) (listed s.form [] stands) (n + j) (lines_of rest)
  pub counted : length stands ≡ j
  pub holds : padded s.form.outputs stands ≡ outs
  pub long : length outs ≡ s.form.outputs

pub standing_start : (text : List ℕ) (s : ListingSizes) (n : ℕ) → StandsRead text s n (take s.form.outputs (zeros 32)) text 0
unfolding padded max_outputs
standing_start text s n =
    let whole : s.form.outputs ≡ s.form.outputs - 0 = omega arith in
    let here : n ≡ n + 0 = omega arith in
    let few : s.form.outputs ≤ 32 = (ranged s).outputs_most in
    let clear : take s.form.outputs (zeros 32) ≡ zeros s.form.outputs = take-replicate s.form.outputs 32 0 few in
    record {
      stands = [];
      same =
          ap (λ (k : ℕ). load_outs k (listed s.form [] []) n (lines_of text)) whole
          ∙ ap (λ (m : ℕ). load_outs (s.form.outputs - 0) (listed s.form [] []) m (lines_of text)) here;
      counted = refl;
      holds = ap zeros (sym whole) ∙ sym clear;
      long = ap length clear ∙ length-replicate s.form.outputs 0;
    }

module _ {text : List ℕ} {s : ListingSizes} {n : ℕ} {outs rest : List ℕ} {j : ℕ} (g : StandsRead text s n outs rest j) where
  -- after the last output line
  module _ (k : j ≡ s.form.outputs) where
    -- the output rows of the record
    standing_rows : padded max_outputs g.stands ≡ outs ++ drop s.form.outputs (zeros 32)
    unfolding padded max_outputs
    standing_rows =
        let full : length g.stands ≡ s.form.outputs = omega (arith, g.counted) in
        rw (← g.holds, padded_full s.form.outputs g.stands full, drop-replicate {X = ℕ} s.form.outputs 32 0, full) refl

    pub standing_end : load_outs s.form.outputs (listed s.form [] []) n (lines_of text) ≡ last_line (n + s.form.outputs) (lines_of rest) then λ o. done (listed s.form [] g.stands)
    unfolding load_outs load_end
    standing_end =
        let none_left : s.form.outputs - j ≡ 0 = omega arith in
        g.same
        ∙ ap (λ (i : ℕ). load_outs i (listed s.form [] g.stands) (n + j) (lines_of rest)) none_left
        ∙ ap (λ (i : ℕ). load_end (listed s.form [] g.stands) (n + i) (lines_of rest)) k
        ∙ last_hands (listed s.form [] g.stands) (n + s.form.outputs) (lines_of rest)

    pub standing_stop :
        {r : Refusal}
        → handed (λ o. o) (last_line (n + s.form.outputs) (lines_of rest)) ≡ Err r
        → handed rows_read (load_outs s.form.outputs (listed s.form [] []) n (lines_of text)) ≡ Err r
    standing_stop {r} e = ap (handed rows_read) standing_end ∙ handed_on (λ o. o) rows_read (last_line (n + s.form.outputs) (lines_of rest)) _ r e

    pub standing_done :
        last_line (n + s.form.outputs) (lines_of rest) ≡ done tt
        → handed rows_read (load_outs s.form.outputs (listed s.form [] []) n (lines_of text)) ≡ Ok (outs ++ drop s.form.outputs (zeros 32))
    unfolding ◌then◌ handed
    standing_done e = ap (handed rows_read) (standing_end ∙ ap (λ o. o then λ z. done (listed s.form [] g.stands)) e) ∙ ap Ok standing_rows

  module _ (h : j < s.form.outputs) where
    due_here :
        load_outs s.form.outputs (listed s.form [] []) n (lines_of text)
        ≡ load_outs (suc (s.form.outputs - (j + 1))) (listed s.form [] g.stands) (n + j) (lines_of rest)
    due_here =
        let one_more : s.form.outputs - j ≡ suc (s.form.outputs - (j + 1)) = omega arith in
        g.same ∙ ap (λ (k : ℕ). load_outs k (listed s.form [] g.stands) (n + j) (lines_of rest)) one_more

    -- a line that is not an output's
    pub standing_missing :
        due out_form (n + j) (lines_of rest) ≡ refused 1 (n + j)
        → handed rows_read (load_outs s.form.outputs (listed s.form [] []) n (lines_of text)) ≡ Err (record { fault = fault.NotDue; line = n + j })
    unfolding load_outs ◌then◌ handed fault_of faults
    standing_missing d = ap (handed rows_read) due_here ∙ rw d refl

    module _ {f : OutForm} (after : List ℕ) (d : IsDue out_form (n + j) rest (f.number ∷ f.target ∷ []) after) where
      step :
          load_outs s.form.outputs (listed s.form [] []) n (lines_of text)
          ≡ unless (out_row_fault (listed s.form [] g.stands) f.number f.target) (n + j)
          (load_outs (s.form.outputs - (j + 1)) (with_out_row (listed s.form [] g.stands) f.target) (n + j + 1) (lines_of after))
      unfolding load_outs ◌then◌
      step = due_here ∙ rw d refl

      counted_here : out_row_fault (listed s.form [] (zeros j)) f.number f.target ≡ out_row_fault (listed s.form [] g.stands) f.number f.target
      counted_here = row_counted s.form g.stands j f.number f.target g.counted

      -- an output line with a fault
      pub standing_fault :
          (r : Result (Unit {0}) Fault) (q : Refusal)
          → r ≡ tested (out_row_fault (listed s.form [] (zeros j)) f.number f.target)
          → MatchResult r (λ u. ⊥) (λ x. q ≡ record { fault = x; line = n + j })
          → handed rows_read (load_outs s.form.outputs (listed s.form [] []) n (lines_of text)) ≡ Err q
      standing_fault r q is h = ap (handed rows_read) step ∙ handed_failed rows_read (n + j) _ r _ q (is ∙ ap tested counted_here) h

      -- an output line without one
      module _
          (r : Result (Unit {0}) Fault)
          (ok : r ≡ tested (out_row_fault (listed s.form [] (zeros j)) f.number f.target))
          (passed : IfErr r (λ x. ⊥))
        where
          fault_none : out_row_fault (listed s.form [] g.stands) f.number f.target ≡ 0
          fault_none = tested_passed r _ (ok ∙ ap tested counted_here) passed

          pub target_small : f.target < max_rows
          target_small =
              let w = stand_facts (listed s.form [] g.stands) f.number f.target fault_none in
              omega (arith, ltb-true f.target s.form.rows w.1, (ranged s).rows_most)

          pub standing_more : StandsRead text s n (set outs j f.target) after (j + 1)
          unfolding with_out_row
          standing_more =
              let next : n + j + 1 ≡ n + (j + 1) = omega arith in
              record {
                stands = g.stands ++ (f.target ∷ []);
                same = step ∙ unless_none _ (n + j) _ fault_none ∙ rw next refl;
                counted = simp length-append (omega (arith, g.counted));
                holds = sym (rw (← g.holds) (padded-set s.form.outputs g.stands j f.target g.counted h));
                long = simp length-set g.long;
              }
