-- A job has exactly one text: the text of a diagram is read as that diagram, and what is read is the text of its diagram.
use Prim.Native.Nat.{ℕ}
use mathlib.Core.Path.{◌≡◌, sym, ap, ◌∙◌}
use mathlib.Core.Bool.{false}
use mathlib.Core.List.{List}
use borrow.Author.Tests.{le-ltb}
use Rattle.common.specs.Limits.{max_rows, max_columns}
use Rattle.common.specs.Outcome.{done, lowest}
use Rattle.common.proofs.Outcome.{then_done, then_is, unless_done, unless_none}
use Rattle.figures.specs.Line.{lines_of}
use Rattle.diagram.proofs.Valid.{valid_facts}
use Rattle.diagram.specs.Diagram.{Diagram}
use Rattle.diagram.specs.Facts.{Facts, Sizes}
use Rattle.diagram.specs.Wires.{row_count, column_count, too_large}
use Rattle.jobs.specs.Reading.{ReadText, read_text}
use Rattle.jobs.specs.Job.{size_tested, accepted}
use Rattle.jobs.specs.Text.{job_text, HeadSizes, IsRead, OneText}
use Rattle.jobs.proofs.Accepted.{read_head_lem, accepted_job}
use Rattle.jobs.proofs.TextWritten.{written_read}
use Rattle.jobs.proofs.TextTold.{text_told}

-- a text that is read without a fault of 1 to 10
read_is : (s : List ℕ) (t : ReadText) → read_text s ≡ done t → IsRead s t
unfolding read_text
read_is s t h =
    let read = read_head_lem 1 (lines_of s) t h in
    let told = text_told s t h in
    record {
      facts = valid_facts t.diagram read.valid;
      sizes =
          record {
            switches_most = read.switches_most;
            nodes_most = read.nodes_most;
            outs_least = read.outs_least;
            outs_most = read.outs_most;
          };
      text = told.0;
      last = told.1;
    }

is_read : (s : List ℕ) (t : ReadText) → IsRead s t → read_text s ≡ done t
is_read s t r =
    ap read_text r.text
    ∙ written_read t.diagram r.facts r.sizes
    ∙ ap (λ (n : ℕ). done (record { diagram = t.diagram; last = n })) (sym r.last)

-- a text that is accepted
pub accepted_text : (s : List ℕ) (d : Diagram) → accepted s ≡ done d → s ≡ job_text d
unfolding accepted size_tested
accepted_text s d h =
    let taken = then_done (read_text s) _ d h in
    let kept = unless_done _ taken.0.last (done taken.0.diagram) d taken.2 in
    let e = kept.1 in
    let same : taken.0.diagram ≡ d = cc in
    (text_told s taken.0 taken.1).0 ∙ ap job_text same

-- ground 11 is not met
not_large : (d : Diagram) → Sizes d → too_large d ≡ false
unfolding too_large
not_large d sizes = rw (le-ltb max_rows (row_count d) sizes.rows_most, le-ltb max_columns (column_count d) sizes.columns_most)

pub accepts_text : (d : Diagram) → Facts d → Sizes d → accepted (job_text d) ≡ done d
unfolding accepted size_tested lowest
accepts_text d facts sizes =
    let head : HeadSizes d =
    record {
      switches_most = sizes.switches_most;
      nodes_most = sizes.nodes_most;
      outs_least = sizes.outs_least;
      outs_most = sizes.outs_most;
    } in
    then_is (read_text (job_text d)) _ _ (written_read d facts head) ∙ unless_none _ _ (done d) (rw (not_large d sizes))

pub one_text : OneText
one_text =
    record {
      read = λ s t. (read_is s t, is_read s t);
      accepts =
          λ s d. (
            (λ h. let job = accepted_job s d h in record { facts = job.facts; sizes = job.sizes; text = accepted_text s d h }),
            (λ r. ap accepted r.text ∙ accepts_text d r.facts r.sizes),
          );
      same_text = λ s s' d h h'. accepted_text s d h ∙ sym (accepted_text s' d h');
    }
