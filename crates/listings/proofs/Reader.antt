-- The reader of cell lines between two lines: what it has read so far, and how a line takes it further.
use Prim.Native.Nat.{ℕ, suc, ◌+◌, ◌*◌, ◌≤◌, ◌<◌}
use mathlib.Core.Path.{◌≡◌, refl, ap, ◌∙◌}
use mathlib.Core.List.{List, [], ◌∷◌, ◌++◌}
use native.Mathlib.Omega.{arith}
use lib.Arith.{digits_lt}
use lib.ListN.{length, set}
use Rattle.std.specs.Prelude.{Result, Err, IfErr, MatchResult}
use Rattle.common.specs.declared.Fault.{Fault}
use Rattle.common.specs.declared.Refusal.{Refusal}
use Rattle.common.specs.Limits.{max_switches}
use Rattle.common.specs.Lists.{zeros, padded}
use Rattle.common.specs.Outcome.{unless}
use Rattle.common.specs.Fault.{tested, handed}
use Rattle.common.proofs.Outcome.{unless_none}
use Rattle.common.proofs.Faults.{handed_failed, tested_passed}
use Rattle.figures.specs.Line.{lines_of}
use Rattle.cells.specs.Code.{code_of}
use Rattle.listings.specs.declared.sizes.ListingSizes.{ListingSizes}
use Rattle.forms.specs.declared.CellForm.{CellForm}
use Rattle.forms.specs.declared.Form.{Form}
use Rattle.forms.specs.declared.Form.TheVariants as form
use Rattle.forms.specs.Read.{CellIs}
use Rattle.listings.specs.Loading.{cell_fault, with_cell, load_cells}
use Rattle.listings.specs.Loader.{listed, placed_by, kept, CellsRead}
use Rattle.listings.proofs.Cells.{below_code}
use Rattle.listings.proofs.Loaded.{cell_facts, length_with}
use Rattle.listings.proofs.Faults.{cell_counted}
use Rattle.listings.proofs.Kept.{length-kept, kept_none, kept_set}
use Rattle.listings.proofs.Steps.{cell_step, other_step, ranged}

-- cell lines of a text from line n on, with `rest` left of it from line m on, and the cells before it in the first count places
pub record Going (text : List ℕ) (s : ListingSizes) (n room : ℕ) (cells rest : List ℕ) (m count : ℕ) : Type 0 where
  pub codes : List ℕ
  pub same : load_cells (listed s.form [] []) n (lines_of text) ≡ load_cells (listed s.form codes []) m (lines_of rest)
  pub counted : length codes ≡ count
  pub short : length codes ≤ s.form.rows * s.form.columns
  pub lines : m ≤ n + length codes
  pub holds : cells ≡ kept room codes

pub going_start :
    (text : List ℕ) (s : ListingSizes) (n : ℕ) (cells : List ℕ) → cells ≡ zeros (length cells) → Going text s n (length cells) cells text n 0
going_start text s n cells clear =
    record {
      codes = [];
      same = refl;
      counted = refl;
      short = omega arith;
      lines = omega arith;
      holds = clear ∙ kept_none (length cells);
    }

-- a cell line without a fault
pub record Right (s : ListingSizes) (count : ℕ) (f : CellForm) : Type 0 where
  pub row_in : f.row < s.form.rows
  pub column_in : f.column < s.form.columns
  pub later : count ≤ f.row * s.form.columns + f.column
  pub inside : f.row * s.form.columns + f.column < s.form.rows * s.form.columns
  pub code_small : code_of f.cell < 256

pub right :
    (s : ListingSizes) (codes : List ℕ) (f : CellForm) → cell_fault (listed s.form codes []) (placed_by f) ≡ 0 → Right s (length codes) f
unfolding max_switches
right s codes f h =
    let z = ranged s in
    let w = cell_facts (listed s.form codes []) (placed_by f) h in
    let code = below_code s.form.switches f.cell w.switch_in in
    record {
      row_in = w.row_in;
      column_in = w.column_in;
      later = w.later;
      inside = digits_lt w.row_in w.column_in;
      code_small = omega arith;
    }

module _ {text : List ℕ} {s : ListingSizes} {n room : ℕ} {cells rest : List ℕ} {m count : ℕ} (g : Going text s n room cells rest m count) where
  pub held : length cells ≡ room
  held = ap length g.holds ∙ length-kept room g.codes

  module _ {form' : Form} {after : List ℕ} (is : CellIs m rest form' after) where
    -- a line that is no cell line
    pub going_other : ((f : CellForm) → form' ≡ form.Cell f → ⊥) → CellsRead text n s.form rest m cells room
    going_other e =
        record {
          codes = g.codes;
          same = g.same ∙ other_step is (listed s.form g.codes []) e (ranged s).outputs_least;
          holds = g.holds;
          short = g.short;
          lines = g.lines;
        }

    module _ {f : CellForm} (e : form' ≡ form.Cell f) where
      step :
          load_cells (listed s.form [] []) n (lines_of text)
          ≡ unless (cell_fault (listed s.form g.codes []) (placed_by f)) m
          (load_cells (with_cell (listed s.form g.codes []) (placed_by f)) (m + 1) (lines_of after))
      step = g.same ∙ cell_step is e (listed s.form g.codes []) (ranged s).switches_most

      counted_here : cell_fault (listed s.form (zeros count) []) (placed_by f) ≡ cell_fault (listed s.form g.codes []) (placed_by f)
      counted_here = cell_counted s.form g.codes count (placed_by f) g.counted

      -- a cell line with a fault
      pub going_fault :
          (r : Result (Unit {0}) Fault) (q : Refusal)
          → r ≡ tested (cell_fault (listed s.form (zeros count) []) (placed_by f))
          → MatchResult r (λ u. ⊥) (λ x. q ≡ record { fault = x; line = m })
          → handed (λ a. a) (load_cells (listed s.form [] []) n (lines_of text)) ≡ Err q
      going_fault r q is' h = ap (handed (λ a. a)) step ∙ handed_failed (λ a. a) m _ r _ q (is' ∙ ap tested counted_here) h

      -- a cell line without one
      module _ (r : Result (Unit {0}) Fault) (ok : r ≡ tested (cell_fault (listed s.form (zeros count) []) (placed_by f))) (passed : IfErr r (λ x. ⊥)) where
        fault_none : cell_fault (listed s.form g.codes []) (placed_by f) ≡ 0
        fault_none = tested_passed r _ (ok ∙ ap tested counted_here) passed

        pub going_right : Right s count f
        going_right = rw g.counted at (right s g.codes f fault_none)

        pub going_more :
            {p code : ℕ} {stored : List ℕ}
            → p ≡ f.row * s.form.columns + f.column
            → code ≡ code_of f.cell
            → stored ≡ set cells p code
            → Going text s n room stored after (m + 1) (p + 1)
        unfolding with_cell
        going_more place coded is'' =
            let w = right s g.codes f fault_none in
            let q = f.row * s.form.columns + f.column in
            let after' : length g.codes ≤ q = w.later in
            let full : length (padded q g.codes ++ (code_of f.cell ∷ [])) ≡ suc q = length_with (listed s.form g.codes []) (placed_by f) after' in
            record {
              codes = padded q g.codes ++ (code_of f.cell ∷ []);
              same = step ∙ unless_none _ m _ fault_none;
              counted = rw (full, place) (omega arith);
              short = rw full w.inside;
              lines = rw full (omega (arith, g.lines));
              holds = is'' ∙ rw (place, coded, g.holds) (kept_set room g.codes q (code_of f.cell) after');
            }
