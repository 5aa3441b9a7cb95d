-- The steps of the two programs by the numbers of the law's outcomes: what is printed where a step is refused, that number 0 is no refusal, and
-- what is printed where no step is.
use Prim.Native.Nat.{ℕ, ◌+◌, ◌*◌, ◌≤◌, ◌<◌}
use mathlib.Core.Path.{◌≡◌, refl, sym, ap, ◌∙◌}
use mathlib.Core.List.{List, [], ◌∷◌}
use native.Mathlib.Omega.{arith}
use lib.ListN.{length, length-append, length-replicate}
use borrow.Author.Tests.{le-ltb, lt-ltb}
use Rattle.common.specs.Limits.{max_rows, max_columns, max_outputs, max_input}
use Rattle.common.specs.Lists.{padded}
use Rattle.common.specs.Outcome.{Outcome, done, refused, ◌then◌, lowest, unless, number_of, line_of}
use Rattle.common.proofs.Within.{EndsWithin, ends_done, ends_refused, zero_done}
use Rattle.figures.specs.Line.{lines_of}
use Rattle.cells.specs.declared.Crossbar.{Crossbar}
use Rattle.cells.specs.Record.{Whole, size}
use Rattle.forms.specs.Template.{line}
use Rattle.forms.specs.Forms.{refused_form}
use Rattle.placement.specs.Map.{map_job}
use Rattle.placement.proofs.Maps.{mapped_ends}
use Rattle.conduction.specs.Light.{Lit, light}
use Rattle.conduction.proofs.Light.{lit_ends}
use Rattle.listings.specs.Listing.{listing}
use Rattle.listings.specs.Loading.{Listed, load_from, record_of, cells_of, load_at}
use Rattle.listings.proofs.Refusals.{FewCells, listing_ends}
use Rattle.programs.specs.Programs.{program_text, map_program, light_and_read, input_fits, set_line, light_program}
use Rattle.programs.proofs.Printing.{input_short, light-padded, whole}

-- the line of a refusal
unfoldable pub refused_line : ℕ → ℕ → List ℕ
refused_line k n = line refused_form (k ∷ n ∷ [])

-- a step that is refused, with a number other than 0
pub refused_then :
    {A : Type 0} (o : Outcome A) (f : A → Outcome (List ℕ))
    → (number_of o ≡ 0 → ⊥)
    → refused_line (number_of o) (line_of o) ≡ program_text (o then f)
unfolding refused_line program_text ◌then◌ number_of line_of
refused_then (done a) f h = absurd (h refl)
refused_then (refused k n) f h = refl

-- the first step of both programs
pub input_long : (s : List ℕ) (rest : Outcome (List ℕ)) → max_input < length s → refused_line 14 0 ≡ program_text (input_fits s rest)
unfolding refused_line program_text input_fits lowest unless
input_long s rest h = rw (lt-ltb max_input (length s) h)

-- map
pub map_done : (s : List ℕ) (room : ℕ) → number_of (map_job s room) ≡ 0 → (w : Whole) × (map_job s room ≡ done w)
map_done s room h = let found = zero_done (map_job s room) (mapped_ends s room) h in (found.0, found.1)

module _ (s : List ℕ) (short : length s ≤ max_input) where
  pub map_refused :
      (number_of (map_job s (max_rows * max_columns)) ≡ 0 → ⊥)
      → refused_line (number_of (map_job s (max_rows * max_columns))) (line_of (map_job s (max_rows * max_columns))) ≡ map_program s
  unfolding map_program
  map_refused h = rw (input_short s _ short) (refused_then (map_job s (max_rows * max_columns)) _ h)

  pub map_prints : (w : Whole) → map_job s (max_rows * max_columns) ≡ done w → listing w.head w.codes ≡ map_program s
  unfolding map_program program_text ◌then◌
  map_prints w h = rw (input_short s _ short, h)

-- the set line
module _ (s : List ℕ) (short : length s ≤ max_input) where
  pub set_refused :
      (number_of (set_line (lines_of s)) ≡ 0 → ⊥)
      → refused_line (number_of (set_line (lines_of s))) (line_of (set_line (lines_of s))) ≡ light_program s
  unfolding light_program
  set_refused h = rw (input_short s _ short) (refused_then (set_line (lines_of s)) _ h)

-- light
module _ (x : Crossbar) (codes setting : List ℕ) where
  abbrev lamp : Outcome Lit
  lamp = light x codes setting (max_rows + max_columns)

  pub light_refused :
      (number_of lamp ≡ 0 → ⊥)
      → refused_line (number_of lamp) (line_of lamp) ≡ program_text (light_and_read setting (record { head = x; codes = codes }))
  unfolding light_and_read
  light_refused h = refused_then lamp _ h

  pub light_done : number_of lamp ≡ 0 → (a : Lit) × (lamp ≡ done a)
  light_done h = let found = zero_done lamp (lit_ends x codes setting (max_rows + max_columns)) h in (found.0, found.1)

-- load, from line n on: the listing's cells fit into the program's buffer
module _ (t : List ℕ) (n : ℕ) where
  abbrev Ends : Outcome Listed → Type 0
  Ends = EndsWithin FewCells (n + max_rows * max_columns + max_outputs + 2)

  ends : Ends (load_from n (lines_of t))
  ends = listing_ends (n + max_rows * max_columns + max_outputs + 2) n (omega arith) (lines_of t)

  load_fits :
      (y : Listed) → FewCells y → load_from n (lines_of t) ≡ done y → load_at n (lines_of t) (max_rows * max_columns) ≡ done (whole y)
  unfolding ◌then◌ lowest unless size record_of
  load_fits y few h = rw (h, le-ltb (max_rows * max_columns) (size (record_of y)) few)

  pub load_refused :
      (f : Listed → Outcome (List ℕ))
      → (number_of (load_at n (lines_of t) (max_rows * max_columns)) ≡ 0 → ⊥)
      → refused_line (number_of (load_at n (lines_of t) (max_rows * max_columns))) (line_of (load_at n (lines_of t) (max_rows * max_columns)))
      ≡ program_text (load_from n (lines_of t) then f)
  unfolding refused_line program_text ◌then◌ number_of line_of
  load_refused f h = by (load_from n (lines_of t)) ends refl
    where
      by :
          (o : Outcome Listed)
          → Ends o
          → load_from n (lines_of t) ≡ o
          → refused_line (number_of (load_at n (lines_of t) (max_rows * max_columns))) (line_of (load_at n (lines_of t) (max_rows * max_columns)))
          ≡ program_text (load_from n (lines_of t) then f)
      by (done y) (ends_done few) e = absurd (h (ap number_of (load_fits y few e)))
      by (refused k l) (ends_refused low high m) e = rw e

  pub load_done :
      number_of (load_at n (lines_of t) (max_rows * max_columns)) ≡ 0
      → (y : Listed) × (load_from n (lines_of t) ≡ done y) × (load_at n (lines_of t) (max_rows * max_columns) ≡ done (whole y))
  unfolding number_of ◌then◌
  load_done h = by (load_from n (lines_of t)) ends refl
    where
      by :
          (o : Outcome Listed)
          → Ends o
          → load_from n (lines_of t) ≡ o
          → (y : Listed) × (load_from n (lines_of t) ≡ done y) × (load_at n (lines_of t) (max_rows * max_columns) ≡ done (whole y))
      by (done y) (ends_done few) e = (y, e, load_fits y few e)
      by (refused k l) (ends_refused low high m) e =
          let z : load_at n (lines_of t) (max_rows * max_columns) ≡ refused k l = rw e in
          let q : k ≡ 0 = sym (ap number_of z) ∙ h in
          absurd (omega arith)

cells_long : (y : Listed) → size (record_of y) ≤ length (cells_of y)
unfolding size record_of cells_of padded
cells_long y = simp (length-append, length-replicate) (omega arith)

-- what is printed of a buffer with zeros past the R-as-C codes
pub light-loaded :
    (vs : List ℕ) (y : Listed) (n : ℕ) (x : Crossbar) (codes : List ℕ)
    → x ≡ record_of y
    → codes ≡ padded n (cells_of y)
    → program_text (light_and_read vs (record { head = x; codes = codes })) ≡ program_text (light_and_read vs (whole y))
light-loaded vs y n x codes e f = rw (e, f) (ap program_text (light-padded (record_of y) (cells_of y) vs n (cells_long y)))
