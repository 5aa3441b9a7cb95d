-- The crossbar record. Document 01, "Placement": "The crossbar record holds R, C, V, K and 32 output rows, the unused ones 0." And ground
-- 12 on it, of "Grounds for sending a job back".
use Rattle.std.specs.Prelude.{ℕ, ◌+◌, ◌*◌, Bool, ◌&&◌, List, length, take, drop, eqb, leb, ltb}
use Rattle.cells.specs.declared.Crossbar.{Crossbar}
use Rattle.common.specs.Limits.{max_rows, max_columns, max_switches, max_outputs}
use Rattle.common.specs.Lists.{all_of}

-- a crossbar: its record, and the codes of its R-as-C cells, row by row
pub record Whole : Type 0 where
  pub head : Crossbar
  pub codes : List ℕ

-- how many cells a record has
unfoldable pub size : Crossbar → ℕ
size x = x.rows * x.columns

-- "Listing": "R is 1 to 128, C is 0 to 128; V and K range as in a job"
unfoldable pub in_range : ℕ → ℕ → ℕ → ℕ → Bool
in_range r c v k = leb 1 r && leb r max_rows && leb c max_columns && leb v max_switches && leb 1 k && leb k max_outputs

-- no "code above 1 + 2·V"
abbrev pub codes_low : ℕ → List ℕ → Bool
codes_low v codes = all_of (λ k. leb k (1 + 2 * v)) codes

-- the parts of ground 12 on the cells and on the output rows, for the inner checks of src/checks.rt; `sound_parts` in proofs/Sizes.antt puts
-- them together
unfoldable pub cells_fit : Crossbar → List ℕ → Bool
cells_fit x cells =
    leb (size x) (length cells) && all_of (λ b. eqb b 0) (drop (size x) cells) && codes_low x.switches (take (size x) cells)

unfoldable pub outs_fit : Crossbar → Bool
outs_fit x = all_of (λ r. ltb r x.rows) (take x.outputs x.outs) && all_of (λ r. eqb r 0) (drop x.outputs x.outs)

-- a record and cells that ground 12 does not refuse: the sizes in range, the slice not shorter than R-as-C and its bytes past it 0, no
-- code above 1 + 2·V, each output row below R and each unused one 0
unfoldable pub sound : Crossbar → List ℕ → Bool
sound x cells =
    in_range x.rows x.columns x.switches x.outputs
    && leb (size x) (length cells)
    && all_of (λ b. eqb b 0) (drop (size x) cells)
    && codes_low x.switches (take (size x) cells)
    && all_of (λ r. ltb r x.rows) (take x.outputs x.outs)
    && all_of (λ r. eqb r 0) (drop x.outputs x.outs)
