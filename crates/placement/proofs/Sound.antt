-- Every mapped crossbar passes ground 12: its sizes are in range, its cells are R-as-C with codes at most 1 + 2·V, its output rows are
-- below R and the unused ones 0.
use Prim.Native.Nat.{ℕ, ◌+◌, ◌-◌, ◌*◌, ◌≤◌, ◌<◌}
use mathlib.Core.Path.{◌≡◌, refl}
use mathlib.Core.Logic.{inl, inr}
use mathlib.Core.Bool.{Bool, true, false}
use mathlib.Core.List.{map}
use native.Mathlib.Omega.{arith}
use lib.ListN.{length, get_or, take, drop, length-map}
use lib.Seq.{take-length, drop-length, take_at, drop_at}
use lib.Dec.{eqb, leb, ltb}
use borrow.Author.Tests.{lt-ltb, le-leb}
use Rattle.std.proofs.lemmas.Bool.{cases_eq}
use Rattle.common.specs.Limits.{max_rows, max_columns, max_switches, max_outputs}
use Rattle.common.specs.Lists.{zeros, padded, all_of}
use Rattle.common.proofs.Lists.{length-grid, length-padded, all_of_grid, all_of_map, all_of_zeros}
use Rattle.cells.specs.Code.{code_of}
use Rattle.cells.specs.Record.{codes_low, size, in_range, sound}
use Rattle.diagram.specs.Diagram.{Diagram}
use Rattle.diagram.specs.Wires.{row_count, column_count}
use Rattle.diagram.specs.Facts.{Facts, Sizes}
use Rattle.placement.specs.Placement.{code_at, cells, out_row, crossbar}
use Rattle.placement.proofs.Places.{within_rows}
use Rattle.placement.proofs.Readings.{one_row, out_row-below, out_on_row}
use Rattle.placement.proofs.Count.{id_count_lem}
use Rattle.placement.specs.Sentences.{CellStands, own, step, literal, IsEdge}
use Rattle.placement.proofs.Sentences.{placed}

module _ (d : Diagram) where
  -- the cells are R-as-C, no more and no fewer
  pub cells_count : length (cells d) ≡ size (crossbar d)
  unfolding cells size crossbar
  cells_count = length-grid (row_count d) (column_count d) (code_at d)

  -- the output rows in use, and the unused ones
  outs_used : take (length d.outs) (crossbar d).outs ≡ map (out_row d) d.outs
  unfolding crossbar padded
  outs_used = take_at (map (out_row d) d.outs) (zeros (max_outputs - length (map (out_row d) d.outs))) (length d.outs) (length-map d.outs (out_row d))

  outs_unused : all_of (λ r. eqb r 0) (drop (length d.outs) (crossbar d).outs) ≡ true
  unfolding crossbar padded
  outs_unused =
      rw (drop_at (map (out_row d) d.outs) (zeros (max_outputs - length (map (out_row d) d.outs))) (length d.outs) (length-map d.outs (out_row d)))
      (all_of_zeros (λ b. eqb b 0) (max_outputs - length (map (out_row d) d.outs)) refl)

  -- "32 output rows"
  pub outs_count : Sizes d → length (crossbar d).outs ≡ max_outputs
  unfolding crossbar
  outs_count sizes =
      length-padded max_outputs (map (out_row d) d.outs) (rw (length-map d.outs (out_row d)) sizes.outs_most)

module _ (d : Diagram) (facts : Facts d) where
  -- the code of a literal whose switch is below V
  literal_most : (i : ℕ) (side : Bool) → IsEdge d i side → code_of (literal d i side) ≤ 1 + 2 * d.switches
  unfolding code_of
  literal_most i false e = omega (arith, (facts.node i e.least e.most).tests)
  literal_most i true e = omega (arith, (facts.node i e.least e.most).tests)

  placed_most : (r c : ℕ) → CellStands d r c → code_at d r c ≤ 1 + 2 * d.switches
  unfolding code_of
  placed_most r c (own i most b at_row at_column code) = omega arith
  placed_most r c (step i side e at_row at_column code) = rw code (literal_most i side e)

  -- "a code above 1 + 2·V": none
  pub code_most : (r c : ℕ) → c < column_count d → code_at d r c ≤ 1 + 2 * d.switches
  code_most r c within =
      elim (cases_eq (code_at d r c) 0) [ inl off ↦ omega arith | inr some ↦ placed_most r c (placed d r c within some) ]

  -- each output row is a row
  pub out_row_below_lem : (j : ℕ) → j < length d.outs → out_row d (get_or d.outs j 0) < row_count d
  out_row_below_lem j below = out_row-below d (get_or d.outs j 0) (facts.outs_named j below) (out_on_row d facts j below)

  -- "R is 1 to 128": terminal 1 has a row
  pub rows_least : 1 ≤ row_count d
  rows_least = omega (arith, within_rows d 1 (one_row d facts) (omega (arith, id_count_lem d)))

  sizes_in_lem : Sizes d → in_range (row_count d) (column_count d) d.switches (length d.outs) ≡ true
  unfolding in_range
  sizes_in_lem sizes =
      rw (
        le-leb 1 (row_count d) rows_least,
        le-leb (row_count d) max_rows sizes.rows_most,
        le-leb (column_count d) max_columns sizes.columns_most,
        le-leb d.switches max_switches sizes.switches_most,
        le-leb 1 (length d.outs) sizes.outs_least,
        le-leb (length d.outs) max_outputs sizes.outs_most,
      )

  codes_in : codes_low d.switches (cells d) ≡ true
  unfolding cells
  codes_in =
      all_of_grid (λ k. leb k (1 + 2 * d.switches)) (row_count d) (column_count d) (code_at d)
      (λ r c below within. le-leb (code_at d r c) (1 + 2 * d.switches) (code_most r c within))

  outs_in : all_of (λ r. ltb r (row_count d)) (map (out_row d) d.outs) ≡ true
  outs_in =
      all_of_map (λ r. ltb r (row_count d)) (out_row d) d.outs
      (λ j below. lt-ltb (out_row d (get_or d.outs j 0)) (row_count d) (out_row_below_lem j below))

-- every mapped crossbar passes ground 12
pub mapped-sound : (d : Diagram) → Facts d → Sizes d → sound (crossbar d) (cells d) ≡ true
unfolding sound crossbar all_of
mapped-sound d facts sizes =
    rw (
      ← (cells_count d),
      sizes_in_lem d facts sizes,
      le-leb (length (cells d)) (length (cells d)) (omega arith),
      drop-length (cells d),
      take-length (cells d),
      codes_in d facts,
      outs_used d,
      outs_in d facts,
      outs_unused d,
    )
