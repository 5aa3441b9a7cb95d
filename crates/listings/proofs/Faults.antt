-- The grounds on a cell line and on an output line of a listing, test by test.
use Prim.Native.Nat.{ℕ, ◌+◌, ◌*◌, ◌≤◌, ◌<◌}
use mathlib.Core.Path.{◌≡◌, refl}
use mathlib.Core.Bool.{Bool, not}
use mathlib.Core.List.{List, [], ◌∷◌}
use lib.ListN.{length, length-replicate}
use borrow.Author.Tests.{lt-ltb, le-ltb, eq-eqb, ne_eqb}
use Rattle.std.specs.Prelude.{Err}
use Rattle.common.specs.declared.Fault.TheVariants as fault
use Rattle.common.specs.Outcome.{◌when◌, lowest}
use Rattle.common.specs.Fault.{fault_of, faults, tested}
use Rattle.common.specs.Lists.{zeros}
use Rattle.forms.specs.Form.{Placed}
use Rattle.forms.specs.declared.SizeForm.{SizeForm}
use Rattle.listings.specs.Loading.{Listed, switch_below, cell_fault, out_row_fault}
use Rattle.listings.specs.Loader.{listed}

-- of the cells and of the output rows before a line the tests ask only how many they are
pub cell_counted :
    (f : SizeForm) (codes : List ℕ) (count : ℕ) (p : Placed) → length codes ≡ count → cell_fault (listed f (zeros count) []) p ≡ cell_fault (listed f codes []) p
unfolding cell_fault
cell_counted f codes count p h = rw (length-replicate {A = ℕ} count 0, h)

pub row_counted :
    (f : SizeForm) (outs : List ℕ) (i j r : ℕ) → length outs ≡ i → out_row_fault (listed f [] (zeros i)) j r ≡ out_row_fault (listed f [] outs) j r
unfolding out_row_fault
row_counted f outs i j r h = rw (length-replicate {A = ℕ} i 0, h)

-- a ground that is met
pub out_of_place : (k : ℕ) → k ≡ 12 → Err fault.Misplaced ≡ tested k
unfolding tested fault_of faults
out_of_place k e = rw e refl

-- ground 12 on a cell line, test by test
pub row_out : (x : Listed) (p : Placed) → x.rows ≤ p.row → cell_fault x p ≡ 12
unfolding cell_fault lowest
row_out x p h = rw (le-ltb p.row x.rows h)

pub column_out : (x : Listed) (p : Placed) → p.row < x.rows → x.columns ≤ p.column → cell_fault x p ≡ 12
unfolding cell_fault lowest
column_out x p h k = rw (lt-ltb p.row x.rows h, le-ltb p.column x.columns k)

pub cell_early :
    (x : Listed) (p : Placed)
    → p.row < x.rows
    → p.column < x.columns
    → p.row * x.columns + p.column < length x.codes
    → cell_fault x p ≡ 12
unfolding cell_fault lowest
cell_early x p h k e =
    rw (
      lt-ltb p.row x.rows h,
      lt-ltb p.column x.columns k,
      lt-ltb (p.row * x.columns + p.column) (length x.codes) e,
    )

pub cell_named :
    (x : Listed) (p : Placed) (below : Bool)
    → p.row < x.rows
    → p.column < x.columns
    → length x.codes ≤ p.row * x.columns + p.column
    → switch_below x.switches p.cell ≡ below
    → cell_fault x p ≡ lowest ((12 when not below) ∷ [])
unfolding cell_fault
cell_named x p below h k e b =
    rw (
      lt-ltb p.row x.rows h,
      lt-ltb p.column x.columns k,
      le-ltb (p.row * x.columns + p.column) (length x.codes) e,
      b,
    )

-- grounds 3 and 12 on an output line, test by test
pub out_of_turn : (x : Listed) (j r : ℕ) → (j ≡ length x.outs → ⊥) → out_row_fault x j r ≡ 3
unfolding out_row_fault lowest
out_of_turn x j r h = rw (ne_eqb j (length x.outs) h)

pub stand_out : (x : Listed) (j r : ℕ) → j ≡ length x.outs → x.rows ≤ r → out_row_fault x j r ≡ 12
unfolding out_row_fault lowest
stand_out x j r e h = rw (eq-eqb j (length x.outs) e, le-ltb r x.rows h)

pub stand_in : (x : Listed) (j r : ℕ) → j ≡ length x.outs → r < x.rows → out_row_fault x j r ≡ 0
unfolding out_row_fault lowest
stand_in x j r e h = rw (eq-eqb j (length x.outs) e, lt-ltb r x.rows h)
