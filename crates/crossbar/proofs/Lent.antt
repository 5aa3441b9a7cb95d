-- The numbers that light is lent for a buffer of bytes: they change no answer of light.
use Prim.Native.Nat.{ℕ, ◌+◌, ◌*◌, ◌/◌, ◌≤◌, ◌<◌, min, ◌-◌}
use mathlib.Core.Path.{◌≡◌, ap, ◌∙◌}
use mathlib.Core.Logic.{⊎_elim}
use mathlib.Core.Bool.{true, false}
use mathlib.Core.List.{List, ◌++◌}
use native.Mathlib.Omega.{arith}
use borrow.Author.Tests.{le-ltb}
use Rattle.std.proofs.lemmas.Bool.{cases_Bool, cases_lt}
use Rattle.common.specs.Limits.{max_rows, max_columns}
use Rattle.common.specs.Outcome.{lowest, unless}
use Rattle.cells.specs.declared.Crossbar.{Crossbar}
use Rattle.cells.specs.Record.{sound}
use Rattle.cells.proofs.Sizes.{sound_facts}
use Rattle.conduction.specs.Light.{light}
use lib.ListN.{length, take, length-append}
use lib.Seq.{take_at}

-- light is lent the numbers that the buffer holds, and not more than there are wires
unfoldable pub lent_numbers : Crossbar → ℕ → ℕ
lent_numbers x n = min (n / 2) (min (x.rows + x.columns) (max_rows + max_columns))

pub lent_by :
    (x : Crossbar) (n wires k : ℕ) → wires ≡ min (x.rows + x.columns) (max_rows + max_columns) → k ≡ min (n / 2) wires → k ≡ lent_numbers x n
unfolding lent_numbers
lent_by x n wires k e f = f ∙ ap (min (n / 2)) e

pub lent_array :
    (x : Crossbar) (room wires k : ℕ) → wires ≡ min (x.rows + x.columns) (max_rows + max_columns) → k ≡ min room wires
    → k ≤ max_rows + max_columns
lent_array x room wires k e f = omega arith

pub lent_most : (x : Crossbar) (n : ℕ) → 2 * lent_numbers x n ≤ n
unfolding lent_numbers
lent_most x n = omega arith

-- the front of an array, of which light was lent k numbers
pub lent_front : (k : ℕ) (numbers rest : List ℕ) → length numbers ≡ k → take (k - 0) (numbers ++ rest) ≡ numbers
lent_front k numbers rest long = let all : k - 0 ≡ k = omega arith in rw all (take_at numbers rest k long)

pub lent_within : (k : ℕ) (numbers rest : List ℕ) → length numbers ≡ k → k ≤ length (numbers ++ rest)
lent_within k numbers rest long = omega (arith, length-append numbers rest)

-- so light answers as for the whole buffer
pub light_lent : (x : Crossbar) (cells setting : List ℕ) (n : ℕ) → light x cells setting (lent_numbers x n) ≡ light x cells setting (n / 2)
unfolding lent_numbers light lowest unless
light_lent x cells setting n =
    ⊎_elim
    (λ (s : sound x cells ≡ true).
    let sizes = (sound_facts x cells s).sizes in
    let w = x.rows + x.columns in
    ⊎_elim
    (λ (h : n / 2 < w). ap (light x cells setting) (omega (arith, sizes.rows_most, sizes.columns_most)))
    (λ (h : w ≤ n / 2).
    let all : min (n / 2) (min w (max_rows + max_columns)) ≡ w = omega (arith, sizes.rows_most, sizes.columns_most) in
    ap (light x cells setting) all ∙ rw (le-ltb w w (omega arith), le-ltb (n / 2) w h))
    (cases_lt (n / 2) w))
    (λ (s : sound x cells ≡ false). rw s)
    (cases_Bool (sound x cells))
