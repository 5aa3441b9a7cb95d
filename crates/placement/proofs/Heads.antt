-- The rows of a record's outputs, and zeros past them.
use Prim.Native.Nat.{ℕ, ◌≤◌, ◌<◌, ◌+◌}
use mathlib.Core.Path.{◌≡◌, sym, ◌∙◌}
use mathlib.Core.List.{List, map, map-append}
use lib.ListN.{length, get_or, length-map, get_or-eq_default, set, take}
use Rattle.std.proofs.lemmas.List.{get_or-map}
use Rattle.common.specs.Lists.{tab, padded}
use Rattle.common.proofs.Lists.{tab_is, length-padded, get_or-padded_any, padded-set}
use native.Mathlib.Omega.{arith}
use native.Mathlib.Numerals.{add-one}
use lib.Seq.{take-suc, length-take-le}

-- the row of an output, and 0 past the last one
pub row_in : (f : ℕ → ℕ) (outs : List ℕ) (j r : ℕ) → j < length outs → r ≡ f (get_or outs j 0) → r ≡ get_or (map f outs) j 0
row_in f outs j r h e = e ∙ sym (get_or-map f outs j 0 0 h)

pub row_past : (f : ℕ → ℕ) (outs : List ℕ) (j r : ℕ) → length outs ≤ j → r ≡ 0 → r ≡ get_or (map f outs) j 0
row_past f outs j r h e = e ∙ sym (get_or-eq_default (map f outs) 0 (rw length-map h))

pub ruleset rows = (row_in, row_past)

-- a table of a list's entries is the list, padded
pub table_padded : (n : ℕ) (s : List ℕ) → length s ≤ n → tab n (λ j. get_or s j 0) ≡ padded n s
table_padded n s h = tab_is (λ j. get_or s j 0) (padded n s) n (length-padded n s h) (λ i. sym (get_or-padded_any n s i))

-- the rows of one output more
pub rows_more :
    (f : ℕ → ℕ) (outs : List ℕ) (n j : ℕ)
    → j < length outs
    → j < n
    → set (padded n (map f (take j outs))) j (f (get_or outs j 0)) ≡ padded n (map f (take (j + 1) outs))
rows_more f outs n j h k =
    padded-set n (map f (take j outs)) j (f (get_or outs j 0)) (length-map (take j outs) f ∙ length-take-le j outs (omega arith)) k
    ∙ rw (add-one j, take-suc outs j 0 h, map-append)
