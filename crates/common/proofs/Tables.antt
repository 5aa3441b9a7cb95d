-- A table before the rest of a list.
use Prim.Native.Nat.{ℕ, suc, ◌+◌, ◌<◌}
use mathlib.Core.Path.{◌≡◌, sym, ◌∙◌}
use mathlib.Core.List.{List, [], ◌∷◌, ◌++◌, append_assoc}
use native.Mathlib.Numerals.{add-one}
use lib.ListN.{length, get_or, set, drop}
use lib.Seq.{drop-cons, set_at}
use Rattle.common.specs.Lists.{tab}
use Rattle.common.proofs.Lists.{length-tab}

-- a table before the rest of a list, with one entry more
pub tab_more :
    (f : ℕ → ℕ) (i : ℕ) (l : List ℕ) → i < length l → set (tab i f ++ drop i l) i (f i) ≡ tab (i + 1) f ++ drop (i + 1) l
unfolding tab
tab_more f i l h =
    rw (add-one, drop-cons l i 0 h)
    (set_at (tab i f) (get_or l i 0) (drop (suc i) l) (f i) i (length-tab i f) ∙ sym (append_assoc (tab i f) (f i ∷ []) (drop (suc i) l)))
