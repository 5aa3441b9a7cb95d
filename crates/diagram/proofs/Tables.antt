-- Laws of a test over all entries of a list.
use Prim.Native.Nat.{ℕ, ◌<◌, ◌+◌, ◌≤◌}
use mathlib.Core.Path.{◌≡◌, refl}
use mathlib.Core.Bool.{Bool, false, ◌||◌, true}
use mathlib.Core.List.{List, [], ◌∷◌, ◌++◌}
use lib.ListN.{length, get_or, take}
use Rattle.std.specs.List.{list_any}
use Rattle.std.proofs.lemmas.List.Recursion.{same_from_clauses, or_from_places}
use Rattle.common.specs.Lists.{any_of, tab}
use native.Mathlib.Numerals.{add-one}
use lib.Seq.{length-take-le, take-suc, get_or-take}
use Rattle.std.proofs.lemmas.Bool.{or_parts}
use Rattle.common.proofs.Lists.{length-tab, get_or-tab, any_of_at}

-- the test over all entries is the library's
pub any_of_list : {A : Type 0} (f : A → Bool) (s : List A) → any_of f s ≡ list_any f s
unfolding any_of
any_of_list f = same_from_clauses (any_of f) (list_any f) (λ a b. f a || b) refl (λ _ _. refl) (λ _ _. refl)

-- one that holds at no index holds of none
pub any_of_by : {A : Type 0} (f : A → Bool) (s : List A) (d : A) → ((k : ℕ) → k < length s → f (get_or s k d) ≡ false) → any_of f s ≡ false
unfolding any_of
any_of_by f = or_from_places (any_of f) f refl (λ _ _. refl)

-- a test that holds of no entry, and of no further one, holds of none of all
pub any_of_more : {A : Type 0} (f : A → Bool) (s : List A) (a : A) → any_of f s ≡ false → f a ≡ false → any_of f (s ++ (a ∷ [])) ≡ false
unfolding any_of
any_of_more f [] a none e = rw e
any_of_more f (b ∷ s) a none e =
    let both = or_parts (f b) (any_of f s) none in rw (both.0, any_of_more f s a both.1 e)

pub any_tab_more :
    {A : Type 0} (f : A → Bool) (n : ℕ) (g : ℕ → A)
    → any_of f (tab n g) ≡ false
    → f (g n) ≡ false
    → any_of f (tab (n + 1) g) ≡ false
unfolding tab
any_tab_more f n g none e = rw (add-one n) (any_of_more f (tab n g) (g n) none e)

-- one that holds of an entry
pub any_tab_at :
    {A : Type 0} (f : A → Bool) (n : ℕ) (g : ℕ → A) (k : ℕ) → k < n → f (g k) ≡ true → any_of f (tab n g) ≡ true
any_tab_at f n g k below e =
    any_of_at f (tab n g) k (g 0) (rw (length-tab n g) below) (rw (get_or-tab n g k (g 0) below) e)

-- the same of the first entries of a list
pub any_take_more :
    (f : ℕ → Bool) (l : List ℕ) (j : ℕ)
    → j < length l
    → any_of f (take j l) ≡ false
    → f (get_or l j 0) ≡ false
    → any_of f (take (j + 1) l) ≡ false
any_take_more f l j within none e = rw (add-one j, take-suc l j 0 within) (any_of_more f (take j l) (get_or l j 0) none e)

pub any_take_at :
    (f : ℕ → Bool) (l : List ℕ) (k j : ℕ)
    → j < k
    → k ≤ length l
    → f (get_or l j 0) ≡ true
    → any_of f (take k l) ≡ true
any_take_at f l k j below within e =
    any_of_at f (take k l) j 0 (rw (length-take-le k l within) below) (rw (get_or-take k l j 0 below) e)
