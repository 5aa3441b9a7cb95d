-- Lists that the definitions build: tables by index, padding with zeros, and tests over all entries.
use Rattle.std.specs.Prelude.{ℕ, zero, suc, ◌-◌, Bool, true, false, ◌&&◌, ◌||◌, List, [], ◌∷◌, ◌++◌, length, replicate, eqb}

-- a truth value as a number: 1 or 0
unfoldable pub bit : Bool → ℕ
bit true = 1
bit false = 0

-- n zeros
abbrev pub zeros : ℕ → List ℕ
zeros n = replicate {A = ℕ} n 0

-- s, and zeros up to n entries
unfoldable pub padded : ℕ → List ℕ → List ℕ
padded n s = s ++ zeros (n - length s)

-- f 0, f 1, .. f (n − 1)
unfoldable pub tab {ℓ} : {A : Type ℓ} → ℕ → (ℕ → A) → List A
tab zero f = []
tab (suc n) f = tab n f ++ (f n ∷ [])

-- f r c for each r below m and c below n, row by row
unfoldable pub grid : ℕ → ℕ → (ℕ → ℕ → ℕ) → List ℕ
grid zero n f = []
grid (suc r) n f = grid r n f ++ tab n (f r)

-- whether f holds of some number below n
unfoldable pub some_below : ℕ → (ℕ → Bool) → Bool
some_below zero f = false
some_below (suc n) f = f n || some_below n f

-- whether f holds of each entry
unfoldable pub all_of : (ℕ → Bool) → List ℕ → Bool
all_of f [] = true
all_of f (a ∷ s) = f a && all_of f s

-- whether f holds of some entry
unfoldable pub any_of {ℓ} : {A : Type ℓ} → (A → Bool) → List A → Bool
any_of f [] = false
any_of f (a ∷ s) = f a || any_of f s

-- whether two lists of numbers are equal
unfoldable pub same : List ℕ → List ℕ → Bool
same [] [] = true
same [] (b ∷ t) = false
same (a ∷ s) [] = false
same (a ∷ s) (b ∷ t) = eqb a b && same s t
