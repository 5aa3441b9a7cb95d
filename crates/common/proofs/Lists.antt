-- Laws of the lists that the definitions build.
use Prim.Native.Nat.{ℕ, zero, suc, ◌+◌, ◌-◌, ◌*◌, ◌≤◌, ◌<◌}
use mathlib.Core.Path.{◌≡◌, refl, sym, ◌∙◌}
use mathlib.Core.Logic.{◌⊎◌, ⊎_elim}
use mathlib.Core.Bool.{Bool, true, false, ◌&&◌}
use mathlib.Core.List.{List, [], ◌∷◌, ◌++◌, map, append_assoc, append-nil}
use native.Mathlib.Omega.{arith}
use native.Mathlib.Nat.{eq-or-lt_of_le, zero-mul}
use lib.Arith.{digits_lt}
use lib.ListN.{length, get_or, set, take, length-append, length-replicate, replicate-append-replicate, get_or-append}
use lib.Seq.{ext_get_or, get_or-append-add, get_or_at, take_at, set_at, append_snoc}
use lib.Dec.{eqb}
use borrow.Author.Tests.{eqb-true, eq-eqb}
use Rattle.std.proofs.lemmas.Bool.{and_from, and_parts, false_from_ne_true, or_cases, or_left, or_right}
use Rattle.std.proofs.lemmas.List.Recursion.{and_at, and_from_places, and_set}
use Rattle.common.specs.Lists.{bit, zeros, padded, tab, grid, some_below, all_of, any_of, same}

pub bit_one : (b : Bool) → bit b ≡ 1 → b ≡ true
unfolding bit
bit_one true h = refl
bit_one false h = let z : ◌≡◌ {A = ℕ} 0 1 = h in absurd (omega arith)

pub bit_most : (b : Bool) → bit b ≤ 1
unfolding bit
bit_most true = omega arith
bit_most false = omega arith

pub eqb_bit : (b : Bool) → eqb (bit b) 1 ≡ b
unfolding bit
eqb_bit true = refl
eqb_bit false = refl

-- the parts of a conjunction
pub and_left : (a b : Bool) → a && b ≡ true → a ≡ true
and_left a b h = (and_parts a b h).0

pub and_right : (a b : Bool) → a && b ≡ true → b ≡ true
and_right a b h = (and_parts a b h).1

pub length-tab {ℓ} : {A : Type ℓ} (n : ℕ) (f : ℕ → A) → length (tab n f) ≡ n
unfolding tab
length-tab zero f = refl
length-tab (suc n) f = simp (length-append, length-tab n f) (omega arith)

-- a number below the next is the number itself, or below it
pub at_or_below : (i n : ℕ) → i < suc n → (i ≡ n) ⊎ (i < n)
at_or_below i n h = eq-or-lt_of_le (omega arith)

-- the entries of a table
pub get_or-tab {ℓ} : {A : Type ℓ} (n : ℕ) (f : ℕ → A) (i : ℕ) (d : A) → i < n → get_or (tab n f) i d ≡ f i
unfolding tab
get_or-tab zero f i d h = absurd (omega arith)
get_or-tab (suc n) f i d h =
    ⊎_elim
    (λ (e : i ≡ n). rw e (get_or_at (tab n f) (f n) [] d n (length-tab n f)))
    (λ (below : i < n).
    let within : i < length (tab n f) = rw length-tab below in
    get_or-append (tab n f) (f n ∷ []) d i within ∙ get_or-tab n f i d below)
    (at_or_below i n h)

-- a table of a list's entries is that list
pub tab_is : (f : ℕ → ℕ) (l : List ℕ) (n : ℕ) → length l ≡ n → ((i : ℕ) → f i ≡ get_or l i 0) → tab n f ≡ l
tab_is f l n e h = ext_get_or 0 (tab n f) l (length-tab n f ∙ sym e) (λ i k. get_or-tab n f i 0 (rw length-tab at k) ∙ h i)

-- tables that agree below n are equal
pub tab_agree {ℓ} : {A : Type ℓ} (n : ℕ) (f g : ℕ → A) → ((k : ℕ) → k < n → f k ≡ g k) → tab n f ≡ tab n g
unfolding tab
tab_agree zero f g same = refl
tab_agree (suc n) f g same =
    rw (tab_agree n f g (λ k below. same k (omega arith)), same n (omega arith))

-- a grid is kept row by row
pub length-grid : (m n : ℕ) (f : ℕ → ℕ → ℕ) → length (grid m n f) ≡ m * n
unfolding grid
length-grid zero n f = sym (zero-mul n)
length-grid (suc m) n f = simp (length-append, length-tab, length-grid m n f) (omega arith)

pub get_or-grid :
    (m n : ℕ) (f : ℕ → ℕ → ℕ) (r c d : ℕ) → r < m → c < n → get_or (grid m n f) (r * n + c) d ≡ f r c
unfolding grid
get_or-grid zero n f r c d h k = absurd (omega arith)
get_or-grid (suc m) n f r c d h k =
    ⊎_elim
    (λ (e : r ≡ m).
    rw e
    (rw (← (length-grid m n f)) (get_or-append-add (grid m n f) (tab n (f m)) c d ∙ get_or-tab n (f m) c d k)))
    (λ (below : r < m).
    let within : r * n + c < length (grid m n f) = rw length-grid (digits_lt below k) in
    get_or-append (grid m n f) (tab n (f m)) d (r * n + c) within ∙ get_or-grid m n f r c d below k)
    (at_or_below r m h)

-- some number below n has a test, shown by one that does; and then there is one
pub some_below_at : (n : ℕ) (f : ℕ → Bool) (i : ℕ) → i < n → f i ≡ true → some_below n f ≡ true
unfolding some_below
some_below_at zero f i h e = absurd (omega arith)
some_below_at (suc n) f i h e =
    ⊎_elim
    (λ (q : i ≡ n). or_left (f n) (some_below n f) (rw q at e))
    (λ (below : i < n). or_right (f n) (some_below n f) (some_below_at n f i below e))
    (at_or_below i n h)

pub some_below_is : (n : ℕ) (f : ℕ → Bool) → some_below n f ≡ true → (i : ℕ) × (i < n) × (f i ≡ true)
unfolding some_below
some_below_is zero f e = absurd (let z : ◌≡◌ {A = ℕ} 0 1 = cc in omega arith)
some_below_is (suc n) f e =
    ⊎_elim
    (λ p. (n, omega arith, p))
    (λ p. let found = some_below_is n f p in (found.0, omega (arith, found.1), found.2))
    (or_cases (f n) (some_below n f) e)

-- what holds of each entry holds at each index
pub all_of_at : (f : ℕ → Bool) (l : List ℕ) (i : ℕ) → all_of f l ≡ true → i < length l → f (get_or l i 0) ≡ true
unfolding all_of
all_of_at f l i h k = and_at (all_of f) f refl (λ _ _. refl) l i 0 k h

pub any_of_at {ℓ} : {A : Type ℓ} (f : A → Bool) (l : List A) (i : ℕ) (d : A) → i < length l → f (get_or l i d) ≡ true → any_of f l ≡ true
unfolding any_of
any_of_at f [] i d k e = absurd (omega arith)
any_of_at f (a ∷ l) zero d k e = or_left (f a) (any_of f l) e
any_of_at f (a ∷ l) (suc i) d k e = or_right (f a) (any_of f l) (any_of_at f l i d (omega arith) e)

-- what holds of no entry holds at no index
pub any_of_none {ℓ} : {A : Type ℓ} (f : A → Bool) (l : List A) (i : ℕ) (d : A) → any_of f l ≡ false → i < length l → f (get_or l i d) ≡ false
any_of_none f l i d h k = false_from_ne_true _ (λ p. cc (h, any_of_at f l i d k p))

-- the test of two lists is their equality
pub same_eq : (s t : List ℕ) → same s t ≡ true → s ≡ t
unfolding same
same_eq [] [] h = refl
same_eq [] (b ∷ t) h = absurd (let z : ◌≡◌ {A = ℕ} 0 1 = cc in omega arith)
same_eq (a ∷ s) [] h = absurd (let z : ◌≡◌ {A = ℕ} 0 1 = cc in omega arith)
same_eq (a ∷ s) (b ∷ t) h =
    let p = eqb-true a b (and_left (eqb a b) (same s t) h) in
    let q = same_eq s t (and_right (eqb a b) (same s t) h) in
    rw (p, q)

pub eq_same : (s : List ℕ) → same s s ≡ true
unfolding same
eq_same [] = refl
eq_same (a ∷ s) = and_from (eqb a a) (same s s) (eq-eqb a a refl) (eq_same s)

-- padding: the length, and the entries
pub length-padded : (n : ℕ) (s : List ℕ) → length s ≤ n → length (padded n s) ≡ n
unfolding padded
length-padded n s h = simp (length-append, length-replicate) (omega arith)

pub get_or-padded : (n : ℕ) (s : List ℕ) (i d : ℕ) → i < length s → get_or (padded n s) i d ≡ get_or s i d
unfolding padded
get_or-padded n s i d h = get_or-append s (zeros (n - length s)) d i h

pub take-padded : (n k : ℕ) (s : List ℕ) → length s ≡ k → take k (padded n s) ≡ s
unfolding padded
take-padded n k s e = take_at s (zeros (n - length s)) k e

-- tests over all entries of lists that are put together
pub all_of_append : (f : ℕ → Bool) (s t : List ℕ) → all_of f s ≡ true → all_of f t ≡ true → all_of f (s ++ t) ≡ true
unfolding all_of
all_of_append f s t p q = and_from_places (λ s. all_of f (s ++ t)) f q (λ _ _. refl) s 0 (λ i. all_of_at f s i p)

pub all_of_single : (f : ℕ → Bool) (a : ℕ) → f a ≡ true → all_of f (a ∷ []) ≡ true
unfolding all_of
all_of_single f a p = and_from (f a) true p refl

pub all_of_tab : (f : ℕ → Bool) (n : ℕ) (g : ℕ → ℕ) → ((c : ℕ) → c < n → f (g c) ≡ true) → all_of f (tab n g) ≡ true
unfolding tab all_of
all_of_tab f zero g h = refl
all_of_tab f (suc n) g h =
    all_of_append f (tab n g) (g n ∷ []) (all_of_tab f n g (λ c below. h c (omega arith))) (all_of_single f (g n) (h n (omega arith)))

pub all_of_grid :
    (f : ℕ → Bool) (m n : ℕ) (g : ℕ → ℕ → ℕ) → ((r c : ℕ) → r < m → c < n → f (g r c) ≡ true) → all_of f (grid m n g) ≡ true
unfolding grid all_of
all_of_grid f zero n g h = refl
all_of_grid f (suc m) n g h =
    all_of_append f (grid m n g) (tab n (g m)) (all_of_grid f m n g (λ r c below. h r c (omega arith))) (all_of_tab f n (g m) (λ c. h m c (omega arith)))

pub all_of_map :
    (f : ℕ → Bool) (g : ℕ → ℕ) (l : List ℕ) → ((j : ℕ) → j < length l → f (g (get_or l j 0)) ≡ true) → all_of f (map g l) ≡ true
unfolding all_of
all_of_map f g l = and_from_places (λ l. all_of f (map g l)) (λ a. f (g a)) refl (λ _ _. refl) l 0

pub all_of_set : (f : ℕ → Bool) (l : List ℕ) (i a : ℕ) → f a ≡ true → all_of f l ≡ true → all_of f (set l i a) ≡ true
unfolding all_of
all_of_set f = and_set (all_of f) f refl (λ _ _. refl)

pub all_of_zeros : (f : ℕ → Bool) (n : ℕ) → f 0 ≡ true → all_of f (zeros n) ≡ true
unfolding all_of
all_of_zeros f zero h = refl
all_of_zeros f (suc n) h = and_from (f 0) (all_of f (zeros n)) h (all_of_zeros f n h)

-- padding up to one place more, and padding of a list that is long enough
pub padded_more : (p : ℕ) (s : List ℕ) → length s ≤ p → padded (suc p) s ≡ padded p s ++ (0 ∷ [])
unfolding padded
padded_more p s h =
    let e : suc p - length s ≡ (p - length s) + 1 = omega arith in
    rw (e, ← (replicate-append-replicate {A = ℕ} (p - length s) 1 0)) (sym (append_assoc s (zeros (p - length s)) (0 ∷ [])))

pub padded_full : (p : ℕ) (s : List ℕ) → length s ≡ p → padded p s ≡ s
unfolding padded
padded_full p s h = let e : p - length s ≡ 0 = omega arith in rw e (append-nil s)

-- an entry stored after those so far
pub padded-set :
    (n : ℕ) (s : List ℕ) (p a : ℕ) → length s ≡ p → p < n → set (padded n s) p a ≡ padded n (s ++ (a ∷ []))
unfolding padded
padded-set n s p a e h =
    let gap : n - length s ≡ suc (n - length (s ++ (a ∷ []))) = simp length-append (omega arith) in
    rw gap (set_at s 0 _ a p e ∙ sym (append_snoc s a _))

-- padding does not change what stands at a place, 0 past the end
pub get_or_before_zeros : (s : List ℕ) (k i : ℕ) → get_or (s ++ zeros k) i 0 ≡ get_or s i 0
get_or_before_zeros [] zero i = refl
get_or_before_zeros [] (suc k) zero = refl
get_or_before_zeros [] (suc k) (suc i) = get_or_before_zeros [] k i
get_or_before_zeros (a ∷ s) k zero = refl
get_or_before_zeros (a ∷ s) k (suc i) = get_or_before_zeros s k i

pub get_or-padded_any : (n : ℕ) (s : List ℕ) (i : ℕ) → get_or (padded n s) i 0 ≡ get_or s i 0
unfolding padded
get_or-padded_any n s i = get_or_before_zeros s (n - length s) i
