-- Numbers as pairs of bytes: one number more in a buffer, and a record's bytes hold that record.
use Prim.Native.Nat.{ℕ, zero, suc, ◌+◌, ◌-◌, ◌*◌, ◌/◌, ◌%◌, ◌≤◌, ◌<◌}
use mathlib.Core.Path.{◌≡◌, refl, sym, ap, ◌∙◌}
use mathlib.Core.Bool.{true}
use mathlib.Core.List.{List, [], ◌∷◌, ◌++◌}
use native.Mathlib.Omega.{arith}
use native.Mathlib.Numerals.{add-one}
use lib.Dec.{ltb}
use lib.ListN.{length, get_or, take, drop, set, length-append}
use lib.Seq.{ext_get_or, take-suc, length-take-le}
use borrow.Author.Tests.{ltb-true}
use Rattle.std.specs.Int.{w16, from_le_bytes}
use Rattle.std.specs.Simd.{first_chunks}
use Rattle.std.proofs.lemmas.List.{get_or-take, get_or-drop}
use Rattle.common.specs.Limits.{max_outputs}
use Rattle.common.specs.Lists.{zeros, padded, tab, all_of}
use Rattle.common.proofs.Lists.{all_of_at, length-padded, get_or-padded_any, get_or_before_zeros, padded-set, tab_is, length-tab}
use Rattle.cells.specs.declared.Crossbar.{Crossbar}
use Rattle.crossbar.specs.Bytes.{record_length, numbers_of, pairs, record_bytes, number_at, record_from}

pub length_pairs : (ns : List ℕ) → length (pairs ns) ≡ 2 * length ns
unfolding pairs
length_pairs [] = refl
length_pairs (n ∷ ns) = omega (arith, length_pairs ns)

pairs_more : (ns : List ℕ) (a : ℕ) → pairs (ns ++ (a ∷ [])) ≡ (pairs ns ++ (a % 256 ∷ [])) ++ (a / 256 ∷ [])
unfolding pairs
pairs_more [] a = refl
pairs_more (n ∷ ns) a = ap (λ (l : List ℕ). n % 256 ∷ n / 256 ∷ l) (pairs_more ns a)

-- one number more in a buffer that holds those before it
pub number_next :
    (n i low high : ℕ) (ns s : List ℕ)
    → i < length ns
    → 2 * length ns ≤ n
    → low ≡ get_or ns i 0 % 256
    → high ≡ get_or ns i 0 / 256
    → s ≡ padded n (pairs (take i ns))
    → set (set s (2 * i) low) (2 * i + 1) high ≡ padded n (pairs (take (i + 1) ns))
number_next n i low high ns s h room el eh f =
    let a = get_or ns i 0 in
    let ms = take i ns in
    let next : take (i + 1) ns ≡ ms ++ (a ∷ []) = rw add-one (take-suc ns i 0 h) in
    let front : length ms ≡ i = length-take-le i ns (omega arith) in
    let long : length (pairs ms) ≡ 2 * i = rw length_pairs (omega arith) in
    let longer : length (pairs ms ++ (a % 256 ∷ [])) ≡ 2 * i + 1 = simp (length-append, length_pairs) (omega arith) in
    rw (next, f, el, eh, padded-set n (pairs ms) (2 * i) (a % 256) long (omega arith), pairs_more)
    (padded-set n (pairs ms ++ (a % 256 ∷ [])) (2 * i + 1) (a / 256) longer (omega arith))

-- a number from the pair of its bytes, of bytes in pairs, and of those that bytes begin with
pair_at : (k : ℕ) (s : List ℕ) (i : ℕ) → i < k → from_le_bytes w16 (get_or (first_chunks 2 k s) i []) ≡ number_at s i
unfolding number_at
pair_at zero s i h = absurd (omega arith)
pair_at (suc k) s zero h = rw (get_or-take 2 s 0 0 (omega arith), get_or-take 2 s 1 0 (omega arith)) (omega arith)
pair_at (suc k) s (suc i) h =
    let low : 2 + 2 * i ≡ 2 * suc i = omega arith in
    let high : 2 + (2 * i + 1) ≡ 2 * suc i + 1 = omega arith in
    pair_at k (drop 2 s) i (omega arith) ∙ rw (get_or-drop 2 s (2 * i) 0, get_or-drop 2 s (2 * i + 1) 0, low, high) refl

pub number_from :
    (s : List ℕ) (n : ℕ) (front : List ℕ) (ps : List (List ℕ)) (i : ℕ)
    → n ≤ length s
    → front ≡ take n s
    → ps ≡ first_chunks 2 (length front / 2) front
    → 2 * i + 1 < n
    → from_le_bytes w16 (get_or ps i []) ≡ number_at s i
unfolding number_at
number_from s n front ps i h e f below =
    let long : length front ≡ n = rw e (length-take-le n s h) in
    rw (f, pair_at (length front / 2) front i (omega arith)) (rw (e, get_or-take n s (2 * i) 0 (omega arith), get_or-take n s (2 * i + 1) 0 below) refl)

-- a number from its two bytes
number_in : (ns : List ℕ) (i : ℕ) → number_at (pairs ns) i ≡ get_or ns i 0
unfolding number_at pairs
number_in [] i = refl
number_in (n ∷ ns) zero = let e : n % 256 + 256 * (n / 256) ≡ n = omega arith in e
number_in (n ∷ ns) (suc i) =
    let low : 2 * suc i ≡ suc (suc (2 * i)) = omega arith in
    let high : 2 * suc i + 1 ≡ suc (suc (2 * i + 1)) = omega arith in
    rw (high, low) (number_in ns i)

-- what is written as a record is read as that record
pub record_back : (x : Crossbar) → length x.outs ≡ max_outputs → record_from (record_bytes x) ≡ x
unfolding record_from record_bytes numbers_of
record_back x e =
    let ns = x.rows ∷ x.columns ∷ x.switches ∷ x.outputs ∷ x.outs in
    let out-row : (i : ℕ) → number_at (pairs ns) (4 + i) ≡ get_or x.outs i 0 =
    λ i. let four : 4 + i ≡ suc (suc (suc (suc i))) = omega arith in number_in ns (4 + i) ∙ rw four in
    rw (number_in ns 0, number_in ns 1, number_in ns 2, number_in ns 3, tab_is (λ i. number_at (pairs ns) (4 + i)) x.outs max_outputs e out-row)

-- the numbers of bytes, as bytes again
pub pairs-tab :
    (s : List ℕ) (n : ℕ) → all_of (λ b. ltb b 256) s ≡ true → 2 * n ≤ length s → pairs (tab n (number_at s)) ≡ take (2 * n) s
unfolding tab pairs number_at
pairs-tab s zero small h = refl
pairs-tab s (suc n) small h =
    let a = get_or s (2 * n) 0 in
    let b = get_or s (2 * n + 1) 0 in
    let a_small = ltb-true a 256 (all_of_at (λ k. ltb k 256) s (2 * n) small (omega arith)) in
    let low : (a + 256 * b) % 256 ≡ a = omega arith in
    let high : (a + 256 * b) / 256 ≡ b = omega arith in
    let one : take (suc (2 * n)) s ≡ take (2 * n) s ++ (a ∷ []) = take-suc s (2 * n) 0 (omega arith) in
    let even : 2 * suc n ≡ suc (2 * n + 1) = omega arith in
    let two : take (suc (2 * n + 1)) s ≡ take (2 * n + 1) s ++ (b ∷ []) = take-suc s (2 * n + 1) 0 (omega arith) in
    pairs_more (tab n (number_at s)) (a + 256 * b)
    ∙ rw (low, high, pairs-tab s n small (omega arith), even, two, add-one (2 * n), one)

-- a record's bytes from what was read of bytes
pub record_again :
    (s : List ℕ) → all_of (λ b. ltb b 256) s ≡ true → record_length ≤ length s → record_bytes (record_from s) ≡ take record_length s
unfolding record_length record_from record_bytes numbers_of max_outputs tab
record_again s small h = pairs-tab s (4 + max_outputs) small h

-- a buffer of zeros holds no numbers
pub no_numbers : (m : ℕ) → zeros m ≡ padded m (pairs [])
unfolding padded pairs
no_numbers m = let e : m ≡ m - 0 = omega arith in ap zeros e

-- numbers that are 0 past others
pairs-zeros : (k : ℕ) → pairs (zeros k) ≡ zeros (2 * k)
unfolding pairs
pairs-zeros zero = refl
pairs-zeros (suc k) =
    let even : 2 * suc k ≡ suc (suc (2 * k)) = omega arith in
    ap (λ (l : List ℕ). 0 ∷ 0 ∷ l) (pairs-zeros k) ∙ sym (ap zeros even)

pairs_before_zeros : (ns : List ℕ) (k : ℕ) → pairs (ns ++ zeros k) ≡ pairs ns ++ zeros (2 * k)
unfolding pairs
pairs_before_zeros [] k = pairs-zeros k
pairs_before_zeros (n ∷ ns) k = ap (λ (l : List ℕ). n % 256 ∷ n / 256 ∷ l) (pairs_before_zeros ns k)

pub pairs-padded : (n k : ℕ) (ns : List ℕ) → length ns ≤ k → 2 * k ≤ n → padded n (pairs (padded k ns)) ≡ padded n (pairs ns)
unfolding padded
pairs-padded n k ns h l =
    let long : length (pairs (padded k ns)) ≤ n = omega (arith, length_pairs (padded k ns), length-padded k ns h) in
    let short : length (pairs ns) ≤ n = omega (arith, length_pairs ns) in
    ext_get_or 0 (padded n (pairs (padded k ns))) (padded n (pairs ns))
    (length-padded n (pairs (padded k ns)) long ∙ sym (length-padded n (pairs ns) short))
    (λ i below.
    get_or-padded_any n (pairs (padded k ns)) i
    ∙ ap (λ (l : List ℕ). get_or l i 0) (pairs_before_zeros ns (k - length ns))
    ∙ get_or_before_zeros (pairs ns) (2 * (k - length ns)) i
    ∙ sym (get_or-padded_any n (pairs ns) i))

-- the numbers in a buffer are read back
pub numbers_back : (n : ℕ) (ns : List ℕ) (i : ℕ) → number_at (padded n (pairs ns)) i ≡ get_or ns i 0
unfolding number_at
numbers_back n ns i = rw (get_or-padded_any n (pairs ns) (2 * i), get_or-padded_any n (pairs ns) (2 * i + 1)) (number_in ns i)

-- a table with one entry more
pub tab_more : (f : ℕ → ℕ) (n j : ℕ) → j < n → set (padded n (tab j f)) j (f j) ≡ padded n (tab (j + 1) f)
unfolding tab
tab_more f n j h = rw add-one (padded-set n (tab j f) j (f j) (length-tab j f) h)
