-- The buffer while cells are read: it holds the codes so far and zeros after them, a store past the last cell named keeps this, and at
-- the end it holds the R-as-C cells.
use Prim.Native.Nat.{ℕ, zero, suc, ◌+◌, ◌-◌, ◌≤◌, ◌<◌}
use mathlib.Core.Path.{◌≡◌, refl, sym, ap, ◌∙◌}
use mathlib.Core.Logic.{⊎_elim}
use mathlib.Core.List.{List, [], ◌∷◌, ◌++◌, append_assoc, append-nil}
use native.Mathlib.Omega.{arith}
use lib.ListN.{length, take, set, length-append, length-replicate, replicate-append-replicate, drop, drop_of_length-le}
use lib.Seq.{length-take-le, take_all, take-append-le, take-set-lt, set_at, set_out, append_snoc, drop_at, take_at}
use Rattle.std.proofs.lemmas.Bool.{cases_lt}
use Rattle.std.proofs.lemmas.List.{take-replicate}
use Rattle.common.specs.Lists.{zeros, padded, all_of}
use Rattle.common.proofs.Lists.{length-padded, all_of_zeros}
use Rattle.listings.specs.Loader.{kept}
use lib.Dec.{eqb}
use mathlib.Core.Bool.{true}

-- the front of a list with zeros after it does not depend on how many there are, if there are enough
take-front : (n : ℕ) (s : List ℕ) (i j : ℕ) → n ≤ length s + i → n ≤ length s + j → take n (s ++ zeros i) ≡ take n (s ++ zeros j)
take-front zero s i j h k = refl
take-front (suc n) [] i j h k = take-replicate (suc n) i 0 (omega arith) ∙ sym (take-replicate (suc n) j 0 (omega arith))
take-front (suc n) (a ∷ s) i j h k = ap (λ (l : List ℕ). a ∷ l) (take-front n s i j (omega arith) (omega arith))

-- one list with zeros after it, in two parts
zeros_parts : (s : List ℕ) (i j : ℕ) → (s ++ zeros i) ++ zeros j ≡ s ++ zeros (i + j)
zeros_parts s i j = append_assoc s (zeros i) (zeros j) ∙ ap (λ (l : List ℕ). s ++ l) (replicate-append-replicate {A = ℕ} i j 0)

pub length-kept : (room : ℕ) (codes : List ℕ) → length (kept room codes) ≡ room
unfolding kept
length-kept room codes = length-take-le room (codes ++ zeros room) (simp (length-append, length-replicate) (omega arith))

-- before the first cell the buffer is clear
pub kept_none : (room : ℕ) → zeros room ≡ kept room []
unfolding kept
kept_none room = sym (take-replicate room room 0 (omega arith))

-- a store in a list with zeros after it, past the list
set-zeros :
    (s : List ℕ) (p i a : ℕ) → length s ≤ p → p - length s < i → set (s ++ zeros i) p a ≡ padded p s ++ (a ∷ zeros (i - suc (p - length s)))
unfolding padded
set-zeros s p i a h k =
    let gap = p - length s in
    let parts : i ≡ gap + suc (i - suc gap) = omega arith in
    let front : length (s ++ zeros gap) ≡ p = simp (length-append, length-replicate) (omega arith) in
    ap (λ (n : ℕ). set (s ++ zeros n) p a) parts
    ∙ ap (λ (l : List ℕ). set l p a) (sym (zeros_parts s gap (suc (i - suc gap))))
    ∙ set_at (s ++ zeros gap) 0 (zeros (i - suc gap)) a p front

-- the front of a list that is padded past it
front_padded : (room : ℕ) (s : List ℕ) (p : ℕ) → length s ≤ p → room ≤ p → take room (s ++ zeros room) ≡ take room (padded p s)
unfolding padded
front_padded room s p h k = take-front room s room (p - length s) (omega arith) (omega arith)

-- a code stored at a place past the codes so far
pub kept_set :
    (room : ℕ) (codes : List ℕ) (p a : ℕ) → length codes ≤ p → set (kept room codes) p a ≡ kept room (padded p codes ++ (a ∷ []))
unfolding kept
kept_set room codes p a h =
    let wide = length-padded p codes h in
    let full : length (padded p codes ++ (a ∷ [])) ≡ p + 1 = simp (length-append, wide) in
    ⊎_elim
    (λ (inside : p < room).
    let left = room - suc (p - length codes) in
    sym (take-set-lt room (codes ++ zeros room) p a inside)
    ∙ ap (take room) (set-zeros codes p room a h (omega arith) ∙ sym (append_snoc (padded p codes) a (zeros left)))
    ∙ take-front room (padded p codes ++ (a ∷ [])) left room (omega arith) (omega arith))
    (λ (outside : room ≤ p).
    set_out (kept room codes) p a (rw (length-kept room codes) outside)
    ∙ front_padded room codes p h outside
    ∙ sym
    (take-append-le room (padded p codes ++ (a ∷ [])) (zeros room) (omega arith)
    ∙ take-append-le room (padded p codes) (a ∷ []) (omega arith)))
    (cases_lt p room)

-- with room for n cells, the codes of which are named up to the last that is not off
pub kept-padded : (room n : ℕ) (codes : List ℕ) → length codes ≤ n → n ≤ room → kept room codes ≡ padded room (padded n codes)
unfolding kept padded
kept-padded room n codes h k =
    let m = length codes in
    let wide : length (codes ++ zeros (n - m)) ≡ n = simp (length-append, length-replicate) (omega arith) in
    let all : length (codes ++ zeros (room - m)) ≡ room = simp (length-append, length-replicate) (omega arith) in
    let parts : (n - m) + (room - n) ≡ room - m = omega arith in
    take-front room codes room (room - m) (omega arith) (omega arith)
    ∙ take_all room (codes ++ zeros (room - m)) (omega arith)
    ∙ sym (rw wide (zeros_parts codes (n - m) (room - n) ∙ ap (λ (i : ℕ). codes ++ zeros i) parts))

-- padding again changes nothing
padded_again : (n : ℕ) (s : List ℕ) → padded n (padded n s) ≡ padded n s
unfolding padded
padded_again n s =
    let none_left : n - length (s ++ zeros (n - length s)) ≡ 0 = simp (length-append, length-replicate) (omega arith) in
    rw none_left (append-nil (s ++ zeros (n - length s)))

pub rows_again : (n : ℕ) (stands : List ℕ) {outs : List ℕ} → padded n stands ≡ outs → padded n outs ≡ padded n stands
rows_again n stands e = rw (← e) (padded_again n stands)

-- past the cells the buffer holds zeros, and up to there the codes of the cells, where it has room for them
pub kept_past : (room n : ℕ) (codes : List ℕ) → length codes ≤ n → all_of (λ b. eqb b 0) (drop n (kept room codes)) ≡ true
unfolding padded all_of
kept_past room n codes h =
    ⊎_elim
    (λ (short : room < n). rw (drop_of_length-le (kept room codes) {i = n} (rw length-kept (omega arith))))
    (λ (long : n ≤ room).
    rw (kept-padded room n codes h long, drop_at (padded n codes) (zeros (room - length (padded n codes))) n (length-padded n codes h))
    (all_of_zeros (λ b. eqb b 0) (room - length (padded n codes)) refl))
    (cases_lt room n)

pub kept-cells : (room n : ℕ) (codes : List ℕ) → length codes ≤ n → n ≤ room → padded n (take n (kept room codes)) ≡ padded n codes
unfolding padded
kept-cells room n codes h long =
    let full = length-padded n codes h in
    ap (λ (l : List ℕ). padded n (take n l)) (kept-padded room n codes h long)
    ∙ ap (padded n) (take_at (padded n codes) (zeros (room - length (padded n codes))) n full)
    ∙ padded_again n codes
