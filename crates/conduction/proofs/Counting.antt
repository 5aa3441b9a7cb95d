-- The rounds one after the other: where they begin, where a round adds no wire the count is found, and where it does the next round follows;
-- the number of rounds that reaches the number of wires ends them too.
use Prim.Native.Nat.{ℕ, suc, ◌+◌, ◌%◌, ◌≤◌, ◌<◌}
use mathlib.Core.Path.{◌≡◌, refl, sym, ap, ◌∙◌}
use mathlib.Core.Logic.{⊎_elim}
use mathlib.Core.Bool.{Bool, true, false}
use mathlib.Core.List.{List}
use native.Mathlib.Nat.{pos_of_ne-zero}
use native.Mathlib.Omega.{arith}
use native.Mathlib.Numerals.{add-one}
use lib.ListN.{length, get_or}
use Rattle.std.specs.Prelude.{Some}
use Rattle.std.proofs.lemmas.Bool.{cases_lt, cases_eq}
use lib.Dec.{ltb}
use borrow.Author.Tests.{not-true, not-false, lt-ltb, le-ltb}
use Rattle.common.specs.Lists.{tab}
use Rattle.common.proofs.Lists.{at_or_below, length-tab, get_or-tab}
use Rattle.conduction.specs.Round.{at_rest, is_new, Rounded}
use Rattle.conduction.specs.Stamps.{stamps_after, Settled}
use Rattle.conduction.specs.declared.Key.{Key}
use Rattle.conduction.specs.declared.Lamp.{Lamp}
use Rattle.conduction.specs.Wires.{no_key, wire_of, in_order, passing, Sided, Standing, Fits}
use Rattle.conduction.proofs.First.{first_most}
use Rattle.conduction.proofs.Stamps.{stamps_entry, stamps_next, stamps_rest, start_one, start_none}
use Rattle.conduction.proofs.Crossing.{Turned}

-- t rounds were run, and each added a wire
pub record Going (m n : ℕ) (joined : ℕ → ℕ → Bool) (k t : ℕ) (stamps : List ℕ) : Type 0 where
  pub upto : t ≤ m + n
  pub so_far : stamps ≡ stamps_after k m n joined t
  pub adding : (s : ℕ) → s < t → at_rest m n joined s ≡ false

module _ (m n : ℕ) (joined : ℕ → ℕ → Bool) (k : ℕ) (row_0 : 0 < m) (room : m + n ≤ k) where
  pub going_start : (stamps : List ℕ) → stamps ≡ stamps_after k m n joined 0 → Going m n joined k 0 stamps
  going_start stamps e = record { upto = omega arith; so_far = e; adding = λ s h. absurd (omega arith) }

  module _ (t : ℕ) (stamps : List ℕ) (going : Going m n joined k t stamps) where
    module _ (after : List ℕ) (added : Bool) (ran : Rounded m n joined t stamps after added) where
      after_is : after ≡ stamps_after k m n joined (suc t)
      after_is =
          ran.new_wires
          ∙ ap (λ (s : List ℕ). tab (length s) (λ v. elim (is_new m n joined t v) [ true ↦ t + 2 | false ↦ get_or s v 0 ])) going.so_far
          ∙ stamps_next m n joined k t room

      pub rest_found : added ≡ false → Settled m n joined k after (Some t)
      rest_found h =
          let rest = not-false (at_rest m n joined t) (sym ran.adds ∙ h) in
          record { least = going.adding; rests = rest; stamps = after_is ∙ stamps_rest m n joined k t rest }

      pub going_on : added ≡ true → t < m + n → Going m n joined k (t + 1) after
      going_on h p =
          record {
            upto = omega arith;
            so_far = rw add-one after_is;
            adding =
                λ s q.
                ⊎_elim
                (λ (e : s ≡ t). rw e (not-true (at_rest m n joined t) (sym ran.adds ∙ h)))
                (λ (q : s < t). going.adding s q)
                (at_or_below s t (omega arith));
          }

-- how many keys a side has
pub long_order : (first step size : ℕ) → length (in_order first step size) ≡ size
unfolding in_order
long_order first step size = length-tab size (wire_of first step)

-- "Before round 1 only row 0 is lit": the wires in rising order
module _ (m n k : ℕ) (joined : ℕ → ℕ → Bool) (row_0 : 0 < m) where
  -- the stamps then
  abbrev starts : List ℕ
  starts = stamps_after k m n joined 0

  dark_start : (v : ℕ) → 0 < v → get_or starts v 0 ≡ 0
  dark_start v h = stamps_entry m n joined k 0 v ∙ start_none m n joined row_0 v h

  one_start : get_or starts 0 0 ≡ 1
  one_start = stamps_entry m n joined k 0 0 ∙ start_one m n joined row_0

  lit-start : (v : ℕ) → get_or starts v 0 ≡ 1 → v ≡ 0
  lit-start v e =
      ⊎_elim
      (λ (z : v ≡ 0). z)
      (λ (z : v ≡ 0 → ⊥). absurd (omega (arith, e, dark_start v (pos_of_ne-zero z))))
      (cases_eq v 0)

  module _ (first step size : ℕ) where
    entry : (x : ℕ) → x < size → get_or (in_order first step size) x no_key ≡ wire_of first step x
    unfolding in_order
    entry x h = get_or-tab size (wire_of first step) x no_key h

    place : (x : ℕ) → x < size → (get_or (in_order first step size) x no_key).place ≡ first + x
    place x h = ap (λ (w : Key). w.place) (entry x h)

    sided_start : (dark : ℕ) → dark ≤ size → ((x : ℕ) → dark ≤ x → 0 < first + x) → ((x : ℕ) → x < dark → first + x ≡ 0) → Sided first step (in_order first step size) starts dark
    sided_start dark h later lit =
        record {
          within = omega (arith, long_order first step size);
          each = λ x p. (x, p, entry x (omega (arith, long_order first step size)));
          darks = λ x p q. rw (place x (omega (arith, long_order first step size))) (dark_start (first + x) (later x p));
          all =
              λ x p e.
              ⊎_elim
              (λ (q : x < dark).
              let one : get_or starts (first + x) 0 ≡ 1 = rw (lit x q) one_start in
              absurd (omega arith))
              (λ (q : dark ≤ x). (x, q, p, entry x (omega (arith, long_order first step size))))
              (cases_lt x dark);
        }

  pub standing_start :
      (rows columns : List Key) (stamps : List ℕ) → rows ≡ in_order 0 n m → columns ≡ in_order m 1 n → stamps ≡ starts
      → Standing rows columns stamps 0 0 1 0
  standing_start rows columns stamps is-rows is-columns is-stamps =
      let long_rows : length rows ≡ m = ap length is-rows ∙ long_order 0 n m in
      let long_columns : length columns ≡ n = ap length is-columns ∙ long_order m 1 n in
      record {
        most =
            λ v. rw is-stamps (omega (arith, stamps_entry m n joined k 0 v, first_most m n joined 0 v));
        even =
            λ e.
            rw (long_rows, long_columns, is-rows, is-columns, is-stamps)
            (record {
              front =
                  record {
                    order = omega arith;
                    within = omega (arith, long_order 0 n m);
                    stamped =
                        λ x p q.
                        let z : x ≡ 0 = omega arith in
                        rw z (ap (λ (v : ℕ). get_or starts v 0) (place 0 n m 0 row_0) ∙ one_start);
                    all = λ x p l. let z = lit-start (0 + x) l in (x, omega arith, omega arith, entry 0 n m x (omega (arith, long_order 0 n m)));
                  };
              lit = sided_start 0 n m 1 (omega arith) (λ x p. omega arith) (λ x p. omega arith);
              others = sided_start m 1 n 0 (omega arith) (λ x p. omega arith) (λ x p. absurd (omega arith));
              apart = λ y p l. let z = lit-start (m + y) l in omega arith;
            });
        odd = λ e. absurd (e refl);
      }

-- the state before a round: the lists, and the rounds so far
pub record Running (lamp : Lamp) (m n k : ℕ) (rows columns : List Key) (stamps : List ℕ) (t head tail dark : ℕ) : Type 0 where
  pub fits : Fits lamp m n stamps
  pub long_rows : length rows ≡ m
  pub long_columns : length columns ≡ n
  pub long_stamps : length stamps ≡ k
  pub going : Going m n (passing lamp n) k t stamps
  pub standing : Standing rows columns stamps t head tail dark

module _ (lamp : Lamp) (m n k : ℕ) where
  pub running_start :
      (rows columns : List Key) (stamps : List ℕ) → Fits lamp m n stamps → length stamps ≡ k → rows ≡ in_order 0 n m → columns ≡ in_order m 1 n
      → stamps ≡ stamps_after k m n (passing lamp n) 0 → Running lamp m n k rows columns stamps 0 0 1 0
  running_start rows columns stamps fits long_stamps is-rows is-columns is-stamps =
      record {
        fits = fits;
        long_rows = ap length is-rows ∙ long_order 0 n m;
        long_columns = ap length is-columns ∙ long_order m 1 n;
        long_stamps = long_stamps;
        going = going_start m n (passing lamp n) k fits.row_0 (omega (arith, fits.wires_fit)) stamps is-stamps;
        standing = standing_start m n k (passing lamp n) fits.row_0 rows columns stamps is-rows is-columns is-stamps;
      }

  module _ (rows columns : List Key) (stamps : List ℕ) (t head tail dark : ℕ) (running : Running lamp m n k rows columns stamps t head tail dark) where
    room : m + n ≤ k
    room = omega (arith, running.fits.wires_fit, running.long_stamps)

    module _ (rows' columns' : List Key) (stamps' : List ℕ) (end : ℕ) (turned : Turned lamp rows columns stamps rows' columns' stamps' t tail dark end) where
      ran : Rounded m n (passing lamp n) t stamps stamps' (ltb dark end)
      ran = rw (running.long_rows, running.long_columns) at turned.rounded

      pub running_rest : end ≡ dark → Settled m n (passing lamp n) k stamps' (Some t)
      running_rest e =
          rest_found m n (passing lamp n) k running.fits.row_0 room t stamps running.going stamps' (ltb dark end) ran
          (le-ltb dark end (omega arith))

      pub running_on :
          (end ≡ dark → ⊥) → t < m + n → length rows' ≡ length rows → length columns' ≡ length columns → length stamps' ≡ length stamps
          → Running lamp m n k rows' columns' stamps' (t + 1) dark end tail
      running_on h p same_rows same-columns same-stamps =
          let before : dark ≤ end = front_order in
          let added : ltb dark end ≡ true = ⊎_elim (λ (q : dark < end). lt-ltb dark end q) (λ (q : end ≤ dark). absurd (h (omega arith))) (cases_lt dark end) in
          record {
            fits =
                record {
                  row_0 = running.fits.row_0;
                  cells_fit = running.fits.cells_fit;
                  wires_fit = omega (arith, running.fits.wires_fit);
                  rows_fit = running.fits.rows_fit;
                  columns_fit = running.fits.columns_fit;
                };
            long_rows = same_rows ∙ running.long_rows;
            long_columns = same-columns ∙ running.long_columns;
            long_stamps = same-stamps ∙ running.long_stamps;
            going = going_on m n (passing lamp n) k running.fits.row_0 room t stamps running.going stamps' (ltb dark end) ran added p;
            standing = turned.standing;
          }
        where
          -- the wires that a round added stand in order
          front_order : dark ≤ end
          front_order =
              ⊎_elim
              (λ (e : (t + 1) % 2 ≡ 0). (turned.standing.even e).front.order)
              (λ (e : (t + 1) % 2 ≡ 0 → ⊥). (turned.standing.odd e).front.order)
              (cases_eq ((t + 1) % 2) 0)
