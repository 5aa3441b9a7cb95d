-- The two ways of a round, from rows to columns and back: the wires of both sides meet in the crossbar's cells, so that what holds of a round
-- from one side to the other holds of both; and what the parts of a round ask for.
use Prim.Native.Nat.{ℕ, ◌+◌, ◌-◌, ◌*◌, ◌%◌, ◌≤◌, ◌<◌}
use mathlib.Core.Path.{◌≡◌, sym, ap, ◌∙◌}
use mathlib.Core.Logic.{inl, inr, ⊎_elim}
use mathlib.Core.Bool.{Bool, true, false}
use mathlib.Core.List.{List}
use native.Mathlib.Omega.{arith}
use native.Mathlib.Nat.{le_trans, mul-le-mul_right, pos_of_ne-zero}
use borrow.Rule.Slice.PartMut.{put_mid}
use lib.Arith.{digits_lt}
use lib.ListN.{length, get_or}
use lib.Seq.{ext_get_or}
use lib.Dec.{ltb}
use borrow.Author.Tests.{lt-ltb, le-ltb}
use Rattle.std.proofs.lemmas.Bool.{cases_Bool, cases_lt, cases_eq}
use Rattle.common.specs.Limits.{max_rows, max_columns}
use Rattle.common.specs.Lists.{tab}
use Rattle.common.proofs.Lists.{length-tab, get_or-tab}
use Rattle.conduction.specs.Round.{at_rest, is_new, first_round, Rounded}
use Rattle.conduction.specs.Stamps.{stamps_after}
use Rattle.conduction.specs.declared.Key.{Key}
use Rattle.conduction.specs.declared.Lamp.{Lamp}
use Rattle.conduction.specs.Wires.{
  no_key,
  part,
  passes,
  passing,
  joined_to,
  Spreadable,
  InPlaces,
  Sorted,
  NewlyStamped,
  Crossed,
  TurnReady,
  Standing,
  Fits,
}
use Rattle.conduction.proofs.First.{first_most, rest_none_new, none_new_rest}
use Rattle.conduction.proofs.Stamps.{meets, stamp, reached, meets_across, meets_back, meets_is, Across, stamps_entry, stamp_is_new}
use Rattle.conduction.proofs.Sorting.{part_long, part_entry, rest_long, rest_entry, put_long, put_part, sorted_rest}
use Rattle.conduction.proofs.Turns.{
  Sides,
  turned_entry,
  turned_ready,
  turned_most,
  turned_none,
  turned_some,
}

-- what a round does: the stamps after it, whether it added a wire, and that the next round can follow. The wires that it added stand from
-- `dark` up to `end`.
pub record Turned (lamp : Lamp) (rows columns : List Key) (stamps : List ℕ) (rows' columns' : List Key) (stamps' : List ℕ) (t tail dark end : ℕ) : Type 0 where
  pub rounded : Rounded (length rows) (length columns) (passing lamp (length columns)) t stamps stamps' (ltb dark end)
  pub standing : Standing rows' columns' stamps' (t + 1) dark end tail

-- what a round does to the stamps, from their entries, where they were the first rounds so far
rounded_by :
    (m n : ℕ) (joined : ℕ → ℕ → Bool) (t dark end : ℕ) (stamps stamps' : List ℕ) → stamps ≡ stamps_after (length stamps) m n joined t
    → length stamps' ≡ length stamps
    → dark ≤ end
    → ((v : ℕ) → get_or stamps' v 0 ≡ stamp (t + 2) (reached m n joined t stamps v) (get_or stamps v 0))
    → (end ≡ dark → (v : ℕ) → get_or stamps' v 0 ≡ get_or stamps v 0)
    → (dark < end → (v : ℕ) × (get_or stamps v 0 ≡ 0) × (get_or stamps' v 0 ≡ t + 2))
    → Rounded m n joined t stamps stamps' (ltb dark end)
rounded_by m n joined t dark end stamps stamps' so_far long order entries none some =
    let f : ℕ → ℕ = λ v. elim (is_new m n joined t v) [ true ↦ t + 2 | false ↦ get_or stamps v 0 ] in
    let was : (v : ℕ) → get_or stamps v 0 ≡ first_round m n joined t v =
    λ v. ap (λ (s : List ℕ). get_or s v 0) so_far ∙ stamps_entry m n joined (length stamps) t v in
    let newly : (v : ℕ) → get_or stamps' v 0 ≡ f v = λ v. entries v ∙ stamp_is_new m n joined t stamps was v in
    let old : (v : ℕ) → is_new m n joined t v ≡ false → get_or stamps' v 0 ≡ get_or stamps v 0 = λ v e. newly v ∙ rw e in
    let new : (v : ℕ) → is_new m n joined t v ≡ true → get_or stamps' v 0 ≡ t + 2 = λ v e. newly v ∙ rw e in
    record {
      new_wires =
          ext_get_or 0 stamps' (tab (length stamps) f) (long ∙ sym (length-tab (length stamps) f))
          (λ v h. newly v ∙ sym (get_or-tab (length stamps) f v 0 (omega arith)));
      adds =
          ⊎_elim
          (λ (h : dark < end).
          let at = some h in
          ⊎_elim
          (λ (r : at_rest m n joined t ≡ true).
          absurd (omega (arith, at.1, at.2, old at.0 (rest_none_new m n joined t at.0 r))))
          (λ (r : at_rest m n joined t ≡ false). rw (lt-ltb dark end h, r))
          (cases_Bool (at_rest m n joined t)))
          (λ (h : end ≤ dark).
          let rest =
          none_new_rest m n joined t
          (λ w below.
          ⊎_elim
          (λ (e : is_new m n joined t w ≡ true). absurd (omega (arith, none (omega arith) w, new w e, was w, first_most m n joined t w)))
          (λ e. e)
          (cases_Bool (is_new m n joined t w))) in
          rw (le-ltb dark end h, rest))
          (cases_lt dark end);
    }

-- the wires of both sides
module _ (m n : ℕ) (lamp : Lamp) where
  pub rows_columns : Sides m n (passing lamp n) lamp 0 n m m 1 n
  unfolding passing
  rows_columns =
      record {
        across =
            λ r c h k.
            let row : 0 + r ≡ r = omega arith in
            let at : r * n + c ≡ r * n + c * 1 = omega arith in
            ap (λ (u : ℕ). meets m n (passing lamp n) u (m + c)) row ∙ meets_across m n (passing lamp n) r c h k ∙ ap (passes lamp) at;
        ends =
            λ u v e.
            ⊎_elim
            (λ (a : Across m n (passing lamp n) u v).
            inl (
              (u, a.row_below, omega arith),
              (v - m, omega (arith, a.from, a.column_below), omega (arith, a.from)),
            ))
            (λ (a : Across m n (passing lamp n) v u). inr (u - m, omega (arith, a.from, a.column_below), omega (arith, a.from)))
            (meets_is m n (passing lamp n) u v e);
        apart = λ r c h k e. omega arith;
      }

  pub columns_rows : Sides m n (passing lamp n) lamp m 1 n 0 n m
  unfolding passing
  columns_rows =
      record {
        across =
            λ c r k h.
            let row : 0 + r ≡ r = omega arith in
            let at : r * n + c ≡ c * 1 + r * n = omega arith in
            ap (meets m n (passing lamp n) (m + c)) row ∙ meets_back m n (passing lamp n) r c h k ∙ ap (passes lamp) at;
        ends =
            λ u v e.
            ⊎_elim
            (λ (a : Across m n (passing lamp n) u v). inr (u, a.row_below, omega arith))
            (λ (a : Across m n (passing lamp n) v u).
            inl (
              (u - m, omega (arith, a.from, a.column_below), omega (arith, a.from)),
              (v, a.row_below, omega arith),
            ))
            (meets_is m n (passing lamp n) u v e);
        apart = λ c r k h e. omega arith;
      }

-- a crossing from one side to the other: what it asks for, and what it leaves
module _
    (m n : ℕ)
    (joined : ℕ → ℕ → Bool)
    (lamp : Lamp)
    (first step first' step' : ℕ)
    (from to : List Key)
    (stamps : List ℕ)
    (last head tail dark : ℕ)
    (sides : Sides m n joined lamp first step (length from) first' step' (length to))
    (ready : TurnReady first step first' step' from to stamps last head tail dark)
  where
    -- what a wire of the front adds is not past the cells
    begins :
        ((x : ℕ) → x < length from → x * step ≤ length lamp.cells.now)
        → (j : ℕ) → j < length (part from head tail) → (get_or (part from head tail) j no_key).adds ≤ length lamp.cells.now
    begins begin j p =
        let fronts = part_long from head tail ready.front.within in
        let a = ready.lit.each (head + j) (omega (arith, p, fronts, ready.front.within)) in
        rw (part_entry from head tail j no_key (omega (arith, p, fronts)), a.2) (begin a.0 a.1)

    -- the cells where the wires meet are there
    spreadable :
        ((x y : ℕ) → x < length from → y < length to → x * step + y * step' < length lamp.cells.now)
        → Spreadable lamp (part from head tail) (part to dark (length to))
    spreadable fit =
        let fronts = part_long from head tail ready.front.within in
        let rest = rest_long to dark ready.others.within in
        record {
          meeting =
              λ j k p q.
              let a = ready.lit.each (head + j) (omega (arith, p, fronts, ready.front.within)) in
              let b = ready.others.each (dark + k) (omega (arith, q, rest)) in
              rw (part_entry from head tail j no_key (omega (arith, p, fronts)), rest_entry to dark ready.others.within k, a.2, b.2)
              (fit a.0 b.0 a.1 b.1);
        }

    -- and each dark wire has its place among the stamps
    placed : first' + length to ≤ length stamps → InPlaces (part to dark (length to)) stamps
    placed fit =
        λ k q.
        let b = ready.others.each (dark + k) (omega (arith, q, rest_long to dark ready.others.within)) in
        let place = ap (λ (w : Key). w.place) (rest_entry to dark ready.others.within k ∙ b.2) in
        omega (arith, place, b.1)

-- the list of the other side after a crossing
abbrev pub crossed_list : List Key → (dark : ℕ) → List Key → List Key
crossed_list to dark dark' = put_mid dark (length to - dark) to dark'

module _
    (lamp : Lamp)
    (from to dark' : List Key)
    (stamps stamps' : List ℕ)
    (new head tail dark reached : ℕ)
    (within : dark ≤ length to)
    (long : length dark' ≡ length (part to dark (length to)))
    (crossed : Crossed lamp (part from head tail) new (part to dark (length to)) dark' stamps stamps' reached)
  where
    crossed_sorted : Sorted (joined_to lamp (part from head tail)) dark to (crossed_list to dark dark') (dark + reached) (length to)
    crossed_sorted = sorted_rest to dark within dark' long (joined_to lamp (part from head tail)) reached crossed.sorted

    crossed_stamps : NewlyStamped (part (crossed_list to dark dark') dark (dark + reached)) new stamps stamps'
    crossed_stamps = rw (put_part to dark within dark' long reached) crossed.stamped

module _
    (lamp : Lamp)
    (rows columns dark' : List Key)
    (stamps stamps' : List ℕ)
    (t head tail dark reached : ℕ)
    (fits : Fits lamp (length rows) (length columns) stamps)
    (standing : Standing rows columns stamps t head tail dark)
  where
    abbrev across_sides : Sides (length rows) (length columns) (passing lamp (length columns)) lamp 0 (length columns) (length rows) (length rows) 1 (length columns)
    across_sides = rows_columns (length rows) (length columns) lamp

    abbrev back_sides : Sides (length rows) (length columns) (passing lamp (length columns)) lamp (length rows) 1 (length columns) 0 (length columns) (length rows)
    back_sides = columns_rows (length rows) (length columns) lamp

    -- what a crossing from rows to columns asks for
    pub asks_across : t % 2 ≡ 0 → Spreadable lamp (part rows head tail) (part columns dark (length columns)) × InPlaces (part columns dark (length columns)) stamps
    asks_across parity = (
      spreadable _ _ _ _ _ _ _ _ _ _ _ _ _ _ _ across_sides (standing.even parity)
          (λ r c p q. omega (arith, digits_lt p q, fits.cells_fit)),
      placed _ _ _ _ _ _ _ _ _ _ _ _ _ _ _ across_sides (standing.even parity) fits.wires_fit,
    )

    -- and back
    pub asks_back : (t % 2 ≡ 0 → ⊥) → Spreadable lamp (part columns head tail) (part rows dark (length rows)) × InPlaces (part rows dark (length rows)) stamps
    asks_back parity = (
      spreadable _ _ _ _ _ _ _ _ _ _ _ _ _ _ _ back_sides (standing.odd parity)
          (λ c r q p. omega (arith, digits_lt p q, fits.cells_fit)),
      placed _ _ _ _ _ _ _ _ _ _ _ _ _ _ _ back_sides (standing.odd parity) (omega (arith, fits.wires_fit)),
    )

    row_within : (r : ℕ) → r < length rows → r ≤ length rows
    row_within r h = omega arith

    -- what the wires of the front add, also where no wire of the other side is dark
    pub begins_across :
        t % 2 ≡ 0 → (j : ℕ) → j < length (part rows head tail) → (get_or (part rows head tail) j no_key).adds ≤ length lamp.cells.now
    begins_across parity =
        begins _ _ _ _ _ _ _ _ _ _ _ _ _ _ _ across_sides (standing.even parity)
        (λ r p. le_trans (mul-le-mul_right (length columns) (row_within r p)) fits.cells_fit)

    pub begins_back :
        (t % 2 ≡ 0 → ⊥) → (j : ℕ) → j < length (part columns head tail) → (get_or (part columns head tail) j no_key).adds ≤ length lamp.cells.now
    begins_back parity =
        begins _ _ _ _ _ _ _ _ _ _ _ _ _ _ _ back_sides (standing.odd parity)
        (λ c q. omega (arith, digits_lt fits.row_0 q, fits.cells_fit))

    -- a stamp is a number of 16 bits
    pub stamp_fits : t < length rows + length columns → t + 2 < 65536
    unfolding max_rows max_columns
    stamp_fits h = omega (arith, fits.rows_fit, fits.columns_fit)

    module _
        (so_far : stamps ≡ stamps_after (length stamps) (length rows) (length columns) (passing lamp (length columns)) t)
        (long_stamps : length stamps' ≡ length stamps)
      where
        -- from rows to columns
        pub turn_across :
            t % 2 ≡ 0 → length dark' ≡ length (part columns dark (length columns))
            → Crossed lamp (part rows head tail) (t + 2) (part columns dark (length columns)) dark' stamps stamps' reached
            → Turned lamp rows columns stamps rows (crossed_list columns dark dark') stamps' t tail dark (dark + reached)
        turn_across parity long crossed =
            let m = length rows in
            let n = length columns in
            let ready = standing.even parity in
            let within = ready.others.within in
            let j = passing lamp n in
            let last : t + 2 ≡ t + 1 + 1 = omega arith in
            let columns' = crossed_list columns dark dark' in
            let end = dark + reached in
            let long' = put_long columns dark within dark' long in
            let sorted = crossed_sorted lamp rows columns dark' stamps stamps' (t + 2) head tail dark reached within long crossed in
            let marked = crossed_stamps lamp rows columns dark' stamps stamps' (t + 2) head tail dark reached within long crossed in
            record {
              rounded =
                  rounded_by m n j t dark end stamps stamps' so_far long_stamps sorted.from
                  (turned_entry m n j lamp 0 n m 1 rows columns columns' stamps stamps' t head tail dark end across_sides ready standing.most long' sorted marked)
                  (turned_none m n j lamp 0 n m 1 rows columns columns' stamps stamps' t head tail dark end across_sides ready standing.most long' sorted marked)
                  (turned_some m n j lamp 0 n m 1 rows columns columns' stamps stamps' t head tail dark end across_sides ready standing.most long' sorted marked);
              standing =
                  record {
                    most =
                        turned_most m n j lamp 0 n m 1 rows columns columns' stamps stamps' t head tail dark end across_sides ready standing.most long' sorted marked;
                    even = λ e. absurd (omega arith);
                    odd =
                        λ e.
                        rw (long', ← last)
                        (turned_ready m n j lamp 0 n m 1 rows columns columns' stamps stamps' t head tail dark end across_sides ready standing.most long' sorted marked);
                  };
            }

        -- and back
        pub turn_back :
            (t % 2 ≡ 0 → ⊥) → length dark' ≡ length (part rows dark (length rows))
            → Crossed lamp (part columns head tail) (t + 2) (part rows dark (length rows)) dark' stamps stamps' reached
            → Turned lamp rows columns stamps (crossed_list rows dark dark') columns stamps' t tail dark (dark + reached)
        turn_back parity long crossed =
            let m = length rows in
            let n = length columns in
            let ready = standing.odd parity in
            let within = ready.others.within in
            let j = passing lamp n in
            let last : t + 2 ≡ t + 1 + 1 = omega arith in
            let rows' = crossed_list rows dark dark' in
            let end = dark + reached in
            let long' = put_long rows dark within dark' long in
            let sorted = crossed_sorted lamp columns rows dark' stamps stamps' (t + 2) head tail dark reached within long crossed in
            let marked = crossed_stamps lamp columns rows dark' stamps stamps' (t + 2) head tail dark reached within long crossed in
            record {
              rounded =
                  rounded_by m n j t dark end stamps stamps' so_far long_stamps sorted.from
                  (turned_entry m n j lamp m 1 0 n columns rows rows' stamps stamps' t head tail dark end back_sides ready standing.most long' sorted marked)
                  (turned_none m n j lamp m 1 0 n columns rows rows' stamps stamps' t head tail dark end back_sides ready standing.most long' sorted marked)
                  (turned_some m n j lamp m 1 0 n columns rows rows' stamps stamps' t head tail dark end back_sides ready standing.most long' sorted marked);
              standing =
                  record {
                    most =
                        turned_most m n j lamp m 1 0 n columns rows rows' stamps stamps' t head tail dark end back_sides ready standing.most long' sorted marked;
                    even =
                        λ e.
                        rw (long', ← last)
                        (turned_ready m n j lamp m 1 0 n columns rows rows' stamps stamps' t head tail dark end back_sides ready standing.most long' sorted marked);
                    odd = λ e. absurd (e (⊎_elim (λ (z : t % 2 ≡ 0). absurd (parity z)) (λ (z : t % 2 ≡ 0 → ⊥). omega (arith, pos_of_ne-zero z)) (cases_eq (t % 2) 0)));
                  };
            }
