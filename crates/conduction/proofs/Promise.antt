-- Light's promise: what the rounds leave in the buffer, and the answer and the numbers on each of light's grounds and on none.
use Prim.Native.Nat.{ℕ, ◌+◌, ◌-◌, ◌*◌, ◌≤◌, ◌<◌}
use mathlib.Core.Path.{◌≡◌, sym, ap, ◌∙◌}
use mathlib.Core.Bool.{Bool, true, false, ◌&&◌}
use Rattle.std.specs.Prelude.{Option, Some, None, Result, Ok, Err}
use Rattle.std.proofs.Math.Bool.{and-false}
use mathlib.Core.List.{List}
use native.Mathlib.Omega.{arith}
use native.Mathlib.Nat.{mul-le-mul_right}
use lib.ListN.{length, get_or, set, take, length-set, length-replicate}
use lib.Seq.{get_or-take, length-take-le}
use lib.Dec.{leb, ltb}
use borrow.Author.Tests.{leb-true, lt-ltb, le-ltb}
use Rattle.common.specs.Limits.{max_switches}
use Rattle.common.specs.Lists.{zeros, padded, tab}
use Rattle.common.proofs.Lists.{all_of_at, get_or-tab}
use Rattle.common.specs.declared.Refusal.{Refusal}
use Rattle.common.specs.Fault.{fault_of, handed}
use Rattle.common.specs.Outcome.{refused, lowest, unless, buffer_of, Answered}
use Rattle.cells.specs.declared.Crossbar.{Crossbar}
use Rattle.cells.specs.Code.{cell_of}
use Rattle.cells.specs.Conducts.{conducts, joins}
use Rattle.cells.specs.Record.{sound}
use Rattle.cells.specs.Setting.{is_setting}
use Rattle.conduction.specs.declared.Lamp.{Lamp}
use Rattle.conduction.specs.Round.{round_count, at_rest}
use Rattle.conduction.specs.Stamps.{stamps_after, Settled, Counted}
use Rattle.conduction.specs.Light.{joined, lit_by, light}
use Rattle.conduction.specs.Wires.{passes, passing, on_codes, LampReady}
use Rattle.conduction.proofs.Rounds.{rests_same}
use Rattle.conduction.proofs.First.{firsts_same}
use Rattle.conduction.proofs.Stamps.{start-written}
use Rattle.conduction.proofs.Count.{count_only}
use Rattle.conduction.proofs.Light.{sound_row, light_accepts}

-- the rounds hang on the cells of the crossbar alone
pub settled_as :
    (m n : ℕ) (j j' : ℕ → ℕ → Bool) (k : ℕ) (after : List ℕ) (r : Option ℕ) → ((r c : ℕ) → r < m → c < n → j r c ≡ j' r c)
    → Settled m n j k after r → Settled m n j' k after r
unfolding stamps_after
settled_as m n j j' k after None agree settled = λ t h. sym (rests_same m n j j' agree t) ∙ settled t h
settled_as m n j j' k after (Some t) agree settled =
    record {
      least = λ s h. sym (rests_same m n j j' agree s) ∙ settled.least s h;
      rests = sym (rests_same m n j j' agree t) ∙ settled.rests;
      stamps = settled.stamps ∙ ap (padded k) (firsts_same m n j j' agree t);
    }

-- the table of codes says which cells conduct
pub table_says :
    (lamp : Lamp) (cells setting firsts : List ℕ) (m n : ℕ) → LampReady cells setting m n firsts → lamp.cells.now ≡ cells → lamp.on.now ≡ on_codes setting
    → (r c : ℕ) → r < m → c < n → passing lamp n r c ≡ joins cells n setting r c
unfolding passing passes on_codes joins max_switches
table_says lamp cells setting firsts m n l is-cells is-on r c h k =
    let i = r * n + c in
    let within : i < m * n = omega (arith, mul-le-mul_right n h) in
    let f : ℕ → Bool = λ x. ltb x (2 + 2 * length setting) && conducts setting (cell_of x) in
    let code = get_or cells i 0 in
    let taken : i < length (take (m * n) cells) = rw (length-take-le (m * n) cells l.cells_fit) within in
    let small = leb-true code (1 + 2 * length setting) (rw (get_or-take (m * n) cells i 0 within) at (all_of_at (λ x. leb x (1 + 2 * length setting)) (take (m * n) cells) i l.codes_fit taken)) in
    let entry : get_or (tab 256 f) code false ≡ f code = get_or-tab 256 f code false (omega (arith, l.switches_fit)) in
    rw (is-cells, is-on, entry, lt-ltb code (2 + 2 * length setting) (omega arith))

-- so what is counted of one is counted of the other, and what is counted by the codes is what light counts
pub counted_as :
    (m n : ℕ) (j j' : ℕ → ℕ → Bool) (k t : ℕ) (after : List ℕ)
    → ((r c : ℕ) → r < m → c < n → j r c ≡ j' r c)
    → Counted m n j k after t
    → Counted m n j' k after t
counted_as m n j j' k t after agree counted = settled_as m n j j' k after (Some t) agree counted

pub light_counted :
    (lamp : Lamp) (cells setting firsts : List ℕ) (m n k t : ℕ) (after : List ℕ)
    → LampReady cells setting m n firsts
    → lamp.cells.now ≡ cells
    → lamp.on.now ≡ on_codes setting
    → Counted m n (passing lamp n) k after t
    → Counted m n (joins cells n setting) k after t
light_counted lamp cells setting firsts m n k t after ready of-cells of-codes =
    counted_as m n (passing lamp n) (joins cells n setting) k t after (table_says lamp cells setting firsts m n ready of-cells of-codes)

-- off is not one of them
pub off_dark : (setting : List ℕ) → get_or (on_codes setting) 0 false ≡ false
unfolding on_codes conducts cell_of
off_dark setting =
    get_or-tab 256 (λ x. ltb x (2 + 2 * length setting) && conducts setting (cell_of x)) 0 false (omega arith) ∙ and-false (ltb 0 (2 + 2 * length setting))

-- a buffer of zeros with 1 for row 0: the stamps before round 1
pub lamp_starts :
    (cells setting firsts dark : List ℕ) (m n : ℕ) (j : ℕ → ℕ → Bool) → LampReady cells setting m n firsts → dark ≡ zeros (length firsts)
    → set dark 0 1 ≡ stamps_after (length (set dark 0 1)) m n j 0
lamp_starts cells setting firsts dark m n j l is-dark =
    let long : length (set dark 0 1) ≡ length firsts = length-set dark 0 1 ∙ ap length is-dark ∙ length-replicate {A = ℕ} (length firsts) 0 in
    ap (λ (s : List ℕ). set s 0 1) is-dark
    ∙ start-written m n j l.row_0 (length firsts) l.wires_fit
    ∙ ap (λ (k : ℕ). stamps_after k m n j 0) (sym long)

module _ (x : Crossbar) (cells setting : List ℕ) (room : ℕ) where
  pub by_12 : sound x cells ≡ false → light x cells setting room ≡ refused 12 0
  unfolding light lowest unless
  by_12 s = rw s

  pub by_13 : sound x cells ≡ true → is_setting x.switches setting ≡ false → light x cells setting room ≡ refused 13 0
  unfolding light lowest unless
  by_13 s t = rw (s, t)

  pub by_14 :
      sound x cells ≡ true → is_setting x.switches setting ≡ true → room < x.rows + x.columns
      → light x cells setting room ≡ refused 14 0
  unfolding light lowest unless
  by_14 s t h = rw (s, t, lt-ltb room (x.rows + x.columns) h)

  pub by_15 :
      sound x cells ≡ true → is_setting x.switches setting ≡ true → x.rows + x.columns ≤ room
      → at_rest x.rows x.columns (joined x cells setting) (x.rows + x.columns - 1) ≡ false
      → light x cells setting room ≡ refused 15 0
  unfolding light lowest unless
  by_15 s t h e = rw (s, t, le-ltb room (x.rows + x.columns) h, e)

module _ (x : Crossbar) (cells setting before after : List ℕ) (r : Result ℕ Refusal) where
  abbrev Promised : Type 0
  Promised = Answered (light x cells setting (length before)) (handed (λ a. a.count)) (λ a. a.firsts) (length before) r after

  pub answers_refused :
      (number : ℕ) → light x cells setting (length before) ≡ refused number 0 → r ≡ Err (record { fault = fault_of number; line = 0 })
      → after ≡ zeros (length before) → Promised
  unfolding buffer_of handed
  answers_refused number e answer numbers = record { answer = rw e answer; buffer = rw e numbers }

  -- after the rounds
  module _ (s : sound x cells ≡ true) (v : is_setting x.switches setting ≡ true) (h : x.rows + x.columns ≤ length before) where
    -- where no round up to R + C − 1 is at rest
    pub answers_15 :
        (firsts : List ℕ) → Settled x.rows x.columns (joins cells x.columns setting) (length before) firsts None
        → r ≡ Err (record { fault = fault_of 15; line = 0 }) → after ≡ zeros (length before) → Promised
    unfolding joined
    answers_15 firsts none answer numbers =
        let row_0 = sound_row x cells s in
        answers_refused 15 (by_15 x cells setting (length before) s v h (none (x.rows + x.columns - 1) (omega arith))) answer numbers

    -- where the rounds are at rest
    pub answers_done :
        (t : ℕ) → Settled x.rows x.columns (joins cells x.columns setting) (length before) after (Some t) → r ≡ Ok t → Promised
    unfolding joined lit_by handed buffer_of stamps_after
    answers_done t counted answer =
        let m = x.rows in
        let n = x.columns in
        let j = joins cells n setting in
        let counts : round_count m n j ≡ t = count_only m n j (sound_row x cells s) t counted.rests counted.least in
        let accepted = light_accepts x cells setting (length before) s v h in
        record { answer = rw (accepted, counts) answer; buffer = rw (accepted, counts) counted.stamps }
