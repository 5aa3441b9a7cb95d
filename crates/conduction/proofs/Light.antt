-- Light's answer: what a record, a setting and an answer have where light does not refuse, and that it refuses by 12, 13 and 14 only.
use Prim.Native.Nat.{ℕ, zero, suc, ◌+◌, ◌-◌, ◌≤◌, ◌<◌}
use mathlib.Core.Path.{◌≡◌, refl, ap, ◌∙◌}
use mathlib.Core.Logic.{⊎_elim, ◌↔◌}
use mathlib.Core.Bool.{Bool, true, false, not}
use mathlib.Core.List.{List, [], ◌∷◌}
use native.Mathlib.Omega.{arith}
use lib.ListN.{get_or}
use lib.Dec.{leb, ltb}
use borrow.Author.Tests.{leb-true, ltb-false, le-ltb, not-false}
use Rattle.std.proofs.lemmas.Bool.{cases_Bool, cases_lt}
use Rattle.common.specs.Limits.{max_rows, max_columns}
use Rattle.common.specs.Outcome.{Outcome, done, Ground, ◌when◌, lowest, most_number, unless}
use Rattle.common.proofs.Outcome.{unless_done, not_met, others}
use Rattle.common.proofs.Within.{EndsWithin, ends_done, unless_ends, within, most_line}
use Rattle.cells.specs.declared.Crossbar.{Crossbar}
use Rattle.cells.specs.Record.{in_range, sound}
use Rattle.cells.specs.Setting.{is_setting}
use Rattle.cells.proofs.Sizes.{sound_facts}
use Rattle.conduction.specs.Round.{lit, rounds, round_count, at_rest, first_round, first_rounds}
use Rattle.conduction.specs.Chain.{Wire, row, Chain, cell_count, LeastCells, place, Within}
use Rattle.conduction.specs.Light.{Lit, joined, lit_by, light}
use Rattle.conduction.specs.Lit.{FirstLitIn, Answer, Lights}
use Rattle.conduction.proofs.Rounds.{wire_at, rounds-after}
use Rattle.conduction.proofs.Chains.{lit_short, chain_lights}
use Rattle.conduction.proofs.First.{
  lit_stays,
  first-is,
  first-none,
  first_dark,
  first_says,
  first_most,
  new_first,
  some_new,
  length_firsts,
  firsts_entry,
}
use Rattle.conduction.proofs.Stamps.{start_first, start_one}
use Rattle.conduction.proofs.Settles.{settles}
use Rattle.conduction.proofs.Count.{count_settled, count_at_most, count_least}

-- a sound record has a row
pub sound_row : (x : Crossbar) (cells : List ℕ) → sound x cells ≡ true → 0 < x.rows
unfolding sound in_range
sound_row x cells h =
    ⊎_elim
    (λ (p : leb 1 x.rows ≡ true). leb-true 1 x.rows p)
    (λ (p : leb 1 x.rows ≡ false). absurd (cc (rw (p, sound, in_range) at h)))
    (cases_Bool (leb 1 x.rows))

-- the rounds from row 0, where there is one, answer so
module _ (m n : ℕ) (j : ℕ → ℕ → Bool) (row_0 : 0 < m) (count : ℕ) (rest : at_rest m n j count ≡ true) where
  -- a wire that is lit at all is lit at rest
  lit_at_rest : (t w : ℕ) → lit (rounds m n j t) w ≡ true → lit (rounds m n j count) w ≡ true
  lit_at_rest t w e =
      let later : t ≤ count + t = omega arith in
      rw (rounds-after m n j count t rest) at (lit_stays m n j t (count + t) w later e)

  first_by_rest : (w t : ℕ) → FirstLitIn m n j w t → t ≤ count
  first_by_rest w t first =
      ⊎_elim
      (λ (h : count < t).
      absurd (cc (lit_at_rest t w first.lit_then, first.dark_before count h)))
      (λ (h : t ≤ count). h)
      (cases_lt count t)

  -- what the numbers at rest say
  pub number_dark : (w : ℕ) → (first_round m n j count w ≡ 0) ↔ (lit (rounds m n j count) w ≡ false)
  number_dark w = (first_dark m n j count w, first-none m n j count w)

  pub number_first : (w t : ℕ) → (first_round m n j count w ≡ 1 + t) ↔ FirstLitIn m n j w t
  number_first w t = (λ e. (first_says m n j count w t e).1, λ first. first-is m n j count w t (first_by_rest w t first) first)

  pub number_chain : (w : Wire) → Within m n w → (first_round m n j count (place m w) ≡ 0 → ⊥) ↔ Chain m n j w
  number_chain w k = (
    λ some.
        ⊎_elim
        (λ (l : lit (rounds m n j count) (place m w) ≡ true). (lit_short m n j row_0 count w k l).0)
        (λ (l : lit (rounds m n j count) (place m w) ≡ false). absurd (some (first-none m n j count (place m w) l)))
        (cases_Bool (lit (rounds m n j count) (place m w))),
    λ chain z.
        cc (lit_at_rest (cell_count chain) (place m w) (chain_lights m n j row_0 w chain), first_dark m n j count (place m w) z),
  )

  first_least : (w : Wire) (t : ℕ) → Within m n w → FirstLitIn m n j (place m w) t → LeastCells m n j w t
  first_least w t k first =
      let fewest : (c : Chain m n j w) → t ≤ cell_count c =
      λ c.
      ⊎_elim
      (λ (h : cell_count c < t).
      absurd
      (cc (chain_lights m n j row_0 w c, first.dark_before (cell_count c) h)))
      (λ (h : t ≤ cell_count c). h)
      (cases_lt (cell_count c) t) in
      let short = lit_short m n j row_0 t w k first.lit_then in
      record { chain = short.0; has = omega (arith, short.1, fewest short.0); fewest = fewest }

  least_first : (w : Wire) (t : ℕ) → Within m n w → LeastCells m n j w t → FirstLitIn m n j (place m w) t
  least_first w t k least =
      record {
        lit_then = rw least.has at (chain_lights m n j row_0 w least.chain);
        dark_before =
            λ s h.
            ⊎_elim
            (λ (l : lit (rounds m n j s) (place m w) ≡ true).
            let short = lit_short m n j row_0 s w k l in absurd (omega (arith, short.1, least.fewest short.0)))
            (λ l. l)
            (cases_Bool (lit (rounds m n j s) (place m w)));
      }

  pub number_cells : (w : Wire) (t : ℕ) → Within m n w → (first_round m n j count (place m w) ≡ 1 + t) ↔ LeastCells m n j w t
  number_cells w t k = (
    λ e. first_least w t k ((number_first (place m w) t).0 e),
    λ least. (number_first (place m w) t).1 (least_first w t k least),
  )

-- the largest number: in the last round that adds a wire one gets it, and where no round does it is row 0's
pub largest_number :
    (m n : ℕ) (j : ℕ → ℕ → Bool) → 0 < m → (count : ℕ) → ((t : ℕ) → t < count → at_rest m n j t ≡ false)
    → (w : Wire) × (Within m n w) × (first_round m n j count (place m w) ≡ count + 1)
unfolding place Within
largest_number m n j row_0 zero moving = (row 0, row_0, start_one m n j row_0)
largest_number m n j row_0 (suc t) moving =
    let new = some_new m n j t (moving t (omega arith)) in
    let at = wire_at m n new.0 new.1 in
    let number = first-is m n j (suc t) new.0 (suc t) (omega arith) (new_first m n j t new.0 new.2) in
    (at.0, at.1, rw at.2 (omega (arith, number)))

pub rounds_answer :
    (m n : ℕ) (j : ℕ → ℕ → Bool) (a : Lit) → 0 < m → a.count ≡ round_count m n j → a.firsts ≡ first_rounds m n j a.count
    → Answer m n j a
rounds_answer m n j a h counts firsts =
    let count = a.count in
    let rest : at_rest m n j count ≡ true = rw counts (count_settled m n j h) in
    let at_most : count ≤ m + n - 1 = rw counts (count_at_most m n j) in
    let least : (t : ℕ) → t < count → at_rest m n j t ≡ false = rw counts (count_least m n j) in
    let entry : (w : ℕ) → get_or a.firsts w 0 ≡ first_round m n j count w =
    λ w. ap (λ (l : List ℕ). get_or l w 0) firsts ∙ firsts_entry m n j count w in
    let last = largest_number m n j h count least in
    record {
      rests = rest;
      least = least;
      at_most = at_most;
      size = rw firsts (length_firsts m n j count);
      dark = λ i. rw (entry i) (number_dark m n j h count rest i);
      first = λ i t. rw (entry i) (number_first m n j h count rest i t);
      row_0 = entry 0 ∙ first-is m n j count 0 0 (omega arith) (start_first m n j h);
      chains = λ w k. rw (entry (place m w)) (number_chain m n j h count rest w k);
      shortest = λ w t k. rw (entry (place m w)) (number_cells m n j h count rest w t k);
      most = λ i. rw (entry i) (omega (arith, first_most m n j count i, at_most));
      none_larger = λ i. rw (entry i) (first_most m n j count i);
      largest = (last.0, last.1, entry (place m last.0) ∙ last.2);
    }

-- what is done after light's checks meets none of the first three
none_met :
    (b c d e : Bool) (rest : Outcome Lit) (a : Lit)
    → unless (lowest ((12 when b) ∷ (13 when c) ∷ (14 when d) ∷ (15 when e) ∷ [])) 0 rest ≡ done a
    → (b ≡ false) × (c ≡ false) × (d ≡ false) × (rest ≡ done a)
none_met b c d e rest a h =
    let after-14 : List Ground = (15 when e) ∷ [] in
    let after-13 : List Ground = (14 when d) ∷ after-14 in
    let after-12 : List Ground = (13 when c) ∷ after-13 in
    let end = unless_done (lowest ((12 when b) ∷ after-12)) 0 rest a h in
    let none-12 = others 11 b after-12 end.0 in
    (not_met 11 b after-12 end.0, not_met 12 c after-13 none-12, not_met 13 d after-14 (others 12 c after-13 none-12), end.1)

-- the rounds of a sound record
pub lit_by_answer :
    (x : Crossbar) (cells setting : List ℕ) → sound x cells ≡ true
    → Answer x.rows x.columns (joined x cells setting) (lit_by x cells setting)
unfolding lit_by
lit_by_answer x cells setting h =
    rounds_answer
    x.rows
    x.columns
    (joined x cells setting)
    (lit_by x cells setting)
    (sound_row x cells h)
    refl
    refl

module _ (x : Crossbar) (cells setting : List ℕ) (room : ℕ) where
  pub light_answers : (a : Lit) → light x cells setting room ≡ done a → Lights x cells setting room a
  unfolding light
  light_answers a h =
      let checked =
      none_met
      (not (sound x cells))
      (not (is_setting x.switches setting))
      (ltb room (x.rows + x.columns))
      (not (at_rest x.rows x.columns (joined x cells setting) (x.rows + x.columns - 1)))
      (done (lit_by x cells setting))
      a
      h in
      let is_sound = not-false (sound x cells) checked.0 in
      let answered = checked.3 in
      let e : lit_by x cells setting ≡ a = cc in
      record {
        record_sound = is_sound;
        setting_fits = not-false (is_setting x.switches setting) checked.1;
        wires_fit = ltb-false room (x.rows + x.columns) checked.2;
        answer = rw e at (lit_by_answer x cells setting is_sound);
      }

  -- light refuses on no other ground
  pub light_accepts :
      sound x cells ≡ true → is_setting x.switches setting ≡ true → x.rows + x.columns ≤ room
      → light x cells setting room ≡ done (lit_by x cells setting)
  unfolding light lowest unless
  light_accepts s t r =
      rw (
        s,
        t,
        le-ltb room (x.rows + x.columns) r,
        settles x.rows x.columns (joined x cells setting) (sound_row x cells s),
      )

-- how light ends
pub lit_ends :
    (x : Crossbar) (cells setting : List ℕ) (room : ℕ)
    → EndsWithin (λ (a : Lit). a.count ≤ max_rows + max_columns - 1) most_line (light x cells setting room)
unfolding light lit_by max_rows max_columns within most_number
lit_ends x cells setting room =
    unless_ends _ 0 _ refl (omega arith)
    (λ z.
    let f = sound_facts x cells (not-false (sound x cells) (not_met 11 (not (sound x cells)) _ z)) in
    let most = count_at_most x.rows x.columns (joined x cells setting) in
    ends_done (omega (arith, f.sizes.rows_most, f.sizes.columns_most)))
