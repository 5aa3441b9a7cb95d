-- What a record in range, a sound record and a setting have: the sizes within their limits, the cells, and a byte for each switch.
use Prim.Native.Nat.{ℕ, ◌*◌, ◌≤◌, ◌<◌}
use mathlib.Core.Path.{◌≡◌, ◌∙◌}
use mathlib.Core.Bool.{Bool, true, false, ◌&&◌}
use Rattle.std.proofs.lemmas.Bool.{and_parts}
use Rattle.std.proofs.Math.Bool.{and_assoc}
use mathlib.Core.List.{List}
use native.Mathlib.Nat.{mul-le-mul}
use lib.ListN.{length, take, drop}
use lib.Dec.{eqb, leb, ltb}
use borrow.Author.Tests.{le-leb, lt-leb, leb-true, eqb-true}
use Rattle.common.specs.Limits.{max_rows, max_columns, max_switches, max_outputs}
use Rattle.common.specs.Lists.{all_of}
use Rattle.common.proofs.Lists.{and_left}
use Rattle.cells.specs.declared.Crossbar.{Crossbar}
use Rattle.cells.specs.Record.{codes_low, in_range, Whole, size, cells_fit, outs_fit, sound}
use Rattle.cells.specs.Setting.{is_setting}

-- sizes in range, as plain facts
pub record SizesInRange (r c v k : ℕ) : Type 0 where
  pub rows_least : 1 ≤ r
  pub rows_most : r ≤ max_rows
  pub columns_most : c ≤ max_columns
  pub switches_most : v ≤ max_switches
  pub outputs_least : 1 ≤ k
  pub outputs_most : k ≤ max_outputs
  pub cells_most : r * c ≤ max_rows * max_columns

-- six tests that hold together
six :
    (a b c d e f : Bool)
    → a && b && c && d && e && f ≡ true
    → (a ≡ true) × (b ≡ true) × (c ≡ true) × (d ≡ true) × (e ≡ true) × (f ≡ true)
six a b c d e f h =
    let h₅ = and_parts (a && b && c && d && e) f h in
    let h₄ = and_parts (a && b && c && d) e h₅.0 in
    let h₃ = and_parts (a && b && c) d h₄.0 in
    let h₂ = and_parts (a && b) c h₃.0 in
    let h₁ = and_parts a b h₂.0 in
    (h₁.0, h₁.1, h₂.1, h₃.1, h₄.1, h₅.1)

pub in_range_lem : (r c v k : ℕ) → in_range r c v k ≡ true → SizesInRange r c v k
unfolding in_range
in_range_lem r c v k h =
    let t = six (leb 1 r) (leb r max_rows) (leb c max_columns) (leb v max_switches) (leb 1 k) (leb k max_outputs) h in
    let rows = leb-true r max_rows t.1 in
    let columns = leb-true c max_columns t.2 in
    record {
      rows_least = leb-true 1 r t.0;
      rows_most = rows;
      columns_most = columns;
      switches_most = leb-true v max_switches t.3;
      outputs_least = leb-true 1 k t.4;
      outputs_most = leb-true k max_outputs t.5;
      cells_most = mul-le-mul rows columns;
    }

-- ground 12 on a record, by its parts
regroup : (a b c d e f : Bool) → a && b && c && d && e && f ≡ a && (b && c && d && (e && f))
regroup a b c d e f = simp and_assoc

pub sound_parts :
    (x : Crossbar) (cells : List ℕ)
    → sound x cells ≡ in_range x.rows x.columns x.switches x.outputs && (cells_fit x cells && outs_fit x)
unfolding sound cells_fit outs_fit
sound_parts x cells =
    regroup (in_range x.rows x.columns x.switches x.outputs) (leb (size x) (length cells)) (all_of (λ b. eqb b 0) (drop (size x) cells))
    (codes_low x.switches (take (size x) cells)) (all_of (λ r. ltb r x.rows) (take x.outputs x.outs))
    (all_of (λ r. eqb r 0) (drop x.outputs x.outs))

pub sound_none : (x : Crossbar) (cells : List ℕ) → in_range x.rows x.columns x.switches x.outputs ≡ false → sound x cells ≡ false
sound_none x cells h = sound_parts x cells ∙ rw h

pub sound_some :
    (x : Crossbar) (cells : List ℕ) → in_range x.rows x.columns x.switches x.outputs ≡ true → sound x cells ≡ cells_fit x cells && outs_fit x
sound_some x cells h = sound_parts x cells ∙ rw h

-- the part on the cells, where they are split at their number; and where there are too few
pub cells_fit_split :
    (x : Crossbar) (cells codes past : List ℕ) → size x ≤ length cells → codes ≡ take (size x) cells → past ≡ drop (size x) cells
    → cells_fit x cells ≡ all_of (λ b. eqb b 0) past && codes_low x.switches codes
unfolding cells_fit
cells_fit_split x cells codes past h e f = rw (e, f, le-leb (size x) (length cells) h)

pub cells_fit_short : (x : Crossbar) (cells : List ℕ) → length cells < size x → cells_fit x cells ≡ false
unfolding cells_fit
cells_fit_short x cells h = rw (lt-leb (size x) (length cells) h)

-- the six tests of ground 12 on a record, and their outcomes
pub sound_by :
    (x : Crossbar) (cells : List ℕ) (a b c d e f : Bool)
    → in_range x.rows x.columns x.switches x.outputs ≡ a
    → leb (x.rows * x.columns) (length cells) ≡ b
    → all_of (λ k. eqb k 0) (drop (x.rows * x.columns) cells) ≡ c
    → codes_low x.switches (take (x.rows * x.columns) cells) ≡ d
    → all_of (λ o. ltb o x.rows) (take x.outputs x.outs) ≡ e
    → all_of (λ o. eqb o 0) (drop x.outputs x.outs) ≡ f
    → sound x cells ≡ a && b && c && d && e && f
unfolding sound size
sound_by x cells a b c d e f ea eb ec ed ee ef = rw (sound, ea, eb, ec, ed, ee, ef)

-- a sound crossbar, as plain facts
pub record Sound (x : Crossbar) (cells : List ℕ) : Type 0 where
  pub range : in_range x.rows x.columns x.switches x.outputs ≡ true
  pub sizes : SizesInRange x.rows x.columns x.switches x.outputs
  pub enough : size x ≤ length cells
  pub past : all_of (λ b. eqb b 0) (drop (size x) cells) ≡ true
  pub codes_low_lem : codes_low x.switches (take (size x) cells) ≡ true
  pub rows_low : all_of (λ r. ltb r x.rows) (take x.outputs x.outs) ≡ true
  pub unused : all_of (λ r. eqb r 0) (drop x.outputs x.outs) ≡ true

pub sound_facts : (x : Crossbar) (cells : List ℕ) → sound x cells ≡ true → Sound x cells
unfolding sound
sound_facts x cells h =
    let t =
    six (in_range x.rows x.columns x.switches x.outputs) (leb (size x) (length cells))
    (all_of (λ b. eqb b 0) (drop (size x) cells)) (codes_low x.switches (take (size x) cells))
    (all_of (λ r. ltb r x.rows) (take x.outputs x.outs)) (all_of (λ r. eqb r 0) (drop x.outputs x.outs)) h in
    record {
      range = t.0;
      sizes = in_range_lem x.rows x.columns x.switches x.outputs t.0;
      enough = leb-true (size x) (length cells) t.1;
      past = t.2;
      codes_low_lem = t.3;
      rows_low = t.4;
      unused = t.5;
    }

-- a setting has a byte for each switch
pub setting_length : (v : ℕ) (s : List ℕ) → is_setting v s ≡ true → length s ≡ v
unfolding is_setting
setting_length v s h = eqb-true (length s) v (and_left (eqb (length s) v) (all_of (λ b. leb b 1) s) h)

-- a crossbar has at most 128 · 128 cells
abbrev pub CellsMost : Whole → Type 0
CellsMost w = size w.head ≤ max_rows * max_columns
