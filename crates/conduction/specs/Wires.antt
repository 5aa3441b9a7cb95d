-- The wires of one side, its rows or its columns, as the code keeps them: a list of keys in which the lit wires stand before the dark ones,
-- in the order in which they were lit. Working definitions: only contracts within this crate cite them.
use Rattle.std.specs.Prelude.{ℕ, ◌+◌, ◌-◌, ◌*◌, ◌%◌, ◌≤◌, ◌<◌, ◌≡◌, Bool, true, false, ◌&&◌, List, length, get_or, take, drop, eqb, ltb}
use Rattle.common.specs.Limits.{max_rows, max_columns, max_switches}
use Rattle.common.specs.Lists.{any_of, tab}
use Rattle.cells.specs.Code.{cell_of}
use Rattle.cells.specs.Conducts.{conducts}
use Rattle.cells.specs.Record.{codes_low}
use Rattle.conduction.specs.declared.Key.{Key}
use Rattle.conduction.specs.declared.Lamp.{Lamp}

-- what stands past the end of a list of keys
abbrev pub no_key : Key
no_key = record { place = 0; adds = 0 }

-- wire x of a side whose first wire has this place, and in which each wire adds `step` more than the one before it
abbrev pub wire_of : (first step x : ℕ) → Key
wire_of first step x = record { place = first + x; adds = x * step }

-- the wires of a side in rising order
unfoldable pub in_order : (first step size : ℕ) → List Key
in_order first step size = tab size (wire_of first step)

-- whether the cell at a place conducts, and the cell at row r and column c of n columns
unfoldable pub passes : Lamp → ℕ → Bool
passes lamp i = get_or lamp.on.now (get_or lamp.cells.now i 0) false

unfoldable pub passing : Lamp → (n r c : ℕ) → Bool
passing lamp n r c = passes lamp (r * n + c)

-- which codes conduct under a setting, of the codes of its switches
unfoldable pub on_codes : List ℕ → List Bool
on_codes setting = tab 256 (λ k. ltb k (2 + 2 * length setting) && conducts setting (cell_of k))

-- the wires of a list from a place up to another
abbrev pub part : {A : Type 0} → List A → (from to : ℕ) → List A
part l from to = take (to - from) (drop from l)

-- whether one of some wires meets a wire in a cell that conducts
unfoldable pub joined_to : Lamp → (front : List Key) → Key → Bool
joined_to lamp front w = any_of (λ k. passes lamp (k.adds + w.adds)) front

-- what each wire of a list adds is the place of a cell
abbrev pub Meeting : Lamp → List Key → Type 0
Meeting lamp keys = (k : ℕ) → k < length keys → (get_or keys k no_key).adds < length lamp.cells.now

-- a part of a list of wires that can be sorted by what conducting cells join to a wire, where none from `lit` up to `at` is joined
pub record Sortable (lamp : Lamp) (keys : List Key) (lit at end : ℕ) : Type 0 where
  pub from : lit ≤ at
  pub upto : at ≤ end
  pub within : end ≤ length keys
  pub meeting : Meeting lamp keys
  pub none : (k : ℕ) → lit ≤ k → k < at → passes lamp (get_or keys k no_key).adds ≡ false

-- dark wires that can be sorted by what conducting cells join to some wires: what one of these adds, with what a dark one adds, is the
-- place of a cell
pub record Spreadable (lamp : Lamp) (front dark : List Key) : Type 0 where
  pub meeting :
      (j k : ℕ) → j < length front → k < length dark → (get_or front j no_key).adds + (get_or dark k no_key).adds < length lamp.cells.now

-- a list after some of its entries were exchanged, none of them before a first place
pub record Exchanged (first : ℕ) (before after : List Key) : Type 0 where
  pub kept : (k : ℕ) → k < first → get_or after k no_key ≡ get_or before k no_key
  pub forth : (k : ℕ) → first ≤ k → k < length before → (j : ℕ) × (first ≤ j) × (j < length before) × (get_or after j no_key ≡ get_or before k no_key)
  pub back : (k : ℕ) → first ≤ k → k < length before → (j : ℕ) × (first ≤ j) × (j < length before) × (get_or before j no_key ≡ get_or after k no_key)

-- a part of a round: of the entries from `first` up to `past`, those that f names now stand before the others, up to `lit`
pub record Sorted (f : Key → Bool) (first : ℕ) (before after : List Key) (lit past : ℕ) : Type 0 where
  pub exchanged : Exchanged first before after
  pub from : first ≤ lit
  pub upto : lit ≤ past
  pub named : (k : ℕ) → first ≤ k → k < lit → f (get_or after k no_key) ≡ true
  pub others : (k : ℕ) → lit ≤ k → k < past → f (get_or after k no_key) ≡ false
  pub rest : (k : ℕ) → past ≤ k → get_or after k no_key ≡ get_or before k no_key

-- each wire of a list has its place among the stamps
abbrev pub InPlaces : List Key → (stamps : List ℕ) → Type 0
InPlaces keys stamps = (k : ℕ) → k < length keys → (get_or keys k no_key).place < length stamps

-- the stamps after some wires got a new one
unfoldable pub among : List Key → (place : ℕ) → Bool
among keys v = any_of (λ k. eqb k.place v) keys

pub record NewlyStamped (keys : List Key) (new : ℕ) (before after : List ℕ) : Type 0 where
  pub stamps : (v : ℕ) → get_or after v 0 ≡ elim (among keys v) [ true ↦ new | false ↦ get_or before v 0 ]

-- light passed from some wires to dark ones: those that it reached now stand first, and got a new stamp
pub record Crossed (lamp : Lamp) (front : List Key) (new : ℕ) (dark dark' : List Key) (stamps stamps' : List ℕ) (reached : ℕ) : Type 0 where
  pub sorted : Sorted (joined_to lamp front) 0 dark dark' reached (length dark)
  pub stamped : NewlyStamped (take reached dark') new stamps stamps'

-- the wires of one side: each entry is one of them, those from `dark` on are dark, and all that are dark stand there
pub record Sided (first step : ℕ) (keys : List Key) (stamps : List ℕ) (dark : ℕ) : Type 0 where
  pub within : dark ≤ length keys
  pub each : (k : ℕ) → k < length keys → (x : ℕ) × (x < length keys) × (get_or keys k no_key ≡ wire_of first step x)
  pub darks : (k : ℕ) → dark ≤ k → k < length keys → get_or stamps (get_or keys k no_key).place 0 ≡ 0
  pub all :
      (x : ℕ) → x < length keys → get_or stamps (first + x) 0 ≡ 0
      → (k : ℕ) × (dark ≤ k) × (k < length keys) × (get_or keys k no_key ≡ wire_of first step x)

-- the wires from head up to tail are those with the last stamp
pub record Fronted (first step : ℕ) (keys : List Key) (stamps : List ℕ) (last head tail : ℕ) : Type 0 where
  pub order : head ≤ tail
  pub within : tail ≤ length keys
  pub stamped : (k : ℕ) → head ≤ k → k < tail → get_or stamps (get_or keys k no_key).place 0 ≡ last
  pub all :
      (x : ℕ) → x < length keys → get_or stamps (first + x) 0 ≡ last
      → (k : ℕ) × (head ≤ k) × (k < tail) × (get_or keys k no_key ≡ wire_of first step x)

-- before a round from one side to the other: only wires of the first side have the last stamp
pub record TurnReady (first step first' step' : ℕ) (from to : List Key) (stamps : List ℕ) (last head tail dark : ℕ) : Type 0 where
  pub front : Fronted first step from stamps last head tail
  pub lit : Sided first step from stamps tail
  pub others : Sided first' step' to stamps dark
  pub apart : (y : ℕ) → y < length to → get_or stamps (first' + y) 0 ≡ last → ⊥

-- before round t + 1: light passes from rows to columns where t is even, and back where it is odd
pub record Standing (rows columns : List Key) (stamps : List ℕ) (t head tail dark : ℕ) : Type 0 where
  pub most : (v : ℕ) → get_or stamps v 0 ≤ t + 1
  pub even : t % 2 ≡ 0 → TurnReady 0 (length columns) (length rows) 1 rows columns stamps (t + 1) head tail dark
  pub odd : (t % 2 ≡ 0 → ⊥) → TurnReady (length rows) 1 0 (length columns) columns rows stamps (t + 1) head tail dark

-- there are cells for m rows and n columns and places for their stamps, and there are not more wires than the limits
pub record Fits (lamp : Lamp) (m n : ℕ) (stamps : List ℕ) : Type 0 where
  pub row_0 : 0 < m
  pub cells_fit : m * n ≤ length lamp.cells.now
  pub wires_fit : m + n ≤ length stamps
  pub rows_fit : m ≤ max_rows
  pub columns_fit : n ≤ max_columns

-- what light has checked before the rounds: the sizes, the cells' codes, the setting, and the room for the first rounds
pub record LampReady (cells setting : List ℕ) (m n : ℕ) (firsts : List ℕ) : Type 0 where
  pub row_0 : 0 < m
  pub rows_fit : m ≤ max_rows
  pub columns_fit : n ≤ max_columns
  pub cells_fit : m * n ≤ length cells
  pub codes_fit : codes_low (length setting) (take (m * n) cells) ≡ true
  pub switches_fit : length setting ≤ max_switches
  pub wires_fit : m + n ≤ length firsts
