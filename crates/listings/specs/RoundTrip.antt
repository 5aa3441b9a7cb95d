-- Demand 2 of print and load: print then load gives that crossbar, and load then print gives that text, where neither refuses. Each
-- statement comes a second time for a second call that has the room, which then refuses nothing, and a third time for a slice of cells
-- that is longer than the R-as-C cells. Below, s and s' are texts, room and room' the lengths of the output buffers. A record's outs have
-- max_outputs entries, as the struct has.
-- The proofs are in proofs/RoundTrip.antt: `load-print`, `load-printed`, `load-printed-padded`, `print-loaded`, `print-load` and
-- `print-load-padded`.
use Rattle.std.specs.Prelude.{ℕ, ◌≤◌, ◌≡◌, List, length, take}
use Rattle.common.specs.Lists.{padded}
use Rattle.common.specs.Limits.{max_outputs}
use Rattle.common.specs.Outcome.{done}
use Rattle.cells.specs.Record.{Whole, size}
use Rattle.cells.specs.declared.Crossbar.{Crossbar}
use Rattle.listings.specs.Listing.{print}
use Rattle.listings.specs.Loading.{load}

-- print then load gives that crossbar, where neither refuses
abbrev pub PrintThenLoad : Type 0
PrintThenLoad =
    (x : Crossbar) (cells : List ℕ) (room room' : ℕ) (s : List ℕ) (w : Whole)
    → length x.outs ≡ max_outputs
    → print x cells room ≡ done s
    → load s room' ≡ done w
    → (w.head ≡ x) × (w.codes ≡ take (size x) cells)

-- and load does not refuse it, where its buffer has room for the cells
abbrev pub PrintThenLoadDone : Type 0
PrintThenLoadDone =
    (x : Crossbar) (cells : List ℕ) (room room' : ℕ) (s : List ℕ)
    → length x.outs ≡ max_outputs
    → print x cells room ≡ done s
    → size x ≤ room'
    → load s room' ≡ done (record { head = x; codes = take (size x) cells })

-- and load's buffer is the slice of cells, byte for byte, where it is as long: past the R-as-C cells print takes only zeros, by ground 12
abbrev pub PrintThenLoadPadded : Type 0
PrintThenLoadPadded =
    (x : Crossbar) (cells : List ℕ) (room : ℕ) (s : List ℕ)
    → length x.outs ≡ max_outputs
    → print x cells room ≡ done s
    → (w : Whole) × (load s (length cells) ≡ done w) × (w.head ≡ x) × (padded (length cells) w.codes ≡ cells)

-- load then print gives that text, where neither refuses
abbrev pub LoadThenPrint : Type 0
LoadThenPrint =
    (s : List ℕ) (room room' : ℕ) (w : Whole) (s' : List ℕ)
    → load s room ≡ done w
    → print w.head w.codes room' ≡ done s'
    → s' ≡ s

-- and print does not refuse it, where its buffer has room for the text
abbrev pub LoadThenPrintDone : Type 0
LoadThenPrintDone =
    (s : List ℕ) (room room' : ℕ) (w : Whole)
    → load s room ≡ done w
    → length s ≤ room'
    → print w.head w.codes room' ≡ done s

-- and so of load's whole buffer of n bytes: load leaves zeros past the R-as-C cells
abbrev pub LoadThenPrintPadded : Type 0
LoadThenPrintPadded =
    (s : List ℕ) (room room' n : ℕ) (w : Whole)
    → load s room ≡ done w
    → length s ≤ room'
    → print w.head (padded n w.codes) room' ≡ done s
