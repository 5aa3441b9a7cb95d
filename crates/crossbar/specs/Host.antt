-- The five calls of the host library. Document 01, "The services": "The same calls are offered to the buyer's host program, written in
-- C, on numbers and byte slices." Each answers one number: the refusal's number times 2 to the 56th, plus the line; or, where nothing is
-- refused, the call's value. Parts.antt says that these are read back from it.
use Rattle.std.specs.Prelude.{ℕ, ◌+◌, ◌*◌, ◌/◌, ◌^◌, ◌≡◌, not, List, [], ◌∷◌, length, ltb, Result, Ok, Err}
use Rattle.common.specs.declared.Refusal.{Refusal}
use Rattle.common.specs.Fault.{number_of_fault}
use Rattle.common.specs.Outcome.{Outcome, done, refused, ◌then◌, ◌when◌, lowest, unless, Answered}
use Rattle.cells.specs.Record.{Whole, size}
use Rattle.jobs.specs.Job.{walk}
use Rattle.placement.specs.Map.{map_job}
use Rattle.conduction.specs.Light.{Lit, light}
use Rattle.listings.specs.Listing.{print}
use Rattle.listings.specs.Loading.{load}
use Rattle.crossbar.specs.Bytes.{record_length, pairs, record_bytes, record_from, holds_record}

-- what the number of a refusal counts for in an answer: the highest of its 8 bytes counts these
abbrev pub number_unit : ℕ
number_unit = 2 ^ 56

-- one number for an outcome, by the value of what is done
unfoldable pub packed : {A : Type 0} → (A → ℕ) → Outcome A → ℕ
packed value (done a) = value a
packed value (refused k n) = k * number_unit + n

-- the same number from what a call hands over
unfoldable pub packed_from : Result ℕ Refusal → ℕ
packed_from (Ok value) = value
packed_from (Err r) = number_of_fault r.fault * number_unit + r.line

-- a crossbar for two buffers: ground 14 also where the record's is shorter than a record, line 0
unfoldable pub for_record : ℕ → Outcome Whole → Outcome Whole
for_record room o = o then λ w. unless (lowest ((14 when ltb room record_length) ∷ [])) 0 (done w)

-- a crossbar's value: R-as-C
unfoldable pub cells_due : Whole → ℕ
cells_due w = size w.head

-- what is handed over for a crossbar: the answer, and every byte of the record's buffer and of the cells' buffer, of n and m bytes
pub record Delivered (o : Outcome Whole) (n m r : ℕ) (head cells : List ℕ) : Type 0 where
  pub to_record : Answered o (packed cells_due) (λ w. record_bytes w.head) n r head
  pub to_cells : Answered o (packed cells_due) (λ w. w.codes) m r cells

-- map: job text, and the lengths of the two buffers
unfoldable pub host_map : List ℕ → ℕ → ℕ → Outcome Whole
host_map text record_room cells_room = for_record record_room (map_job text cells_room)

-- load: listing text, and the lengths of the two buffers
unfoldable pub host_load : List ℕ → ℕ → ℕ → Outcome Whole
host_load text record_room cells_room = for_record record_room (load text cells_room)

-- ground 12 on a record that is handed over as bytes: also where they are fewer than a record has or one past it is not 0, line 0
unfoldable pub of_record : {A : Type 0} → List ℕ → Outcome A → Outcome A
of_record s rest = unless (lowest ((12 when not (holds_record s)) ∷ [])) 0 rest

-- light: the record's bytes, cells, setting, and the length of the buffer, which holds a number in every two bytes
unfoldable pub host_light : List ℕ → List ℕ → List ℕ → ℕ → Outcome Lit
host_light s cells setting room = of_record s (light (record_from s) cells setting (room / 2))

-- print: the record's bytes, cells, and the length of the buffer
unfoldable pub host_print : List ℕ → List ℕ → ℕ → Outcome (List ℕ)
host_print s cells room = of_record s (print (record_from s) cells room)

-- What the five calls promise, for what is handed over to them: r is the answer, and the lists at the end are the buffers after the call
abbrev pub MapCall : (text head cells : List ℕ) (r : ℕ) (head-after cells-after : List ℕ) → Type 0
MapCall text head cells r head-after cells-after =
    Delivered (host_map text (length head) (length cells)) (length head) (length cells) r head-after cells-after

abbrev pub WalkCall : (text setting : List ℕ) (output r : ℕ) → Type 0
WalkCall text setting output r = r ≡ packed (λ v. v) (walk text setting output)

-- document 02, Req 01: "a 16-bit number (for the host two bytes, low first)"
abbrev pub LightCall : (head cells setting firsts : List ℕ) (r : ℕ) (firsts_after : List ℕ) → Type 0
LightCall head cells setting firsts r firsts_after =
    Answered (host_light head cells setting (length firsts)) (packed (λ a. a.count)) (λ a. pairs a.firsts) (length firsts) r firsts_after

abbrev pub PrintCall : (head cells text : List ℕ) (r : ℕ) (text-after : List ℕ) → Type 0
PrintCall head cells text r text-after =
    Answered (host_print head cells (length text)) (packed length) (λ s. s) (length text) r text-after

abbrev pub LoadCall : (text head cells : List ℕ) (r : ℕ) (head-after cells-after : List ℕ) → Type 0
LoadCall text head cells r head-after cells-after =
    Delivered (host_load text (length head) (length cells)) (length head) (length cells) r head-after cells-after
