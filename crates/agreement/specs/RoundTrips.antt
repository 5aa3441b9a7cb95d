-- Demand 2 of print and load, of the calls that a C program links, over the bytes of their buffers: print then load gives that crossbar,
-- and load then print gives that text, where neither refuses. PrintCall, LoadCall, LightCall and MapCall are the contracts of the calls
-- (crates/crossbar/specs/Host.antt), and number_part and low_part are CROSSBAR_NUMBER and CROSSBAR_VALUE of include/crossbar.h. A text that
-- print left in a buffer is handed to load as its first bytes, as many as print's value says.
-- The proof is `round_trips` in proofs/RoundTrips.antt: RoundTrips.
use Rattle.std.specs.Prelude.{ℕ, ◌/◌, ◌≤◌, ◌≡◌, true, List, length, take, ltb}
use Rattle.common.specs.Lists.{padded, all_of}
use Rattle.common.specs.Outcome.{done, Answered}
use Rattle.cells.specs.Record.{Whole, size}
use Rattle.conduction.specs.Light.{light}
use Rattle.listings.specs.Loading.{load}
use Rattle.crossbar.specs.Bytes.{pairs, record_length, record_from}
use Rattle.crossbar.specs.Host.{packed, MapCall, LightCall, PrintCall, LoadCall}
use Rattle.crossbar.specs.Parts.{number_part, low_part}
use Rattle.agreement.specs.Calls.{Holds}

-- each entry of a slice is a byte
unfoldable pub AreBytes : List ℕ → Type 0
AreBytes s = all_of (λ b. ltb b 256) s ≡ true

-- load's answer, and what it left in buffers of n and m bytes, where the crossbar is the one of a record's slice and a cells' slice
pub record Again (head cells : List ℕ) (n m answer : ℕ) (head₁ cells₁ : List ℕ) : Type 0 where
  pub none_refused : number_part answer ≡ 0
  pub value : low_part answer ≡ size (record_from head)
  pub same_record : head₁ ≡ padded n (take record_length head)
  pub same-cells : cells₁ ≡ padded m (take (size (record_from head)) cells)
  -- so light may be given them in place of the slices, as Calls.antt says
  pub held : Holds head cells head₁ cells₁
  -- byte for byte the same where the buffers are as long as the slices
  pub whole_record : n ≡ length head → head₁ ≡ head
  pub whole_cells : m ≡ length cells → cells₁ ≡ cells

pub record RoundTrips : Type 0 where
  -- print, and then load into buffers that are long enough: the same crossbar
  pub print-load :
      (head cells text₀ : List ℕ) (printed : ℕ) (text head₀ cells₀ : List ℕ) (loaded : ℕ) (head₁ cells₁ : List ℕ)
      → AreBytes head
      → PrintCall head cells text₀ printed text
      → number_part printed ≡ 0
      → LoadCall (take (low_part printed) text) head₀ cells₀ loaded head₁ cells₁
      → record_length ≤ length head₀
      → size (record_from head) ≤ length cells₀
      → Again head cells (length head₀) (length cells₀) loaded head₁ cells₁
  -- load, and then print into a buffer that holds the text: the same text
  pub load-print :
      (text head₀ cells₀ : List ℕ) (loaded : ℕ) (head cells text₀ : List ℕ) (printed : ℕ) (text₁ : List ℕ)
      → LoadCall text head₀ cells₀ loaded head cells
      → number_part loaded ≡ 0
      → PrintCall head cells text₀ printed text₁
      → length text ≤ length text₀
      → (number_part printed ≡ 0) × (low_part printed ≡ length text) × (text₁ ≡ padded (length text₀) text)
  -- load, and then light: it answers as it does for the listing's crossbar
  pub load-light :
      (text head₀ cells₀ : List ℕ) (loaded : ℕ) (head cells setting firsts₀ : List ℕ) (lit : ℕ) (firsts : List ℕ)
      → LoadCall text head₀ cells₀ loaded head cells
      → number_part loaded ≡ 0
      → LightCall head cells setting firsts₀ lit firsts
      → (w : Whole)
      × (load text (length cells₀) ≡ done w)
      × Answered (light w.head w.codes setting (length firsts₀ / 2)) (packed (λ a. a.count)) (λ a. pairs a.firsts) (length firsts₀) lit firsts
  -- map, print, and then load into buffers as long as map's: the same answer and the same bytes
  pub map-print-load :
      (job head₀ cells₀ : List ℕ) (mapped : ℕ) (head cells text₀ : List ℕ) (printed : ℕ) (text head₂ cells₂ : List ℕ) (loaded : ℕ) (head₁ cells₁ : List ℕ)
      → MapCall job head₀ cells₀ mapped head cells
      → number_part mapped ≡ 0
      → PrintCall head cells text₀ printed text
      → number_part printed ≡ 0
      → LoadCall (take (low_part printed) text) head₂ cells₂ loaded head₁ cells₁
      → length head₂ ≡ length head₀
      → length cells₂ ≡ length cells₀
      → (loaded ≡ mapped) × (head₁ ≡ head) × (cells₁ ≡ cells)
