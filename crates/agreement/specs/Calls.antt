-- Demand 3 of the calls that a C program links. Document 01, "What an output reads", as in Demand3.antt, of what `crossbar_map`,
-- `crossbar_light` and `crossbar_walk` answer and leave in the buffers lent to them: MapCall, LightCall and WalkCall are their contracts
-- (crates/crossbar/specs/Host.antt), and number_part and low_part are CROSSBAR_NUMBER and CROSSBAR_VALUE of include/crossbar.h.
-- Light may be given the buffers that map filled, or other slices that hold the same crossbar (Holds).
-- The statement is Demand3OfCalls, and its proof `calls_agree` in proofs/Calls.antt.
use Rattle.std.specs.Prelude.{ℕ, ◌+◌, ◌*◌, ◌≤◌, ◌<◌, ◌≡◌, ◌↔◌, true, List, length, get_or, take}
use Rattle.common.specs.Lists.{padded}
use Rattle.common.specs.Outcome.{done}
use Rattle.cells.specs.Record.{Whole, size}
use Rattle.cells.specs.Setting.{is_setting}
use Rattle.diagram.specs.Diagram.{Diagram}
use Rattle.jobs.specs.Job.{accepted}
use Rattle.placement.specs.Placement as placement
use Rattle.crossbar.specs.Bytes.{record_length, number_at, record_from}
use Rattle.crossbar.specs.Host.{MapCall, LightCall, WalkCall}
use Rattle.crossbar.specs.Parts.{number_part, low_part}
use Rattle.agreement.specs.Demand3.{Reads, WalksToOne, Tells, Shows, stands_on}

-- the crossbar that stands in a record's buffer and in a cells' buffer; bytes past its R-as-C cells are no cells of it
unfoldable pub in_buffers : List ℕ → List ℕ → Whole
in_buffers head cells = record { head = record_from head; codes = cells }

-- two slices of any length that is long enough hold the crossbar of these buffers: its record and its R-as-C cells, and zeros past them
pub record Holds (head cells head₁ cells₁ : List ℕ) : Type 0 where
  pub record_long : record_length ≤ length head₁
  pub record_held : head₁ ≡ padded (length head₁) (take record_length head)
  pub cells_long : size (record_from head) ≤ length cells₁
  pub cells_held : cells₁ ≡ padded (length cells₁) (take (size (record_from head)) cells)

-- what map left for an accepted text that says d: its crossbar, what its outputs read, and what light and walk answer
pub record BuffersAgree (text : List ℕ) (d : Diagram) (head cells : List ℕ) : Type 0 where
  -- "Its crossbar is the cells and record that map gives for it", and every byte past the cells is 0
  pub placed : record_from head ≡ placement.crossbar d
  pub cells-placed : cells ≡ padded (length cells) (placement.cells d)
  -- "An output stands on the row of the id that its line names, or for id 0 on the last row without cells"
  pub stands : (j : ℕ) → j < length d.outs → stands_on (in_buffers head cells) j ≡ placement.out_row d (get_or d.outs j 0)
  -- an output reads 1 exactly when its walk ends at one
  pub reading :
      (setting : List ℕ) (j : ℕ)
      → is_setting d.switches setting ≡ true
      → j < length d.outs
      → Reads (in_buffers head cells) setting j ↔ WalksToOne d setting j
  -- two outputs read the same under every setting exactly when they stand on one row
  pub one_row :
      (i j : ℕ)
      → i < length d.outs
      → j < length d.outs
      → ((setting : List ℕ)
      → is_setting d.switches setting ≡ true
      → Reads (in_buffers head cells) setting i ↔ Reads (in_buffers head cells) setting j)
      ↔ (stands_on (in_buffers head cells) i ≡ stands_on (in_buffers head cells) j)
  -- these two buffers hold this crossbar, and so may others, to which the host copied it or load wrote it
  pub held : Holds head cells head cells
  -- light, given slices that hold this crossbar and a setting, answers the reading by the number of the output's row, unless it refuses
  pub shown :
      (head₁ cells₁ setting firsts₀ : List ℕ) (answer : ℕ) (firsts : List ℕ) (j : ℕ)
      → Holds head cells head₁ cells₁
      → LightCall head₁ cells₁ setting firsts₀ answer firsts
      → number_part answer ≡ 0
      → j < length d.outs
      → Shows (number_at firsts (stands_on (in_buffers head cells) j)) (Reads (in_buffers head cells) setting j)
  -- it refuses neither a setting of the job's switches nor a buffer of 2·(R + C) bytes
  pub lights :
      (head₁ cells₁ setting firsts₀ : List ℕ) (answer : ℕ) (firsts : List ℕ)
      → Holds head cells head₁ cells₁
      → LightCall head₁ cells₁ setting firsts₀ answer firsts
      → is_setting d.switches setting ≡ true
      → 2 * ((record_from head).rows + (record_from head).columns) ≤ length firsts₀
      → number_part answer ≡ 0
  -- walk, given the job, a setting and an output number, answers the reading by its value, unless it refuses
  pub walked :
      (setting : List ℕ) (j answer : ℕ)
      → WalkCall text setting j answer
      → number_part answer ≡ 0
      → Tells (low_part answer) (Reads (in_buffers head cells) setting j)
  -- it refuses neither a setting of the job's switches nor an output number below K
  pub walks :
      (setting : List ℕ) (j answer : ℕ)
      → WalkCall text setting j answer
      → is_setting d.switches setting ≡ true
      → j < length d.outs
      → number_part answer ≡ 0

-- map's call on a text, with a record's buffer and a cells' buffer that were head₀ and cells₀ and now are head and cells
pub record CallsAgree (text head₀ cells₀ : List ℕ) (answer : ℕ) (head cells : List ℕ) : Type 0 where
  -- it refuses no accepted job where the buffers are long enough
  pub maps :
      (d : Diagram)
      → accepted text ≡ done d
      → record_length ≤ length head₀
      → size (placement.crossbar d) ≤ length cells₀
      → number_part answer ≡ 0
  -- where it refuses nothing, the text is an accepted job's
  pub job : number_part answer ≡ 0 → (d : Diagram) × (accepted text ≡ done d)
  -- and then what it left, light and walk agree with the job
  pub agree : (d : Diagram) → accepted text ≡ done d → number_part answer ≡ 0 → BuffersAgree text d head cells

-- for every text and every two buffers
abbrev pub Demand3OfCalls : Type 0
Demand3OfCalls =
    (text head₀ cells₀ : List ℕ) (answer : ℕ) (head cells : List ℕ)
    → MapCall text head₀ cells₀ answer head cells
    → CallsAgree text head₀ cells₀ answer head cells
