-- What the calls that a C program links accept: for each of them, exactly when it refuses nothing, by what it is handed, and of light also
-- exactly when it gives 14. So nothing but a ground that the documents list is refused. MapCall and the others are the contracts of the
-- calls (crates/crossbar/specs/Host.antt), and number_part is CROSSBAR_NUMBER of include/crossbar.h, which is 0 where nothing is refused.
-- The proof is `calls_accept` in proofs/Acceptance.antt: CallsAccept.
use Rattle.std.specs.Prelude.{ℕ, ◌+◌, ◌*◌, ◌≤◌, ◌<◌, ◌≡◌, ◌↔◌, true, List, length}
use Rattle.common.specs.Limits.{max_outputs}
use Rattle.cells.specs.declared.Crossbar.{Crossbar}
use Rattle.cells.specs.Record.{size, sound}
use Rattle.cells.specs.Setting.{is_setting}
use Rattle.diagram.specs.Diagram.{Diagram}
use Rattle.jobs.specs.Text.{IsAccepted}
use Rattle.placement.specs.Placement.{crossbar}
use Rattle.listings.specs.Listing.{listing}
use Rattle.crossbar.specs.Bytes.{record_length, record_from, holds_record}
use Rattle.crossbar.specs.Host.{MapCall, WalkCall, LightCall, PrintCall, LoadCall}
use Rattle.crossbar.specs.Parts.{number_part}

-- map: the text is the one text of a diagram that has the facts and the sizes of an accepted job; the buffers, of n and m bytes, hold the
-- record and the cells
pub record Mappable (text : List ℕ) (n m : ℕ) : Type 0 where
  pub diagram : Diagram
  pub job : IsAccepted text diagram
  pub record_room : record_length ≤ n
  pub cells_room : size (crossbar diagram) ≤ m

-- walk: such a text, a setting of its switches, and an output number below K
pub record Walkable (text setting : List ℕ) (j : ℕ) : Type 0 where
  pub diagram : Diagram
  pub job : IsAccepted text diagram
  pub set : is_setting diagram.switches setting ≡ true
  pub below : j < length diagram.outs

-- light: a slice that holds a record, which ground 12 does not refuse with these cells, a setting of its switches, and 2·(R + C) bytes
pub record Lightable (head cells setting : List ℕ) (room : ℕ) : Type 0 where
  pub holds : holds_record head ≡ true
  pub right : sound (record_from head) cells ≡ true
  pub set : is_setting (record_from head).switches setting ≡ true
  pub firsts_room : 2 * ((record_from head).rows + (record_from head).columns) ≤ room

-- print: such a record and cells, and bytes enough for the text
pub record Printable (head cells : List ℕ) (room : ℕ) : Type 0 where
  pub holds : holds_record head ≡ true
  pub right : sound (record_from head) cells ≡ true
  pub text_room : length (listing (record_from head) cells) ≤ room

-- load: the listing of a record and cells that ground 12 does not refuse; the buffers hold the record and the cells
pub record Loadable (text : List ℕ) (n m : ℕ) : Type 0 where
  pub head : Crossbar
  pub codes : List ℕ
  pub all_outs : length head.outs ≡ max_outputs
  pub right : sound head codes ≡ true
  pub text_is : text ≡ listing head codes
  pub record_room : record_length ≤ n
  pub cells_room : size head ≤ m

pub record CallsAccept : Type 0 where
  pub map :
      (text head₀ cells₀ : List ℕ) (answer : ℕ) (head cells : List ℕ)
      → MapCall text head₀ cells₀ answer head cells
      → (number_part answer ≡ 0) ↔ Mappable text (length head₀) (length cells₀)
  pub walk :
      (text setting : List ℕ) (j answer : ℕ)
      → WalkCall text setting j answer
      → (number_part answer ≡ 0) ↔ Walkable text setting j
  pub light :
      (head cells setting firsts₀ : List ℕ) (answer : ℕ) (firsts : List ℕ)
      → LightCall head cells setting firsts₀ answer firsts
      → (number_part answer ≡ 0) ↔ Lightable head cells setting (length firsts₀)
  -- and past grounds 12 and 13 it gives 14 exactly where the buffer has fewer than 2·(R + C) bytes
  pub light_short :
      (head cells setting firsts₀ : List ℕ) (answer : ℕ) (firsts : List ℕ)
      → LightCall head cells setting firsts₀ answer firsts
      → holds_record head ≡ true
      → sound (record_from head) cells ≡ true
      → is_setting (record_from head).switches setting ≡ true
      → (number_part answer ≡ 14) ↔ (length firsts₀ < 2 * ((record_from head).rows + (record_from head).columns))
  pub print :
      (head cells text₀ : List ℕ) (answer : ℕ) (text : List ℕ)
      → PrintCall head cells text₀ answer text
      → (number_part answer ≡ 0) ↔ Printable head cells (length text₀)
  pub load :
      (text head₀ cells₀ : List ℕ) (answer : ℕ) (head cells : List ℕ)
      → LoadCall text head₀ cells₀ answer head cells
      → (number_part answer ≡ 0) ↔ Loadable text (length head₀) (length cells₀)
