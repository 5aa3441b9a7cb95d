-- Demand 3, "a single claim from job text to readings": document 01, "What an output reads", which the quotes below are from. For every
-- text that is accepted, as a diagram d: map gives a crossbar for it, and for all of its outputs and all settings of its switches
--   an output reads 1 exactly when its walk ends at one;
--   two outputs read the same under every setting exactly when they stand on one row;
--   light and walk, unless they refuse, answer that reading.
-- The proof is `demand_3` in proofs/Demand3.antt: (text : List ℕ) (d : Diagram) → accepted text ≡ done d → Demand3 text d.
use Rattle.std.specs.Prelude.{ℕ, ◌+◌, ◌≤◌, ◌<◌, ◌≡◌, ◌↔◌, true, List, length, get_or}
use Rattle.common.specs.Lists.{padded}
use Rattle.common.specs.Outcome.{done}
use Rattle.cells.specs.Record.{Whole, size}
use Rattle.cells.specs.Setting.{is_setting}
use Rattle.diagram.specs.Diagram.{Diagram}
use Rattle.diagram.specs.Walk.{walk_end}
use Rattle.jobs.specs.Job.{walk}
use Rattle.placement.specs.Placement.{cells, crossbar, out_row}
use Rattle.placement.specs.Map.{map_job}
use Rattle.conduction.specs.Chain.{Chain, row}
use Rattle.conduction.specs.Light.{Lit, light, joined}

-- the row of an output. "What an output reads": "the record holds that row at J"
abbrev pub stands_on : Whole → ℕ → ℕ
stands_on w j = get_or w.head.outs j 0

-- "What an output reads": "Under a setting the output reads 1 when such a chain joins row 0 to its row, and 0 otherwise."
abbrev pub Reads : Whole → List ℕ → ℕ → Type 0
Reads w setting j = Chain w.head.rows w.head.columns (joined w.head w.codes setting) (row (stands_on w j))

-- "What an output reads": "Its walk starts at the id named, follows the job's node lines, and ends at one when it comes to terminal 1."
abbrev pub WalksToOne : Diagram → List ℕ → ℕ → Type 0
WalksToOne d setting j = walk_end d setting (get_or d.outs j 0) ≡ 1

-- a value tells whether a statement holds: it is 1 exactly when the statement holds, and 0 exactly when it does not
abbrev pub Tells : ℕ → Type 0 → Type 0
Tells b P = ((b ≡ 1) ↔ P) × ((b ≡ 0) ↔ (P → ⊥))

-- a number shows whether a statement holds: it is not 0 exactly when the statement holds, and 0 exactly when it does not. Document 02, Req
-- 01: "An output reads 1 exactly when its number is not 0."
abbrev pub Shows : ℕ → Type 0 → Type 0
Shows n P = ((n ≡ 0 → ⊥) ↔ P) × ((n ≡ 0) ↔ (P → ⊥))

-- d is what the accepted text says
pub record Demand3 (text : List ℕ) (d : Diagram) : Type 0 where
  -- "Its crossbar is the cells and record that map gives for it into a buffer long enough."
  pub whole : Whole
  pub placed : whole ≡ record { head = crossbar d; codes = cells d }
  pub maps : (room : ℕ) → size whole.head ≤ room → map_job text room ≡ done whole
  -- the record has the job's switches and outputs, and "An output stands on the row of the id that its line names, or for id 0 on the
  -- last row without cells"
  pub switches : whole.head.switches ≡ d.switches
  pub outputs : whole.head.outputs ≡ length d.outs
  pub stands : (j : ℕ) → j < length d.outs → stands_on whole j ≡ out_row d (get_or d.outs j 0)
  -- an output reads 1 exactly when its walk ends at one
  pub reading :
      (setting : List ℕ) (j : ℕ)
      → is_setting d.switches setting ≡ true
      → j < length d.outs
      → Reads whole setting j ↔ WalksToOne d setting j
  -- two outputs read the same under every setting exactly when they stand on one row
  pub one_row :
      (i j : ℕ)
      → i < length d.outs
      → j < length d.outs
      → ((setting : List ℕ) → is_setting d.switches setting ≡ true → Reads whole setting i ↔ Reads whole setting j)
      ↔ (stands_on whole i ≡ stands_on whole j)
  -- light, given this crossbar, in a slice of any length that holds it with zeros past it, and a setting, answers the reading by the number
  -- of the output's row, unless it refuses
  pub shown :
      (setting : List ℕ) (length-of-slice room : ℕ) (a : Lit) (j : ℕ)
      → size whole.head ≤ length-of-slice
      → light whole.head (padded length-of-slice whole.codes) setting room ≡ done a
      → j < length d.outs
      → Shows (get_or a.firsts (stands_on whole j) 0) (Reads whole setting j)
  -- it refuses neither a setting of the job's switches nor a buffer of R + C numbers
  pub lights :
      (setting : List ℕ) (length-of-slice room : ℕ)
      → size whole.head ≤ length-of-slice
      → is_setting d.switches setting ≡ true
      → whole.head.rows + whole.head.columns ≤ room
      → (a : Lit) × (light whole.head (padded length-of-slice whole.codes) setting room ≡ done a)
  -- walk, given the job, a setting and an output number, answers the reading, unless it refuses
  pub walked : (setting : List ℕ) (j v : ℕ) → walk text setting j ≡ done v → Tells v (Reads whole setting j)
  -- it refuses neither a setting of the job's switches nor an output number below K
  pub walks :
      (setting : List ℕ) (j : ℕ)
      → is_setting d.switches setting ≡ true
      → j < length d.outs
      → (v : ℕ) × (walk text setting j ≡ done v)
