-- Demand 2 of light: what its answer says, where it does not refuse. Document 01, "Conduction" and "What an output reads": a wire is lit
-- exactly when a chain of conducting cells joins it to row 0, and the count of rounds is the least at which nothing is added. Document 02,
-- Req 01: the number of each wire. The proof is `light_answers` in proofs/Light.antt: light x cells setting room ≡ done a → Lights x cells
-- setting room a.
use Rattle.std.specs.Prelude.{ℕ, ◌+◌, ◌-◌, ◌≤◌, ◌<◌, ◌≡◌, ◌↔◌, Bool, true, false, List, length, get_or}
use Rattle.cells.specs.declared.Crossbar.{Crossbar}
use Rattle.cells.specs.Record.{sound}
use Rattle.cells.specs.Setting.{is_setting}
use Rattle.conduction.specs.Round.{lit, rounds, at_rest}
use Rattle.conduction.specs.Chain.{Wire, Chain, LeastCells, place, Within}
use Rattle.conduction.specs.Light.{Lit, joined}

-- a wire is first lit in round t: the set after t rounds has it, and no set before
pub record FirstLitIn (m n : ℕ) (j : ℕ → ℕ → Bool) (w t : ℕ) : Type 0 where
  pub lit_then : lit (rounds m n j t) w ≡ true
  pub dark_before : (s : ℕ) → s < t → lit (rounds m n j s) w ≡ false

-- an answer's count and first rounds, for m rows, n columns and the cells j that conduct
pub record Answer (m n : ℕ) (j : ℕ → ℕ → Bool) (a : Lit) : Type 0 where
  -- "Conduction": "the count of rounds is .. the least t with the sets after t and t + 1 rounds equal. It is at most R + C − 1."
  pub rests : at_rest m n j a.count ≡ true
  pub least : (t : ℕ) → t < a.count → at_rest m n j t ≡ false
  pub at_most : a.count ≤ m + n - 1
  -- Req 01: "Light gives for each wire .. a 16-bit number", rows then columns
  pub size : length a.firsts ≡ m + n
  -- "0 if dark": the set after these rounds lacks it
  pub dark : (i : ℕ) → (get_or a.firsts i 0 ≡ 0) ↔ (lit (rounds m n j a.count) i ≡ false)
  -- "otherwise 1 plus the round in which it was first lit"
  pub first : (i t : ℕ) → (get_or a.firsts i 0 ≡ 1 + t) ↔ FirstLitIn m n j i t
  -- "so row 0 gives 1"
  pub row_0 : get_or a.firsts 0 0 ≡ 1
  -- "What an output reads": a number is not 0 exactly when "such a chain joins row 0 to" the wire
  pub chains : (w : Wire) → Within m n w → (get_or a.firsts (place m w) 0 ≡ 0 → ⊥) ↔ Chain m n j w
  -- and then the number less 1 is the least count of cells of any chain to it
  pub shortest : (w : Wire) (t : ℕ) → Within m n w → (get_or a.firsts (place m w) 0 ≡ 1 + t) ↔ LeastCells m n j w t
  -- a number is at most R + C, so that it is one of 16 bits
  pub most : (i : ℕ) → get_or a.firsts i 0 ≤ m + n
  -- the largest number is the count of rounds plus 1: no wire has a larger one, and some wire has that
  pub none_larger : (i : ℕ) → get_or a.firsts i 0 ≤ a.count + 1
  pub largest : (w : Wire) × (Within m n w) × (get_or a.firsts (place m w) 0 ≡ a.count + 1)

-- light's answer for a record, cells, a setting and a buffer of `room` numbers: none of grounds 12, 13 and 14 is met, and the answer is that
-- of the cells which conduct under the setting
pub record Lights (x : Crossbar) (cells setting : List ℕ) (room : ℕ) (a : Lit) : Type 0 where
  pub record_sound : sound x cells ≡ true
  pub setting_fits : is_setting x.switches setting ≡ true
  pub wires_fit : x.rows + x.columns ≤ room
  pub answer : Answer x.rows x.columns (joined x cells setting) a
