-- Light's answer. Document 01, "The services": "crossbar and setting in; the lit wires and the rounds out." Document 02, Req 01: "Light
-- gives for each wire, in place of its byte, a 16-bit number .. : 0 if dark, otherwise 1 plus the round in which it was first lit".
use Rattle.std.specs.Prelude.{ℕ, ◌+◌, ◌-◌, Bool, not, List, [], ◌∷◌, ltb}
use Rattle.common.specs.Outcome.{Outcome, done, ◌when◌, lowest, unless}
use Rattle.cells.specs.declared.Crossbar.{Crossbar}
use Rattle.cells.specs.Conducts.{joins}
use Rattle.cells.specs.Record.{sound}
use Rattle.cells.specs.Setting.{is_setting}
use Rattle.conduction.specs.Round.{round_count, at_rest, first_rounds}

-- the count of rounds, and each wire's first round
pub record Lit : Type 0 where
  pub count : ℕ
  pub firsts : List ℕ

-- whether a cell of a record conducts under a setting
unfoldable pub joined : Crossbar → List ℕ → List ℕ → ℕ → ℕ → Bool
joined x cells setting = joins cells x.columns setting

-- the rounds of a crossbar under a setting
unfoldable pub lit_by : Crossbar → List ℕ → List ℕ → Lit
lit_by x cells setting =
    record {
      count = round_count x.rows x.columns (joined x cells setting);
      firsts =
          first_rounds x.rows x.columns (joined x cells setting) (round_count x.rows x.columns (joined x cells setting));
    }

-- In: record, cells, setting, and how many numbers the output buffer holds. "Grounds for sending a job back": "Light checks 12, 13, 14, 15", line
-- 0. Ground 15: "A further round would still add a wire after R + C − 1 rounds."
unfoldable pub light : Crossbar → List ℕ → List ℕ → ℕ → Outcome Lit
light x cells setting room =
    unless
    (lowest
    ((12 when not (sound x cells))
    ∷ (13 when not (is_setting x.switches setting))
    ∷ (14 when ltb room (x.rows + x.columns))
    ∷ (15 when not (at_rest x.rows x.columns (joined x cells setting) (x.rows + x.columns - 1)))
    ∷ []))
    0
    (done (lit_by x cells setting))
