-- Document 01, "Job sheets": the starred ones, A to H, as one table. Each entry has what the definitions give and what the sheet
-- says; proofs/Sheets.antt shows that they are equal.
use Rattle.std.specs.Prelude.{ℕ, ◌+◌, List, [], ◌∷◌, ◌++◌, take}
use Rattle.common.specs.Limits.{max_rows, max_columns}
use Rattle.common.specs.Outcome.{Outcome, number_of, line_of, value_of}
use Rattle.figures.specs.Bytes.{bytes}
use Rattle.cells.specs.declared.Cell.TheVariants.{On, Yes, No}
use Rattle.cells.specs.Code.{code_of}
use Rattle.cells.specs.Record.{Whole}
use Rattle.conduction.specs.Light.{light}
use Rattle.placement.specs.Map.{map_job}
use Rattle.listings.specs.Loading.{load}
use Rattle.programs.specs.Programs.{map_program, light_program}

-- what a sheet gives and what it should give
pub record Sheet : Type 0 where
  pub given : List ℕ
  pub wanted : List ℕ

-- a crossbar as numbers: R, C, the codes row by row, the output rows in use
unfoldable pub numbers : Outcome Whole → List ℕ
numbers o = value_of [] (λ w. w.head.rows ∷ w.head.columns ∷ w.codes ++ take w.head.outputs w.head.outs) o

-- a refusal as numbers: its number and line
unfoldable pub refusal : Outcome Whole → List ℕ
refusal o = number_of o ∷ line_of o ∷ []

-- the count of rounds and the first rounds of a crossbar's wires under a setting
unfoldable pub lamp : List ℕ → Outcome Whole → List ℕ
lamp setting o =
    value_of [] (λ w. value_of [] (λ a. a.count ∷ a.firsts) (light w.head w.codes setting (max_rows + max_columns))) o

unfoldable pub job_a : List ℕ
job_a = bytes "(job 2 2 1)\n(one h)\n(node 2 1 (0 1) v)\n(node 3 0 (0 2) h)\n(out 0 3)\n(end)\n"

unfoldable pub listing_a : List ℕ
listing_a = bytes "(crossbar 2 1 2 1)\n(cell 0 0 (yes 1))\n(cell 1 0 (yes 0))\n(out 0 1)\n(end)\n"

unfoldable pub job_e : List ℕ
job_e = bytes "(job 2 2 1)\n(one h)\n(node 2 1 (0 1) v)\n(node 3 0 (2 1) b)\n(out 0 3)\n(end)\n"

unfoldable pub job_f : List ℕ
job_f = bytes "(job 2 2 1)\n(one h)\n(node 2 1 (0 1) v)\n(node 3 0 (2 1) h)\n(out 0 3)\n(end)\n"

unfoldable pub job_g : List ℕ
job_g = bytes "(job 0 0 2)\n(one h)\n(out 0 0)\n(out 1 1)\n(end)\n"

unfoldable pub listing_h : List ℕ
listing_h = bytes "(crossbar 3 2 0 1)\n(cell 0 0 (on))\n(cell 2 0 (on))\n(out 0 2)\n(end)\n"

unfoldable pub sheets : List Sheet
sheets =
    -- A: the first program prints the listing
    record { given = map_program job_a; wanted = listing_a }
    -- B: A under 1 1, rounds 2, reads 1
    ∷ record
    { given = light_program (bytes "(set 1 1)\n" ++ listing_a); wanted = bytes "(rounds 2)\n(reads 0 1)\n(end)\n" }
    ∷ record { given = lamp (1 ∷ 1 ∷ []) (map_job job_a 2); wanted = 2 ∷ 1 ∷ 3 ∷ 2 ∷ [] }
    -- C: under 1 0, rounds 0, reads 0
    ∷ record
    { given = light_program (bytes "(set 1 0)\n" ++ listing_a); wanted = bytes "(rounds 0)\n(reads 0 0)\n(end)\n" }
    ∷ record { given = lamp (1 ∷ 0 ∷ []) (map_job job_a 2); wanted = 0 ∷ 1 ∷ 0 ∷ 0 ∷ [] }
    -- D: under 0 1, rounds 1, reads 0
    ∷ record
    { given = light_program (bytes "(set 0 1)\n" ++ listing_a); wanted = bytes "(rounds 1)\n(reads 0 0)\n(end)\n" }
    ∷ record { given = lamp (0 ∷ 1 ∷ []) (map_job job_a 2); wanted = 1 ∷ 1 ∷ 0 ∷ 2 ∷ [] }
    -- E: R = C = 2, cells by row: yes 1, yes 0; no 0, on; the output on row 1
    ∷ record {
      given = numbers (map_job job_e 4);
      wanted = 2 ∷ 2 ∷ code_of (Yes 1) ∷ code_of (Yes 0) ∷ code_of (No 0) ∷ code_of On ∷ 1 ∷ [];
    }
    -- F: refusal 9, line 4
    ∷ record { given = refusal (map_job job_f 4); wanted = 9 ∷ 4 ∷ [] }
    -- G: R = 2, C = 0, output rows 1 and 0; rounds 0; row 0 is lit before round 1
    ∷ record { given = numbers (map_job job_g 0); wanted = 2 ∷ 0 ∷ 1 ∷ 0 ∷ [] }
    ∷ record { given = lamp [] (map_job job_g 0); wanted = 0 ∷ 1 ∷ 0 ∷ [] }
    -- H: lit r0, r2, c0; rounds 2; c0 is first lit in round 1 and r2 in round 2
    ∷ record { given = lamp [] (load listing_h 6); wanted = 2 ∷ 1 ∷ 0 ∷ 3 ∷ 2 ∷ 0 ∷ [] }
    ∷ []
