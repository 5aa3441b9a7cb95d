-- Numbers as bytes, two bytes a number, low byte first: the crossbar record, which is R, C, V, K and the 32 output rows, and the first rounds
-- (document 02, Req 01: "for the host two bytes, low first").
use Rattle.std.specs.Prelude.{ℕ, ◌+◌, ◌*◌, ◌/◌, ◌%◌, Bool, ◌&&◌, List, [], ◌∷◌, length, get_or, drop, eqb, leb}
use Rattle.common.specs.Limits.{max_outputs}
use Rattle.common.specs.Lists.{tab, all_of}
use Rattle.cells.specs.declared.Crossbar.{Crossbar}

-- how many bytes a record has
unfoldable pub record_length : ℕ
record_length = 2 * (4 + max_outputs)

-- the numbers of a record in turn
unfoldable pub numbers_of : Crossbar → List ℕ
numbers_of x = x.rows ∷ x.columns ∷ x.switches ∷ x.outputs ∷ x.outs

-- numbers below 65,536 as bytes
unfoldable pub pairs : List ℕ → List ℕ
pairs [] = []
pairs (n ∷ ns) = n % 256 ∷ n / 256 ∷ pairs ns

unfoldable pub record_bytes : Crossbar → List ℕ
record_bytes x = pairs (numbers_of x)

-- whether bytes hold a record: there are as many as a record has, and every byte past it is 0, as in a slice of cells
unfoldable pub holds_record : List ℕ → Bool
holds_record s = leb record_length (length s) && all_of (λ b. eqb b 0) (drop record_length s)

-- number i of bytes
unfoldable pub number_at : List ℕ → ℕ → ℕ
number_at s i = get_or s (2 * i) 0 + 256 * get_or s (2 * i + 1) 0

-- the record that bytes hold
unfoldable pub record_from : List ℕ → Crossbar
record_from s =
    record {
      rows = number_at s 0;
      columns = number_at s 1;
      switches = number_at s 2;
      outputs = number_at s 3;
      outs = tab max_outputs (λ j. number_at s (4 + j));
    }
