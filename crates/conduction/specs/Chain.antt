-- Document 01, "What an output reads": "A chain steps from wire to wire, each step between a row and a column whose cell conducts .."
-- "It may be empty, so row 0 is always lit."
use Rattle.std.specs.Prelude.{ℕ, suc, ◌≤◌, ◌<◌, ◌+◌, ◌≡◌, Bool, true}

-- a wire: a row or a column, by its index
pub data Wire : Type 0 where
  row : ℕ → Wire
  column : ℕ → Wire

-- the chains from row 0 to a wire, of m rows and n columns
pub data Chain (m n : ℕ) (joined : ℕ → ℕ → Bool) : Wire → Type 0 where
  here : Chain m n joined (row 0)
  across : {r c : ℕ} → Chain m n joined (row r) → c < n → joined r c ≡ true → Chain m n joined (column c)
  back : {r c : ℕ} → Chain m n joined (column c) → r < m → joined r c ≡ true → Chain m n joined (row r)

-- how many cells a chain has, one for each of its steps
unfoldable pub cell_count : {m n : ℕ} {joined : ℕ → ℕ → Bool} {w : Wire} → Chain m n joined w → ℕ
cell_count here = 0
cell_count (across before c-below joins) = suc (cell_count before)
cell_count (back before r-below joins) = suc (cell_count before)

-- the least count of cells of any chain to a wire: a chain has that many, and none has fewer
pub record LeastCells (m n : ℕ) (joined : ℕ → ℕ → Bool) (w : Wire) (count : ℕ) : Type 0 where
  pub chain : Chain m n joined w
  pub has : cell_count chain ≡ count
  pub fewest : (other : Chain m n joined w) → count ≤ cell_count other

-- where a wire stands in light's answer: "rows then columns"
unfoldable pub place : ℕ → Wire → ℕ
place m (row r) = r
place m (column c) = m + c

-- a wire of m rows and n columns
unfoldable pub Within : ℕ → ℕ → Wire → Type 0
Within m n (row r) = r < m
Within m n (column c) = c < n
