-- The limits of document 01, each named here and nowhere else in a definition, and at the end one bound that follows from them.
use Rattle.std.specs.Prelude.{ℕ, ◌+◌, ◌*◌}

-- "Listing": R is 1 to 128, C is 0 to 128; ground 11
unfoldable pub max_rows : ℕ
max_rows = 128

unfoldable pub max_columns : ℕ
max_columns = 128

-- "Job text": V switches (0 to 64), N nodes (0 to 254), K outputs (1 to 32)
unfoldable pub max_switches : ℕ
max_switches = 64

unfoldable pub max_nodes : ℕ
max_nodes = 254

unfoldable pub max_outputs : ℕ
max_outputs = 32

-- "Ids 0 and 1 are the terminals", and the nodes follow
unfoldable pub max_ids : ℕ
max_ids = max_nodes + 2

-- "Two programs": input above 65,535 bytes is refused
unfoldable pub max_input : ℕ
max_input = 65535

-- no limit of document 01, but bytes that are always enough for a listing and for what a program prints: a cell's line has at most 24
-- bytes, and the other lines have fewer than 512
unfoldable pub max_text : ℕ
max_text = 24 * max_rows * max_columns + 512
