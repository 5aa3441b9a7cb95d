-- Document 01, "Job text": "Labels T: `h` a row, `v` a column, `b` both", and the node table's "1 for `h`, 2 for `v`, 3 for `b`". What has no
-- label has 0.
use Rattle.std.specs.Prelude.{ℕ}

abbrev pub label_h : ℕ
label_h = 1

abbrev pub label_v : ℕ
label_v = 2

abbrev pub label_b : ℕ
label_b = 3
