-- Document 01, "Job text": "A setting is V bytes, each 0 or 1, switch 0 first."
use Rattle.std.specs.Prelude.{ℕ, Bool, ◌&&◌, List, length, eqb, leb}
use Rattle.common.specs.Lists.{all_of}

unfoldable pub is_setting : ℕ → List ℕ → Bool
is_setting v s = eqb (length s) v && all_of (λ b. leb b 1) s
