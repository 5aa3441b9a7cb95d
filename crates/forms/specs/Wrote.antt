-- A writer that writes more, by what its buffer holds and how many bytes are written.
use Rattle.std.specs.Prelude.{ℕ, ◌≡◌, List, length, Option, Some, None}
use Rattle.forms.specs.declared.write.Writer.{Writer}
use Rattle.forms.specs.Written.{Written}

-- the position past what was to be written, where it fits
unfoldable pub past : Option Unit → ℕ → Option ℕ
past (Some u) n = Some n
past None n = None

-- the bytes w were to be written by the writer s after those that it had written, and it is t now. It holds the same buffer, and they
-- stand there; or they do not fit, r is None, and the writer is full
pub record Wrote (s t : Writer) (w : List ℕ) (r : Option Unit) : Type 0 where
  pub same : t.out.ghost_name ≡ s.out.ghost_name
  pub bytes : Written s.out.now t.out.now s.written w (past r t.written)
  pub full : r ≡ None → t.written ≡ length t.out.now
