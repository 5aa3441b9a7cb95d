-- What the reader of a set line hands over.
use Rattle.std.specs.Prelude.{ℕ, ◌≡◌, ◌≤◌, List, [], length, take, Option, Some, None}
use Rattle.common.specs.Limits.{max_switches}
use Rattle.common.specs.Lists.{padded}
use Rattle.common.specs.Outcome.{done, refused}
use Rattle.figures.specs.Line.{left, ◌⏎◌}
use Rattle.programs.specs.Programs.{set_line}

-- nothing for a line that is refused, and otherwise how many figures of the line the buffer now begins with; as the law reads the line with
-- nothing after it
unfoldable pub SetIs : (l : List ℕ) (count : Option ℕ) (figures : List ℕ) → Type 0
SetIs l None figures = set_line (l ⏎ left []) ≡ refused 1 1
SetIs l (Some n) figures = (n ≤ length figures) × (set_line (l ⏎ left []) ≡ done (record { vals = take n figures; later = left [] }))

-- the same, of a buffer that has zeros past those figures
unfoldable pub SetFilled : (l : List ℕ) (count : Option ℕ) (figures : List ℕ) → Type 0
SetFilled l None figures = set_line (l ⏎ left []) ≡ refused 1 1
SetFilled l (Some n) figures =
    (n ≤ max_switches)
    × (set_line (l ⏎ left []) ≡ done (record { vals = take n figures; later = left [] }))
    × (figures ≡ padded max_switches (take n figures))
