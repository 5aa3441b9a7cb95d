-- `Map::print` meets its contract: the buffer holds every text, so that it is handed over whole.
use native.Mathlib.Omega.{arith}
use Rattle.common.specs.Limits.{max_rows, max_columns, max_text}
use Rattle.programs.proofs.Bounds.{map_whole}
use Rattle.programs.proofs.Texts.{said_within, said_whole}
use Rattle.map_main.proofs.MapProgram.print.Goals as goal

pub returns : goal.returns
unfolding max_text max_rows max_columns
returns c =
    let said = c.map_text.ensures in
    record {
      fits = said_within _ _ _ _ said;
      whole = said_whole _ _ _ _ (map_whole _ _ (omega arith)) said;
    }
