-- What the second program prints of a crossbar that is lit.
use Rattle.std.specs.Prelude.{ℕ, List}
use Rattle.programs.specs.declared.readings.LitCrossbar.{LitCrossbar}
use Rattle.programs.specs.Programs.{readings}

abbrev pub readings_of : LitCrossbar → List ℕ
readings_of lit = readings lit.crossbar (record { count = lit.rounds; firsts = lit.firsts.now })
