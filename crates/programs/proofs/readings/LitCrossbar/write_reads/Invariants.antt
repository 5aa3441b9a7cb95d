-- `programs::readings::LitCrossbar::write_reads` meets its contract: the lines of the outputs from output j on are still to be written.
use lib.ListN.{drop}
use Rattle.forms.proofs.Parts.{Going}
use Rattle.programs.specs.Programs.{reads_lines}
use Rattle.programs.proofs.readings.LitCrossbar.write_reads.Given as goal

abbrev pub invariant-loop-j : goal.invariant-loop-j
invariant-loop-j l =
    Going l.initial.writer (reads_lines l.self.firsts.now 0 l.rows) l.writer (reads_lines l.self.firsts.now l.j (drop l.j l.rows))
