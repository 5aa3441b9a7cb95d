-- `programs::readings::LitCrossbar::write_lines` meets its contract: the three parts of the readings, one after the other.
use Rattle.forms.proofs.Parts.{wrote_then, wrote_stop}
use Rattle.programs.specs.Programs.{readings}
use Rattle.programs.proofs.readings.LitCrossbar.write_lines.Goals as goal

pub returns-in_err-rounds_line : goal.returns-in_err-rounds_line
unfolding readings
returns-in_err-rounds_line c = rw c.from_residual.ensures (wrote_stop _ (wrote_stop _ c.in_err-rounds_line.ensures))

pub returns-in_err-write_reads : goal.returns-in_err-write_reads
unfolding readings
returns-in_err-write_reads c =
    rw c.from_residual-in_err-write_reads.ensures (wrote_stop _ (wrote_then c.in_ok-rounds_line.ensures c.in_err-write_reads.ensures))

pub returns : goal.returns
unfolding readings
returns c = wrote_then (wrote_then c.in_ok-rounds_line.ensures c.in_ok-write_reads.ensures) c.end_line.ensures
