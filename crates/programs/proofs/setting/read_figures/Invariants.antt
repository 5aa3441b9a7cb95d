-- `programs::setting::read_figures` meets its contract: the invariant says which figures are seen and what is left of the line.
use Rattle.programs.proofs.SetLine.{Filling}
use Rattle.programs.proofs.setting.read_figures.Given as goal

abbrev pub invariant-loop-count : goal.invariant-loop-count
invariant-loop-count l = Filling l.line l.rest l.figures l.count
