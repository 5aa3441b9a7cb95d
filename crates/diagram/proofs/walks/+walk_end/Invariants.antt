-- `diagram::walks::walk_end` ends: the id falls at each call.
use Rattle.diagram.proofs.walks.+walk_end.Given as goal

abbrev pub decreases-walk_end : goal.decreases-walk_end
decreases-walk_end l = l.id
