use Rattle.std.proofs.Common.{◌-◌, length}
use Rattle.dw_solve.proofs.solver.prepared.Given as goal

abbrev pub decreases-plies : goal.decreases-plies
decreases-plies g l = l.needed - length l.plies.items
