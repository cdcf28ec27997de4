use Rattle.std.proofs.Common.{length}
use Rattle.dw_moves.proofs.listed.+is_less.Given as goal

abbrev pub decreases-is_less : goal.decreases-is_less
decreases-is_less g l = length l.a.now
