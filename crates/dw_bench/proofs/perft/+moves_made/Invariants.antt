use Rattle.std.proofs.Common.{length}
use Rattle.dw_bench.proofs.perft.+moves_made.Given as goal

abbrev pub decreases-moves_made : goal.decreases-moves_made
decreases-moves_made g l = length l.lists.now
