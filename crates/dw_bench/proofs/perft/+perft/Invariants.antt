use Rattle.std.proofs.Common.{length}
use Rattle.dw_bench.proofs.perft.+perft.Given as goal

abbrev pub decreases-perft : goal.decreases-perft
decreases-perft g l = length l.lists.now
