use Rattle.std.proofs.Common.{◌≡◌, take}
use Rattle.dw_solve.specs.Ranking.{moves_of}
use Rattle.dw_solve.proofs.ply.rank_all.Given as goal

abbrev pub invariant-moves : goal.invariant-moves
invariant-moves g l = moves_of l.ranked.items ≡ take l.mv-index l.legal
