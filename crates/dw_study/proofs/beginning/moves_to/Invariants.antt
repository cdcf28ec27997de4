use Rattle.std.proofs.Common.{◌-◌, length}
use Rattle.dw_games.specs.Walk.{place_of}
use Rattle.dw_study.proofs.BeginningLemmas.{Gathered}
use Rattle.dw_study.proofs.beginning.moves_to.Given as goal

abbrev pub invariant-moves : goal.invariant-moves
invariant-moves g l = Gathered g.B.Board.geometry l.tree (place_of l.fn.node) (place_of l.at) l.moves.items

abbrev pub decreases-moves : goal.decreases-moves
decreases-moves g l = 39 - length l.moves.items
