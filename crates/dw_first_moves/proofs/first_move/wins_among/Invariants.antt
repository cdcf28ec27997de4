use Rattle.std.proofs.Common.{◌≡◌, map, take}
use Rattle.dw_first_moves.specs.FirstMovesText.{wins_among}
use Rattle.dw_first_moves.specs.Telling.{told_by}
use Rattle.dw_first_moves.proofs.first_move.wins_among.Given as goal

abbrev pub invariant-moves : goal.invariant-moves
invariant-moves g l = l.wins ≡ wins_among (map told_by (take l.one-index l.moves))
