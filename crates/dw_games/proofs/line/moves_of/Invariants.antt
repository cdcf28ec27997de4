use Rattle.std.proofs.Common.{◌≡◌, ◌++◌, ◌-◌, [], List, length}
use Rattle.dw_moves.specs.Moves.{Move}
use Rattle.dw_games.specs.Play.{beginnings_after}
use Rattle.dw_games.proofs.line.moves_of.Given as goal

abbrev pub invariant-moves : goal.invariant-moves
invariant-moves g l = (all : List Move) → l.tree.paths ≡ beginnings_after [] all
    → (rest : List Move) × (all ≡ l.moves.items ++ rest)

abbrev pub decreases-moves : goal.decreases-moves
decreases-moves g l = 39 - length l.moves.items
