use Rattle.std.proofs.Common.{◌≡◌, take}
use Rattle.dw_board.specs.Lists.{Member}
use Rattle.dw_moves.specs.Order.{Listed}
use Rattle.dw_moves.proofs.listed.place_of.Given as goal

abbrev pub invariant-moves : goal.invariant-moves
invariant-moves g l = (x : Listed) → Member x (take l.place l.list) → x.step ≡ l.mv → ⊥
