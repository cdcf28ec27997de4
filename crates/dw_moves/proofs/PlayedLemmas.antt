-- The steps of playing a move come to what the move leaves.
use Rattle.std.proofs.Common.{◌≡◌, ◌∙◌, ap}
use Rattle.dw_board.specs.declared.piece.Side.{Side}
use Rattle.dw_board.specs.Geometry.{Geometry}
use Rattle.dw_board.specs.Placement.{Placement, carried}
use Rattle.dw_moves.specs.Moves.{Move, play}
use Rattle.dw_board.specs.Placement.{other}

pub played : (g : Geometry) (p : Placement) (n m : Move) → n ≡ m → (moved : Placement)
    → moved ≡ carried g p n.from n.to n.taken
    → (side : Side) → side ≡ other p.turn → (final : Placement) → final ≡ record { cells = moved.cells; turn = side }
    → final ≡ play g p m
played g p n m same moved moved_is side side_is final final_is =
    final_is ∙ ((λ i. record { cells = (moved_is i).cells; turn = side_is i }) ∙ ap (play g p) same)
