use Rattle.std.specs.FinSet as fin
use Rattle.dw_board.specs.Placement.{Placement}
use Rattle.dw_moves.specs.inner.Glance.{AreSets}
use Rattle.dw_moves.specs.inner.Walks.{Offers}
use Rattle.dw_moves.proofs.BeginningLemmas.{Past}
use Rattle.dw_moves.proofs.walk.walk_first.Given as goal

abbrev pub invariant-squares : goal.invariant-squares
invariant-squares g l = (p : Placement)
    → AreSets g.B.Board.geometry p l.field.men l.field.kings l.field.enemies l.field.occupied
    → Offers g.K.Keeper.holds (Past g.B.Board.geometry p l.direction l.left) l.initial.keeper l.keeper

abbrev pub decreases-squares : goal.decreases-squares
decreases-squares g l = fin.len l.left
