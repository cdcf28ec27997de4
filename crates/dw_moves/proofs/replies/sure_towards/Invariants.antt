use Rattle.std.specs.FinSet as fin
use Rattle.dw_moves.proofs.SureStepLemmas.{IsLeft}
use Rattle.dw_moves.proofs.replies.sure_towards.Given as goal

abbrev pub invariant-goals : goal.invariant-goals
invariant-goals g l = IsLeft g.B.Board.geometry l.position l.field.men l.field.kings l.field.occupied l.fn.direction
    l.left

abbrev pub decreases-goals : goal.decreases-goals
decreases-goals g l = fin.len l.left
