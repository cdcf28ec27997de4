use Rattle.std.proofs.Common.{subst}
use Rattle.dw_first_moves.specs.FirstMoves.{EffectsFrom, HaveEffects}
use Rattle.dw_first_moves.proofs.first_move.FirstMoves.as_slice.Goals as goal

pub returns-clause-right : goal.returns-clause-right
returns-clause-right g c =
    subst (λ (v : EffectsFrom). HaveEffects g.B.Board.geometry v.start v.effects) c.self.view_is c.self.invariant
