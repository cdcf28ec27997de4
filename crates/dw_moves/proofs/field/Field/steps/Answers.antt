use Rattle.dw_moves.proofs.GlanceRunLemmas.{steps_is}
use Rattle.dw_moves.proofs.field.Field.steps.Goals as goal

pub returns : goal.returns
returns g c = steps_is g.B.Board.geometry c.args.side c.args.self.now.men c.args.self.now.kings c.args.self.now.occupied
    c.args.direction c.next_free.result c.any.result c.next_free.ensures c.any.ensures
