use Rattle.dw_moves.proofs.GlanceRunLemmas.{men_meet}
use Rattle.dw_moves.proofs.field.Field.met_by_men.Goals as goal

pub returns : goal.returns
returns g c = men_meet g.B.Board.geometry c.args.self.now.men c.args.self.now.enemies c.args.self.now.occupied
    c.args.direction c.shifted.result c.and.result c.shifted.ensures c.and.ensures
