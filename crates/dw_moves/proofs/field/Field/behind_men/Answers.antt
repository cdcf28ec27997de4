use Rattle.dw_moves.specs.inner.Glance.{MenMeet}
use Rattle.dw_moves.proofs.GlanceRunLemmas.{behind_is}
use Rattle.dw_moves.proofs.field.Field.behind_men.Goals as goal

pub returns : goal.returns
returns g c =
    behind_is (MenMeet g.B.Board.geometry c.args.self.now.men c.args.self.now.enemies c.args.self.now.occupied
    c.args.direction) g.B.Board.geometry c.args.self.now.occupied c.args.direction
    c.met_by_men-met.result c.shifted.result c.minus.result c.met_by_men-met.ensures c.shifted.ensures c.minus.ensures
