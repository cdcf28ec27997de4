use Rattle.dw_moves.specs.inner.Glance.{KingsTake}
use Rattle.dw_moves.proofs.GlanceRunLemmas.{in_any, somewhere}
use Rattle.dw_moves.proofs.field.Field.slide_to_take.Goals as goal

pub returns : goal.returns
returns g c =
    let takes = KingsTake g.B.Board.geometry c.args.self.now.kings c.args.self.now.enemies c.args.self.now.occupied in
    somewhere takes c.or.result c.any.result (in_any takes
    c.behind_kings.result c.behind_kings-2.result c.behind_kings-3.result c.behind_kings-4.result c.or-up.result
    c.or-down.result c.or.result
    c.behind_kings.ensures c.behind_kings-2.ensures c.behind_kings-3.ensures c.behind_kings-4.ensures c.or-up.ensures
    c.or-down.ensures c.or.ensures) c.any.ensures
