use Rattle.dw_moves.specs.inner.Glance.{MenTake}
use Rattle.dw_moves.proofs.GlanceRunLemmas.{in_any, somewhere}
use Rattle.dw_moves.proofs.field.Field.men_take.Goals as goal

pub returns : goal.returns
returns g c =
    let takes = MenTake g.B.Board.geometry c.args.self.now.men c.args.self.now.enemies c.args.self.now.occupied in
    somewhere takes c.or.result c.any.result (in_any takes
    c.behind_men.result c.behind_men-2.result c.behind_men-3.result c.behind_men-4.result c.or-up.result
    c.or-down.result c.or.result
    c.behind_men.ensures c.behind_men-2.ensures c.behind_men-3.ensures c.behind_men-4.ensures c.or-up.ensures
    c.or-down.ensures c.or.ensures) c.any.ensures
