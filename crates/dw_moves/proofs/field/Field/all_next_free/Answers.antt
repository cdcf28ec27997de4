use Rattle.dw_moves.specs.inner.Glance.{StepsOn}
use Rattle.dw_moves.proofs.GlanceRunLemmas.{in_any}
use Rattle.dw_moves.proofs.field.Field.all_next_free.Goals as goal

pub returns : goal.returns
returns g c =
    in_any (λ d t. StepsOn g.B.Board.geometry c.args.side c.args.self.now.men c.args.self.now.kings
    c.args.self.now.occupied d t)
    c.next_free.result c.next_free-2.result c.next_free-3.result c.next_free-4.result c.or-up.result c.or-down.result
    c.or.result
    c.next_free.ensures c.next_free-2.ensures c.next_free-3.ensures c.next_free-4.ensures c.or-up.ensures
    c.or-down.ensures c.or.ensures
