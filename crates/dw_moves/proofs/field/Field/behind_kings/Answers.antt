use Rattle.dw_moves.proofs.GlanceRunLemmas.{kings_take_behind}
use Rattle.dw_moves.proofs.field.Field.behind_kings.Goals as goal

pub returns : goal.returns
returns g c =
    kings_take_behind g.B.Board.geometry g.met.B.Board.numbers c.args.self.now.kings c.args.self.now.enemies
    c.args.self.now.occupied c.args.direction c.slid_near-reached.result c.shifted.result c.and-met.result
    c.shifted-2.result c.minus.result
    c.slid_near-reached.ensures.reached c.slid_near-reached.ensures.on_board c.shifted.ensures c.and-met.ensures
    c.shifted-2.ensures c.minus.ensures
