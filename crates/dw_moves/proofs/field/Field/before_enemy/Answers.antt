use Rattle.dw_moves.proofs.GlanceMoverLemmas.{taker_in}
use Rattle.dw_moves.proofs.field.Field.before_enemy.Goals as goal

pub returns : goal.returns
returns g c =
    taker_in g.B.Board.geometry g.met.B.Board.numbers c.args.self.now.men c.args.self.now.enemies
    c.args.self.now.occupied c.met_by_men.result c.shifted-behind.result c.minus.result c.shifted.result
    c.shifted-2.result c.args.direction c.opposite-back.result
    c.opposite-back.ensures c.met_by_men.ensures c.shifted-behind.ensures c.minus.ensures c.shifted.ensures
    c.shifted-2.ensures
