use Rattle.dw_moves.proofs.GlanceMoverLemmas.{TakesFrom, towards_within}
use Rattle.dw_moves.proofs.field.Field.may_take.Goals as goal

pub returns : goal.returns
returns g c = λ p s sets h.
    let f = c.args.self.now in
    towards_within g.met.B.Board.numbers sets
    c.kings_before_enemy.result c.before_enemy.result c.or.result c.args.direction s
    (c.kings_before_enemy.ensures s)
    (λ (k : TakesFrom g.B.Board.geometry f.men f.enemies f.occupied s c.args.direction). c.before_enemy.ensures s k.0
    k.1 k.2 k.3 k.4 k.5 k.6 k.7)
    c.or.ensures h
