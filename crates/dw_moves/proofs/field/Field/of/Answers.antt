use Rattle.std.proofs.Common.{subst}
use Rattle.dw_moves.specs.inner.Glance.{AreSets}
use Rattle.dw_moves.specs.Replies.{with_turn}
use Rattle.dw_moves.proofs.GroundLemmas.{enemies_few}
use Rattle.dw_moves.proofs.field.Field.of.Goals as goal

pub returns-clause-few : goal.returns-clause-few
returns-clause-few g c =
    let f = c.with_turn.result in
    enemies_few g.B.Board.geometry g.met.B.Board.numbers c.args.position.now f.men f.kings f.enemies f.occupied
    c.turn.ensures.position
    (subst (λ side. AreSets g.B.Board.geometry (with_turn c.args.position.now side) f.men f.kings f.enemies f.occupied)
    c.turn.ensures.value c.with_turn.ensures)
