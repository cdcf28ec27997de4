use Rattle.dw_moves.proofs.ShelterSetLemmas.{exposed_is}
use Rattle.dw_moves.proofs.replies.exposed.Goals as goal

pub returns : goal.returns
returns g c =
    exposed_is g.B.Board.geometry c.args.pieces c.open_towards.result c.open_towards-2.result c.and-falling.result
    c.open_towards-3.result c.open_towards-4.result c.and-rising.result c.or.result
    c.open_towards.ensures c.open_towards-2.ensures c.and-falling.ensures c.open_towards-3.ensures
    c.open_towards-4.ensures c.and-rising.ensures c.or.ensures
