use Rattle.dw_moves.proofs.ShelterSetLemmas.{open_is}
use Rattle.dw_moves.proofs.replies.open_towards.Goals as goal

pub returns : goal.returns
returns g c =
    open_is g.B.Board.geometry g.met.B.Board.numbers c.args.pieces c.shifted.result c.minus-next.result
    c.shifted-2.result c.args.direction c.opposite.result c.requires
    c.opposite.ensures c.shifted.ensures c.minus-next.ensures c.shifted-2.ensures
