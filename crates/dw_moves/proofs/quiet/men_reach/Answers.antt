use Rattle.dw_moves.proofs.GlanceSetLemmas.{occupied_are}
use Rattle.dw_moves.proofs.AddingLemmas.{reach_is, no_reach}
use Rattle.dw_moves.proofs.quiet.men_reach.Goals as goal

pub returns-then-may_go : goal.returns-then-may_go
returns-then-may_go g c =
    reach_is g.B.Board.geometry g.met.B.Board.numbers c.args.position.now c.args.direction c.turn-side.result
    c.may_go.result c.squares.result c.shifted-next.result c.occupied.result c.minus.result
    c.turn-side.ensures.value c.may_go.ensures c.if-may_go.true c.squares.ensures c.shifted-next.ensures
    (occupied_are g.B.Board.geometry c.args.position.now c.occupied.result c.occupied.ensures) c.minus.ensures

pub returns-else-may_go : goal.returns-else-may_go
returns-else-may_go g c =
    no_reach g.B.Board.geometry c.args.position.now c.args.direction c.turn-side.result c.may_go.result c.none.result
    c.turn-side.ensures.value c.may_go.ensures c.if-may_go.false c.none.ensures
