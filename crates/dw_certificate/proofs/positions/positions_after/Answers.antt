use Rattle.std.proofs.Common.{◌∙◌, sym, subst, arith}
use Rattle.dw_moves.specs.Moves.{AreLegal}
use Rattle.dw_moves.specs.inner.MoveLemmas.{listed_is_legal}
use Rattle.dw_certificate.proofs.PositionLemmas.{after_more, after_all}
use Rattle.dw_certificate.proofs.positions.positions_after.Goals as goal

pub play-requires : goal.play-requires
play-requires g c =
    listed_is_legal g.B.Board.geometry c.args.position.now c.as_slice-mv-items.result.now c.moves.mv-index
    c.mv-item.result
    (subst (AreLegal g.B.Board.geometry c.args.position.now) (sym c.as_slice-mv-items.ensures.value)
    c.in_ok-moves.ensures) c.moves-test.true c.mv-item.is

pub moves-preserved : goal.moves-preserved
moves-preserved g c = c.in_ok-push.ensures.items ∙ after_more g.B.Board.geometry c.args.position.now
    c.as_slice-mv-items.result.now c.moves.list.items c.moves.mv-index c.mv-item.result c.play.result c.moves.invariant
    c.moves-test.true c.mv-item.is c.play.ensures

pub returns : goal.returns
returns g c = after_all g.B.Board.geometry c.args.position.now c.as_slice-mv-items.result.now c.moves.list.items
    c.moves.mv-index
    (subst (AreLegal g.B.Board.geometry c.args.position.now) (sym c.as_slice-mv-items.ensures.value)
    c.in_ok-moves.ensures) c.moves.invariant (omega (arith, c.moves-test.false))
