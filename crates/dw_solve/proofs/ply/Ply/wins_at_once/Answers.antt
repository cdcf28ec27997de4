use Rattle.std.proofs.Common.{sym, subst}
use Rattle.dw_moves.specs.Moves.{AreLegal}
use Rattle.dw_moves.specs.inner.MoveLemmas.{listed_is_legal}
use Rattle.dw_solve.proofs.LastMoveLemmas.{replied_more, last_lost, last_won}
use Rattle.dw_solve.proofs.ply.Ply.wins_at_once.Goals as goal

pub play-requires : goal.play-requires
play-requires g c =
    listed_is_legal g.B.Board.geometry c.args.position.now c.as_slice-mv-items.result.now c.moves.mv-index
    c.mv-item.result
    (subst (AreLegal g.B.Board.geometry c.args.position.now) (sym c.as_slice-mv-items.ensures.value)
    c.in_ok-legal_into.ensures.all) c.moves-test.true c.mv-item.is

pub returns-then-not-has_move : goal.returns-then-not-has_move
returns-then-not-has_move g c =
    last_won g.B.Board.geometry c.args.position.now c.play.result c.mv-item.result c.has_move.result
    (listed_is_legal g.B.Board.geometry c.args.position.now c.as_slice-mv-items.result.now c.moves.mv-index
    c.mv-item.result
    (subst (AreLegal g.B.Board.geometry c.args.position.now) (sym c.as_slice-mv-items.ensures.value)
    c.in_ok-legal_into.ensures.all) c.moves-test.true c.mv-item.is)
    c.play.ensures c.has_move.ensures c.if-not-has_move.true

pub moves-preserved : goal.moves-preserved
moves-preserved g c =
    replied_more g.B.Board.geometry c.args.position.now c.play.result c.as_slice-mv-items.result.now c.moves.mv-index
    c.mv-item.result c.has_move.result c.moves.invariant c.moves-test.true c.mv-item.is
    c.play.ensures c.has_move.ensures c.if-not-has_move.false

pub returns : goal.returns
returns g c =
    last_lost g.B.Board.geometry c.args.position.now c.as_slice-mv-items.result.now c.moves.mv-index
    (subst (AreLegal g.B.Board.geometry c.args.position.now) (sym c.as_slice-mv-items.ensures.value)
    c.in_ok-legal_into.ensures.all) c.moves-test.false c.moves.invariant
