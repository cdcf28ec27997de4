use Rattle.std.proofs.Common.{sym, subst}
use Rattle.dw_moves.specs.Moves.{AreLegal}
use Rattle.dw_moves.specs.inner.MoveLemmas.{listed_is_legal}
use Rattle.dw_bench.proofs.perft.+perft.Goals as goal

pub play-requires : goal.play-requires
play-requires g t c =
    listed_is_legal g.B.Board.geometry c.args.position.now c.as_slice-mv-items.result.now c.moves.mv-index
    c.mv-item.result
    (subst (AreLegal g.B.Board.geometry c.args.position.now) (sym c.as_slice-mv-items.ensures.value)
    c.in_ok-legal_into.ensures.all) c.moves-test.true c.mv-item.is
