use Rattle.std.proofs.Common.{sym, subst}
use Rattle.dw_solve.specs.Ranking.{AreRanked}
use Rattle.dw_solve.proofs.RankLemmas.{ranked_legal}
use Rattle.dw_solve.proofs.ply.Ply.first_sure.Goals as goal

pub play-after-requires : goal.play-after-requires
play-after-requires g c =
    ranked_legal g.B.Board.geometry c.args.position.now c.as_slice-candidate-items.result.now c.moves.candidate-index
    c.candidate-item.result
    (subst (AreRanked g.B.Board.geometry c.args.position.now) (sym c.as_slice-candidate-items.ensures.value) c.requires)
    c.moves-test.true c.candidate-item.is

pub returns-then-has_sure_reply : goal.returns-then-has_sure_reply
returns-then-has_sure_reply g c = (
  c.candidate-item.result.1,
  ranked_legal g.B.Board.geometry c.args.position.now c.as_slice-candidate-items.result.now c.moves.candidate-index
      c.candidate-item.result
      (subst (AreRanked g.B.Board.geometry c.args.position.now) (sym c.as_slice-candidate-items.ensures.value)
      c.requires) c.moves-test.true c.candidate-item.is,
  c.play-after.ensures,
  c.has_sure_reply.ensures.replies c.if-has_sure_reply.true,
)
