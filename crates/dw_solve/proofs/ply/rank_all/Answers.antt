use Rattle.std.proofs.Common.{◌≡◌, ◌+◌, ap, sym, subst, take, arith}
use Rattle.dw_solve.specs.Ranking.{moves_of}
use Rattle.dw_solve.proofs.RankLemmas.{member_at, ranked_more, ranked_all}
use Rattle.dw_solve.proofs.ply.rank_all.Goals as goal

pub moves-init : goal.moves-init
moves-init g c = ap moves_of c.requires.empty

pub rank-requires : goal.rank-requires
rank-requires g c = c.requires.legal c.mv-item.result
    (member_at c.args.legal.now c.moves.mv-index c.mv-item.result c.moves-test.true c.mv-item.is)

pub moves-preserved : goal.moves-preserved
moves-preserved g c =
    subst (λ z. moves_of z ≡ take (c.moves.mv-index + 1) c.args.legal.now) (sym c.in_ok-push.ensures.items)
    (ranked_more c.args.legal.now c.moves.ranked.items c.moves.mv-index c.rank.result c.mv-item.result c.moves.invariant
    c.moves-test.true c.mv-item.is)

pub returns : goal.returns
returns g c = ranked_all c.args.legal.now c.moves.ranked.items c.moves.mv-index c.moves.invariant
    (omega (arith, c.moves-test.false))
