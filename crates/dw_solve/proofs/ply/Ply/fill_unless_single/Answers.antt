use Rattle.std.proofs.Common.{◌∙◌, sym, subst}
use Rattle.std.proofs.lemmas.Result.{on_ok_weaker}
use Rattle.dw_board.specs.Lists.{Member}
use Rattle.dw_moves.specs.Moves.{AreLegal}
use Rattle.dw_solve.proofs.RankLemmas.{ranked_anyhow}
use Rattle.dw_solve.proofs.ply.Ply.fill_unless_single.Goals as goal

pub rank_all-requires-clause-legal : goal.rank_all-requires-clause-legal
rank_all-requires-clause-legal g c = λ m there.
    (c.in_ok-legal_into.ensures.all.exactly m).0 (subst (Member m) c.as_slice-legal.ensures.value there)

pub returns-then-legal-eq1 : goal.returns-then-legal-eq1
returns-then-legal-eq1 g c = on_ok_weaker c.rank_all.result
    (λ ranked. subst (AreLegal g.B.Board.geometry c.args.position.now) (sym (ranked ∙ c.as_slice-legal.ensures.value))
    c.in_ok-legal_into.ensures.all) c.rank_all.ensures

pub returns : goal.returns
returns g c =
    ranked_anyhow g.B.Board.geometry c.args.position.now c.rank_all-2.new.ranked.items
    c.sort_unstable_by_key.new.self.items
    (subst (AreLegal g.B.Board.geometry c.args.position.now)
    (sym (c.in_ok-rank_all.ensures ∙ c.as_slice-legal.ensures.value)) c.in_ok-legal_into.ensures.all)
    c.sort_unstable_by_key.ensures.permutation

pub rank_all-requires-2-clause-legal : goal.rank_all-requires-2-clause-legal
rank_all-requires-2-clause-legal g c = λ m there.
    (c.in_ok-legal_into.ensures.all.exactly m).0 (subst (Member m) c.as_slice-legal.ensures.value there)
