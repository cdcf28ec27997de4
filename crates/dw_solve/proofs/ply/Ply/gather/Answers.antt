use Rattle.std.proofs.Common.{◌∙◌, sym, subst}
use Rattle.std.proofs.lemmas.Result.{on_ok_weaker}
use Rattle.dw_board.specs.Lists.{Member}
use Rattle.dw_moves.specs.Moves.{AreLegal}
use Rattle.dw_solve.proofs.ply.Ply.gather.Goals as goal

pub rank_all-requires-clause-legal : goal.rank_all-requires-clause-legal
rank_all-requires-clause-legal g c = λ m there.
    (c.in_ok-legal_into.ensures.all.exactly m).0 (subst (Member m) c.as_slice.ensures.value there)

pub returns : goal.returns
returns g c = on_ok_weaker c.rank_all.result
    (λ ranked. subst (AreLegal g.B.Board.geometry c.args.position.now) (sym (ranked ∙ c.as_slice.ensures.value))
    c.in_ok-legal_into.ensures.all) c.rank_all.ensures
