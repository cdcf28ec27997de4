use Rattle.dw_list.proofs.SeekLemmas.{seeks_more}
use Rattle.dw_list.proofs.line_walk.seek.Goals as goal

pub returns-then-same_move-clause-found : goal.returns-then-same_move-clause-found
returns-then-same_move-clause-found g c = (c.in-Try.ensures, c.same_move.ensures.0 c.if-same_move.true)

pub moves-preserved : goal.moves-preserved
moves-preserved g c =
    seeks_more g.B.Board.geometry c.args.stack.now c.moves.stack c.pass.new.self c.args.mv.now c.in-Try.candidate
    c.moves.invariant c.in-Try.ensures
    (λ e. let yes = c.same_move.ensures.1 e in let not_so = c.if-same_move.false in cc) c.pass.ensures
