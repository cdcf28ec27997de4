use Rattle.std.proofs.Common.{◌↔◌, IfOk, IsTrue, sym, subst}
use Rattle.dw_solve.specs.Wins.{Lost}
use Rattle.dw_list.proofs.WayLemmas.{keeps_last, keeps_lost}
use Rattle.dw_list.proofs.next_moves.keeps.Goals as goal

pub returns-then-left-eq0-clause-answer : goal.returns-then-left-eq0-clause-answer
returns-then-left-eq0-clause-answer g c = keeps_last g.B.Board.geometry c.args.attacks c.args.after.now c.args.left
    c.has_move.result c.if-not-attacks.false c.if-left-eq0.true c.has_move.ensures

pub returns-then-dropped-gt0-clause-answer : goal.returns-then-dropped-gt0-clause-answer
returns-then-dropped-gt0-clause-answer g c =
    keeps_lost g.B.Board.geometry c.args.attacks c.args.after.now c.args.left c.if-not-attacks.false
    c.loses_last.result (subst (λ n. IfOk c.loses_last.result (λ yes. IsTrue yes ↔ Lost g.B.Board.geometry
    c.args.after.now n)) (sym c.if-left-eq1.true) c.loses_last.ensures.answer)

pub returns-clause-answer : goal.returns-clause-answer
returns-clause-answer g c = keeps_lost g.B.Board.geometry c.args.attacks c.args.after.now c.args.left
    c.if-not-attacks.false c.loses.result c.loses.ensures.answer
