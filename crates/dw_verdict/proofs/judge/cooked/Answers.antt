use Rattle.std.proofs.Common.{subst}
use Rattle.dw_solve.specs.Solving.{IsLeast}
use Rattle.dw_solve.specs.inner.QuestionLemmas.{asked_ok, asked_stop}
use Rattle.dw_verdict.proofs.KeyListLemmas.{some_win}
use Rattle.dw_verdict.proofs.judge.cooked.Goals as goal

pub unreachable-requires : goal.unreachable-requires
unreachable-requires g c =
    let geo = g.B.Board.geometry in
    let none = subst (IsLeast geo c.args.position.now c.args.moves) c.in-None.is c.in_ok-shortest.ensures.answer in
    none (some_win geo c.args.position.now c.args.moves c.args.keys.items c.requires.keys.some c.requires.keys.are)

pub returns-clause-verdict : goal.returns-clause-verdict
returns-clause-verdict g c =
    let least = subst (IsLeast g.B.Board.geometry c.args.position.now c.args.moves) c.in-Some.is
    c.in_ok-shortest.ensures.answer in
    (c.requires.keys.are, c.requires.keys.some, c.requires.keys.more, record { wins = least.2; none_less = least.3 })

pub returns-in_err-shortest-clause-asked : goal.returns-in_err-shortest-clause-asked
returns-in_err-shortest-clause-asked g c = asked_stop g.B.Board.geometry g.M.Memo.content g.M.Memo.dropped c.args.moves
    _ _ c.in_err-shortest.field-0.0 _ c.from_residual.ensures.1 c.in_err-shortest.ensures.asked

pub returns-clause-asked : goal.returns-clause-asked
returns-clause-asked g c = asked_ok g.B.Board.geometry g.M.Memo.content g.M.Memo.dropped c.args.moves _ _ _ _
    c.in_ok-shortest.ensures.asked
