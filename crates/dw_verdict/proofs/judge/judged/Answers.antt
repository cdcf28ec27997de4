use Rattle.dw_solve.specs.inner.QuestionLemmas.{asked_then, asked_ok, asked_stop}
use Rattle.dw_verdict.proofs.judge.judged.Goals as goal

pub returns-in_err-tries-clause-asked : goal.returns-in_err-tries-clause-asked
returns-in_err-tries-clause-asked g c =
    let geo = g.B.Board.geometry in
    let content = g.M.Memo.content in
    let lost = g.M.Memo.dropped in
    let law = c.searches_add_up.ensures in
    let n = c.args.moves in
    asked_then geo content lost law n _ _ _ _ (asked_ok geo content lost n _ _ _ 0 c.in_ok-verdict.ensures.asked)
    (asked_stop geo content lost n _ _ c.in_err-tries.field-0.0 _ c.from_residual-in_err-tries.ensures.1
    c.in_err-tries.ensures.asked)

pub returns-clause-asked : goal.returns-clause-asked
returns-clause-asked g c =
    let geo = g.B.Board.geometry in
    let content = g.M.Memo.content in
    let lost = g.M.Memo.dropped in
    let law = c.searches_add_up.ensures in
    let n = c.args.moves in
    asked_then geo content lost law n _ _ _ _ (asked_ok geo content lost n _ _ _ 0 c.in_ok-verdict.ensures.asked)
    (asked_ok geo content lost n _ _ _ _ c.in_ok-tries.ensures.asked)
