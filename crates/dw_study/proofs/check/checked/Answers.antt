use Rattle.std.proofs.Common.{◌≤◌, [], refl, subst, arith}
use Rattle.dw_study.specs.Remarks.{AreRemarks}
use Rattle.dw_study.specs.Telling.{Say}
use Rattle.dw_solve.specs.inner.QuestionLemmas.{asked_ok, asked_stop}
use Rattle.dw_study.proofs.AskedLemmas.{asked_on}
use Rattle.dw_study.proofs.check.checked.Goals as goal

pub returns-in_err-wins-clause-asked : goal.returns-in_err-wins-clause-asked
returns-in_err-wins-clause-asked g c =
    asked_stop g.B.Board.geometry g.M.Memo.content g.M.Memo.dropped c.args.moves.value c.args.solver.now c.wins.new.self
    c.in_err-wins.field-0.0 c.from_residual.result c.from_residual.ensures.1 c.in_err-wins.ensures.asked

pub returns-in_err-remarks-clause-asked : goal.returns-in_err-remarks-clause-asked
returns-in_err-remarks-clause-asked g c =
    let geo = g.B.Board.geometry in
    let content = g.M.Memo.content in
    let lost = g.M.Memo.dropped in
    let n = c.args.moves.value in
    let less : n ≤ n = omega arith in
    let won = c.in_ok-wins.ensures in
    asked_on c.searches_add_up.ensures geo content lost n n
    c.args.solver.now c.wins.new.self c.remarks_from.new.solver c.from_residual-in_err-remarks.result less
    (asked_ok geo content lost n c.args.solver.now
    c.wins.new.self c.in_ok-wins.wins 0
    won.asked)
    (asked_stop geo content lost n c.wins.new.self
    c.remarks_from.new.solver c.in_err-remarks.field-0.0 c.from_residual-in_err-remarks.result
    c.from_residual-in_err-remarks.ensures.1 c.in_err-remarks.ensures.asked)

pub returns-clause-remarks : goal.returns-clause-remarks
returns-clause-remarks g c =
    let tree = c.args.tree.now in
    subst (λ z. Say tree.paths c.in_ok-remarks.remarks.items
    (AreRemarks g.B.Board.geometry tree.paths c.args.moves.value z []))
    c.start-position.ensures
    (c.in_ok-remarks.ensures.remarks [] (record { there = refl; position = c.start-position.ensures }))

pub returns-clause-asked : goal.returns-clause-asked
returns-clause-asked g c =
    let geo = g.B.Board.geometry in
    let content = g.M.Memo.content in
    let lost = g.M.Memo.dropped in
    let n = c.args.moves.value in
    let less : n ≤ n = omega arith in
    let won = c.in_ok-wins.ensures in
    asked_on c.searches_add_up.ensures geo content lost n n
    c.args.solver.now c.wins.new.self c.remarks_from.new.solver _ less
    (asked_ok geo content lost n c.args.solver.now
    c.wins.new.self c.in_ok-wins.wins 0
    won.asked)
    (asked_ok geo content lost n c.wins.new.self
    c.remarks_from.new.solver c.in_ok-remarks.remarks _ c.in_ok-remarks.ensures.asked)
