use Rattle.dw_solve.proofs.LastMoveLemmas.{last_answer}
use Rattle.dw_solve.proofs.StepLemmas.{searched_ok, searched_on}
use Rattle.dw_solve.proofs.search.wins_last.Goals as goal

pub returns-then-branch-clause-answer : goal.returns-then-branch-clause-answer
returns-then-branch-clause-answer g c = last_answer g.B.Board.geometry c.args.position.now c.in_ok-won.won
    c.in_ok-won.ensures

pub returns-clause-searched : goal.returns-clause-searched
returns-clause-searched g c =
    let geo = g.B.Board.geometry in
    let content = g.M.Memo.content in
    let lost = g.M.Memo.dropped in
    let h = c.wins_at_once-2.ensures.searched in
    searched_on geo content lost 1 _ c.leave_out.new.search _ _
    (searched_ok geo content lost 1 _ _ _ 0 c.in_ok-leave_out.ensures.searched)
    (record { right = h.right; count = h.count; stop = h.stop; work = h.work })
