use Rattle.std.proofs.Common.{◌∙◌, ap, subst, Ok}
use Rattle.dw_list.specs.Lending.{LendsNext}
use Rattle.dw_solution.proofs.TakingLemmas.{given_first, taken_all}
use Rattle.dw_solution.proofs.first.has_next.Goals as goal

pub returns-in-Ok-None-clause-more : goal.returns-in-Ok-None-clause-more
returns-in-Ok-None-clause-more g c p n taken h =
    let geo = g.B.Board.geometry in
    let left = subst (LendsNext geo g.M.Memo.content g.M.Memo.dropped c.args.lister.now
    c.next.follows.lender-at-none) (c.in-Ok-None.is ∙ ap Ok c.in-Ok-None.field-0-is) c.next.follows.holds-at-none in
    taken_all geo p n _ _ taken left.next h

pub returns-in-Ok-Some-clause-more : goal.returns-in-Ok-Some-clause-more
returns-in-Ok-Some-clause-more g c p n taken h =
    let geo = g.B.Board.geometry in
    let line = c.in-Ok-Some.field-0-0.now in
    let left = subst (LendsNext geo g.M.Memo.content g.M.Memo.dropped c.args.lister.now
    c.next.follows.lender-at-none) (c.in-Ok-Some.is ∙ ap Ok c.in-Ok-Some.field-0-is) c.next.follows.holds-at-none in
    let next = given_first geo p n _ _ taken line left.line left.next h in
    (line, next.0, next.1)
