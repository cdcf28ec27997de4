use Rattle.std.proofs.Common.{◌≤◌, ◌∙◌, ap, arith, length, subst, Ok, refl}
use Rattle.std.specs.Prelude.{IfSome}
use Rattle.dw_list.specs.Lending.{LendsNext}
use Rattle.dw_solution.proofs.TakingLemmas.{may_follow, given_first, taken_more, taken_all}
use Rattle.dw_solution.proofs.first.take_next.Goals as goal

pub push-requires : goal.push-requires
push-requires g c =
    let geo = g.B.Board.geometry in
    let left = subst (LendsNext geo g.M.Memo.content g.M.Memo.dropped c.args.lister.now
    c.next.follows.lender-at-none) (c.in-Ok-Some.is ∙ ap Ok c.in-Ok-Some.field-0-is) c.next.follows.holds-at-none in
    let r = c.requires in
    let next = given_first geo r.0 r.1 _ _ c.args.tree.now _ left.line left.next r.2 in (
      omega arith,
      (
        subst (λ o. IfSome o (λ line. length line.now ≤ 39)) c.in-Ok-Some.field-0-is
            c.in-Ok-Some.ensures.few,
        may_follow c.moves_have_keys.ensures c.none_begins.ensures geo r.0 r.1 c.args.tree.now _
            next.0 next.1,
      ),
    )

pub returns-in-Ok-None-clause-taken : goal.returns-in-Ok-None-clause-taken
returns-in-Ok-None-clause-taken g c p n h =
    let geo = g.B.Board.geometry in
    let left = subst (LendsNext geo g.M.Memo.content g.M.Memo.dropped c.args.lister.now
    c.next.follows.lender-at-none) (c.in-Ok-None.is ∙ ap Ok c.in-Ok-None.field-0-is) c.next.follows.holds-at-none in
    (taken_all geo p n _ _ c.args.tree.now left.next h, refl)

pub returns-in_ok-push-in-Ok-Some-clause-taken : goal.returns-in_ok-push-in-Ok-Some-clause-taken
returns-in_ok-push-in-Ok-Some-clause-taken g c p n h =
    let geo = g.B.Board.geometry in
    let left = subst (LendsNext geo g.M.Memo.content g.M.Memo.dropped c.args.lister.now
    c.next.follows.lender-at-none) (c.in-Ok-Some.is ∙ ap Ok c.in-Ok-Some.field-0-is) c.next.follows.holds-at-none in
    taken_more geo p n _ _ c.args.tree.now c.push.new.self _ left.line left.next h
    c.in_ok-push-in-Ok-Some.ensures.pushed
