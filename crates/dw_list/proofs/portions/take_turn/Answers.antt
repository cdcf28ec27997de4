use Rattle.std.proofs.Common.{◌≤◌, ◌∷◌, [], ◌∙◌, ap, arith, length, length-append, map, subst, Ok, sym}
use Rattle.std.specs.Prelude.{IfSome}
use Rattle.dw_list.specs.Lending.{LendsNext}
use Rattle.dw_list.specs.Listing.{stack_of}
use Rattle.dw_list.specs.LineStack.{AreToCome}
use Rattle.dw_list.specs.StackWalk.{Gives}
use Rattle.dw_list.proofs.PortionLemmas.{taken_same, taken_more, taken_none, end_same, end_more, end_none}
use Rattle.dw_list.proofs.portions.take_turn.Goals as goal

pub copied-requires : goal.copied-requires
copied-requires g c = (
  omega arith,
  subst (λ o. IfSome o (λ line. length line.now ≤ 39)) c.in-Ok-Some.field-0-is c.in-Ok-Some.ensures.few,
)

pub returns-in-Err-clause-lines : goal.returns-in-Err-clause-lines
returns-in-Err-clause-lines g c =
    let geo = g.B.Board.geometry in
    let left = subst (LendsNext geo g.M.Memo.content g.M.Memo.dropped c.set_limit.new.self
    c.next.follows.lender-at-none) c.in-Err.is c.next.follows.holds-at-none in
    λ start given. taken_same geo _ _ _ c.set_limit.ensures.stack _ start _ _ c.reserve.ensures.items left.next given

pub returns-in-Err-clause-end : goal.returns-in-Err-clause-end
returns-in-Err-clause-end g c =
    let geo = g.B.Board.geometry in
    let left = subst (LendsNext geo g.M.Memo.content g.M.Memo.dropped c.set_limit.new.self
    c.next.follows.lender-at-none) c.in-Err.is c.next.follows.holds-at-none in
    λ none some. end_same geo _ _ _ c.set_limit.ensures.stack left.next (none some)

pub returns-in-Ok-Some-clause-lines : goal.returns-in-Ok-Some-clause-lines
returns-in-Ok-Some-clause-lines g c =
    let geo = g.B.Board.geometry in
    let left = subst (LendsNext geo g.M.Memo.content g.M.Memo.dropped c.set_limit.new.self
    c.next.follows.lender-at-none) (c.in-Ok-Some.is ∙ ap Ok c.in-Ok-Some.field-0-is) c.next.follows.holds-at-none in
    λ start given. taken_more geo _ _ _ c.set_limit.ensures.stack _ start _ _ _ c.copied.result _
    c.reserve.ensures.items c.push_reserved.ensures.items c.copied.ensures left.line left.next given

pub returns-in-Ok-Some-clause-end : goal.returns-in-Ok-Some-clause-end
returns-in-Ok-Some-clause-end g c =
    let geo = g.B.Board.geometry in
    let left = subst (LendsNext geo g.M.Memo.content g.M.Memo.dropped c.set_limit.new.self
    c.next.follows.lender-at-none) (c.in-Ok-Some.is ∙ ap Ok c.in-Ok-Some.field-0-is) c.next.follows.holds-at-none in
    λ none some. end_more geo _ _ _ c.set_limit.ensures.stack left.next (none some)

pub returns-in-Ok-None-clause-lines : goal.returns-in-Ok-None-clause-lines
returns-in-Ok-None-clause-lines g c =
    let geo = g.B.Board.geometry in
    let left = subst (LendsNext geo g.M.Memo.content g.M.Memo.dropped c.set_limit.new.self
    c.next.follows.lender-at-none) (c.in-Ok-None.is ∙ ap Ok c.in-Ok-None.field-0-is) c.next.follows.holds-at-none in
    λ start given. taken_none geo _ _ _ c.set_limit.ensures.stack _ start _ _ c.reserve.ensures.items left.next given

pub returns-in-Ok-None-clause-end : goal.returns-in-Ok-None-clause-end
returns-in-Ok-None-clause-end g c =
    let geo = g.B.Board.geometry in
    let left = subst (LendsNext geo g.M.Memo.content g.M.Memo.dropped c.set_limit.new.self
    c.next.follows.lender-at-none) (c.in-Ok-None.is ∙ ap Ok c.in-Ok-None.field-0-is) c.next.follows.holds-at-none in
    λ none some. end_none geo _ _ _ c.set_limit.ensures.stack left.next

pub overflow_add-portions-in-Err : goal.overflow_add-portions-in-Err
overflow_add-portions-in-Err g c = omega (arith, c.requires, ap length c.reserve.ensures.items)

pub overflow_add-portions-in-Ok-None : goal.overflow_add-portions-in-Ok-None
overflow_add-portions-in-Ok-None g c = omega (arith, c.requires, ap length c.reserve.ensures.items)

pub returns-in-Err-clause-turns : goal.returns-in-Err-clause-turns
returns-in-Err-clause-turns g c = omega (arith, ap length c.reserve.ensures.items)

pub returns-in-Ok-None-clause-turns : goal.returns-in-Ok-None-clause-turns
returns-in-Ok-None-clause-turns g c = omega (arith, ap length c.reserve.ensures.items)

pub returns-in-Ok-Some-clause-turns : goal.returns-in-Ok-Some-clause-turns
returns-in-Ok-Some-clause-turns g c = omega (
  arith,
  ap length c.reserve.ensures.items,
  ap length c.push_reserved.ensures.items,
  length-append c.reserve.new.self.items (c.copied.result ∷ []),
)

pub returns-then-is_err-clause-lines : goal.returns-then-is_err-clause-lines
returns-then-is_err-clause-lines g c start given =
    subst (λ z. Gives g.B.Board.geometry start z (map (λ line. line.items) c.reserve.new.self.items))
    (sym c.set_limit.ensures.stack)
    (subst (λ z. Gives g.B.Board.geometry start (stack_of c.args.lister.now) (map (λ line. line.items) z))
    (sym c.reserve.ensures.items) given)

pub returns-then-is_err-clause-end : goal.returns-then-is_err-clause-end
returns-then-is_err-clause-end g c none some = subst (λ z. AreToCome g.B.Board.geometry z [])
    (sym c.set_limit.ensures.stack) (none some)
