use Rattle.std.proofs.Common.{◌≡◌, ◌+◌, length, sym, subst, ap, ◌∙◌, arith, lit<, refl}
use Rattle.dw_list.specs.Places.{IsPlace}
use Rattle.dw_solve.specs.inner.QuestionLemmas.{answered, asked_none, asked_then, asked_ok, asked_stop, asked_memory}
use Rattle.dw_solve.specs.inner.QuestionLemmas.{asked_for}
use Rattle.dw_list.proofs.FollowLemmas.{place_of, Follows, follows_init, follows_more, follows_place, follows_short}
use Rattle.dw_list.proofs.FollowLemmas.{follows_line}
use Rattle.dw_list.proofs.line_walk.walk_along.Goals as goal

pub descend-requires : goal.descend-requires
descend-requires g c = (lit< tt, c.line.invariant.follows.unlisted)

pub returns-in_err-went-clause-asked : goal.returns-in_err-went-clause-asked
returns-in_err-went-clause-asked g c =
    let geo = g.B.Board.geometry in
    let content = g.M.Memo.content in
    let lost = g.M.Memo.dropped in
    let n = c.args.moves in
    asked_then geo content lost c.searches_add_up.ensures n _ _ _ _ c.line.invariant.asked
    (asked_for geo content lost _ n _ _ _ c.line.invariant.follows.moves
    (asked_stop geo content lost _ _ _ c.in_err-went.field-0.0 _ c.from_residual.ensures.1 c.in_err-went.ensures.asked))

pub returns-then-not-went-clause-found : goal.returns-then-not-went-clause-found
returns-then-not-went-clause-found g c =
    let geo = g.B.Board.geometry in
    subst (IsPlace geo c.args.position.now c.args.moves c.args.line.now) (sym c.line.invariant.place)
    (place_of geo c.args.position.now c.args.moves c.args.line.now (c.line.mv-index + 1)
    (follows_place c.moves_listed.ensures geo c.args.position.now c.args.moves c.args.line.now c.line.mv-index
    c.mv-item.result c.line.stack c.line.invariant.follows c.line-test.true c.mv-item.is
    (c.in_ok-went.ensures.barred (λ yes. let not_so = c.if-not-went.true in cc))))

pub returns-then-not-went-clause-asked : goal.returns-then-not-went-clause-asked
returns-then-not-went-clause-asked g c =
    let geo = g.B.Board.geometry in
    let content = g.M.Memo.content in
    let lost = g.M.Memo.dropped in
    let n = c.args.moves in
    asked_then geo content lost c.searches_add_up.ensures n _ _ _ _ c.line.invariant.asked
    (asked_for geo content lost _ n _ _ _ c.line.invariant.follows.moves (asked_ok geo content lost _ _ _ _ _
    c.in_ok-went.ensures.asked))

pub line-preserved : goal.line-preserved
line-preserved g c =
    let geo = g.B.Board.geometry in
    let content = g.M.Memo.content in
    let lost = g.M.Memo.dropped in
    let n = c.args.moves in
    record {
      follows = follows_more geo c.args.position.now c.args.moves c.args.line.now c.line.mv-index c.mv-item.result
          c.line.stack c.descend.new.stack c.line.invariant.follows c.line-test.true c.mv-item.is
          (c.in_ok-went.ensures.went c.if-not-went.false) c.keeps_its_levels-in-line.ensures.levels;
      place = ap (λ z. z + 1) c.line.invariant.place;
      asked = asked_then geo content lost c.searches_add_up.ensures n _ _ _ answered c.line.invariant.asked
          (asked_for geo content lost _ n _ _ _ c.line.invariant.follows.moves (asked_ok geo content lost _ _ _ _ 0
          c.in_ok-went.ensures.asked));
    }

pub returns-then-is_end-clause-found : goal.returns-then-is_end-clause-found
returns-then-is_end-clause-found g c =
    let geo = g.B.Board.geometry in
    let at_end : c.line.mv-index ≡ length c.args.line.now =
    omega (arith, c.line-test.false, c.line.auto.mv-index-end) in
    follows_line c.moves_have_keys.ensures geo c.args.position.now c.args.moves c.args.line.now c.line.stack
    c.list.new.self c.in_ok-is_end.is_end
    (subst (λ z. Follows geo c.args.position.now c.args.moves c.args.line.now z c.line.stack) at_end
    c.line.invariant.follows) c.in_ok-is_end.ensures.listed c.if-is_end.true

pub returns-else-is_end-clause-found : goal.returns-else-is_end-clause-found
returns-else-is_end-clause-found g c =
    let geo = g.B.Board.geometry in
    let at_end : c.line.mv-index ≡ length c.args.line.now =
    omega (arith, c.line-test.false, c.line.auto.mv-index-end) in
    subst (IsPlace geo c.args.position.now c.args.moves c.args.line.now) (sym (c.line.invariant.place
    ∙ ap (λ z. z + 1) at_end))
    (place_of geo c.args.position.now c.args.moves c.args.line.now (length c.args.line.now + 1)
    (follows_short c.moves_listed.ensures geo c.args.position.now c.args.moves c.args.line.now c.line.stack
    c.list.new.self c.in_ok-is_end.is_end
    (subst (λ z. Follows geo c.args.position.now c.args.moves c.args.line.now z c.line.stack) at_end
    c.line.invariant.follows) c.in_ok-is_end.ensures.listed c.if-is_end.false))

pub returns-in_err-is_end-clause-asked : goal.returns-in_err-is_end-clause-asked
returns-in_err-is_end-clause-asked g c = asked_memory g.B.Board.geometry g.M.Memo.content g.M.Memo.dropped c.args.moves
    _ _ _ c.from_residual-in_err-is_end.ensures.1 c.line.invariant.asked

pub returns-then-is_end-clause-asked : goal.returns-then-is_end-clause-asked
returns-then-is_end-clause-asked g c =
    asked_ok g.B.Board.geometry g.M.Memo.content g.M.Memo.dropped c.args.moves _ _ 0 _ c.line.invariant.asked

pub returns-else-is_end-clause-asked : goal.returns-else-is_end-clause-asked
returns-else-is_end-clause-asked g c =
    asked_ok g.B.Board.geometry g.M.Memo.content g.M.Memo.dropped c.args.moves _ _ 0 _ c.line.invariant.asked

pub line-init : goal.line-init
line-init g c = record {
  follows = follows_init g.B.Board.geometry c.args.position.now c.args.moves c.args.line.now c.new-stack.result
      c.new-stack.ensures c.keeps_its_levels.ensures.levels;
  place = refl;
  asked = asked_none g.B.Board.geometry g.M.Memo.content g.M.Memo.dropped c.searches_add_up.ensures c.args.moves
      c.args.solver.now c.keeps_its_limit.ensures;
}
