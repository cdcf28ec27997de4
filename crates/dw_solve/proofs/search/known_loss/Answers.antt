use Rattle.std.proofs.Common.{sym, subst}
use Rattle.dw_moves.specs.Moves.{AreLegal}
use Rattle.dw_moves.specs.inner.MoveLemmas.{listed_is_legal}
use Rattle.dw_solve.specs.inner.Searching.{IsLookedUp, IsKnown}
use Rattle.dw_solve.specs.Facts.{KnownWin, IsDecided}
use Rattle.dw_solve.proofs.MemoLemmas.{same_win}
use Rattle.dw_solve.proofs.OpenLemmas.{looked_then, known_more, known_all, known_refuted}
use Rattle.dw_solve.proofs.OpenLemmas.{not_all_known}
use Rattle.dw_solve.proofs.search.known_loss.Goals as goal

pub play-requires : goal.play-requires
play-requires g c =
    listed_is_legal g.B.Board.geometry c.args.position.now c.as_slice-reply-items.result.now c.replies.reply-index
    c.reply-item.result
    (subst (AreLegal g.B.Board.geometry c.args.position.now) (sym c.as_slice-reply-items.ensures.value)
    c.in_ok-legal_into.ensures.all) c.replies-test.true c.reply-item.is

pub returns-in-Some-false-clause-looked : goal.returns-in-Some-false-clause-looked
returns-in-Some-false-clause-looked g c = looked_then g.B.Board.geometry g.M.Memo.content g.M.Memo.dropped
    c.args.search.now c.replies.search c.known.new.search c.replies.invariant.0 c.known.ensures.looked

pub returns-in-None-clause-looked : goal.returns-in-None-clause-looked
returns-in-None-clause-looked g c = looked_then g.B.Board.geometry g.M.Memo.content g.M.Memo.dropped
    c.args.search.now c.replies.search c.known.new.search c.replies.invariant.0 c.known.ensures.looked

pub returns-in-Some-false-clause-answer : goal.returns-in-Some-false-clause-answer
returns-in-Some-false-clause-answer g c =
    let geo = g.B.Board.geometry in
    let legal = listed_is_legal geo c.args.position.now c.as_slice-reply-items.result.now c.replies.reply-index
    c.reply-item.result
    (subst (AreLegal geo c.args.position.now) (sym c.as_slice-reply-items.ensures.value)
    c.in_ok-legal_into.ensures.all) c.replies-test.true c.reply-item.is in
    let before = g.M.Memo.content c.replies.search.memo in
    let after = g.M.Memo.content c.known.new.search.memo in
    known_refuted geo before after c.args.position.now c.reply-item.result c.in-Some-false.field-0 legal
    c.in-Some-false.field-0-test
    (subst (λ q. IsKnown geo before after q 1 c.in-Some-false.field-0) c.play.ensures
    (subst (IsLookedUp geo before after c.play.result 1) c.in-Some-false.is c.known.ensures.answer))

pub returns-in-None-clause-answer : goal.returns-in-None-clause-answer
returns-in-None-clause-answer g c =
    let geo = g.B.Board.geometry in
    let legal = listed_is_legal geo c.args.position.now c.as_slice-reply-items.result.now c.replies.reply-index
    c.reply-item.result
    (subst (AreLegal geo c.args.position.now) (sym c.as_slice-reply-items.ensures.value)
    c.in_ok-legal_into.ensures.all) c.replies-test.true c.reply-item.is in
    let first = g.M.Memo.content c.args.search.now.memo in
    let before = g.M.Memo.content c.replies.search.memo in
    let after = g.M.Memo.content c.known.new.search.memo in
    let looked = looked_then geo g.M.Memo.content g.M.Memo.dropped
    c.args.search.now c.replies.search c.known.new.search c.replies.invariant.0 c.known.ensures.looked in
    let none = subst (IsLookedUp geo before after c.play.result 1) c.in-None.is c.known.ensures.answer in
    not_all_known geo first after c.args.position.now c.reply-item.result legal looked.same
    (subst (λ q. IsDecided after q 1 → ⊥) c.play.ensures none.undecided)

pub replies-preserved : goal.replies-preserved
replies-preserved g c =
    let geo = g.B.Board.geometry in
    let first = g.M.Memo.content c.args.search.now.memo in
    let before = g.M.Memo.content c.replies.search.memo in
    let after = g.M.Memo.content c.known.new.search.memo in
    let looked = looked_then geo g.M.Memo.content g.M.Memo.dropped
    c.args.search.now c.replies.search c.known.new.search c.replies.invariant.0 c.known.ensures.looked in
    let known = subst (IsLookedUp geo before after c.play.result 1) c.in-Some-true.is c.known.ensures.answer in (
      looked,
      known_more geo first c.args.position.now c.as_slice-reply-items.result.now c.replies.reply-index
          c.reply-item.result c.replies.invariant.1 c.replies-test.true c.reply-item.is
          (subst (λ q. KnownWin first q 1) c.play.ensures
          (same_win first after looked.same c.play.result 1 (known.says.when c.in-Some-true.field-0-test))),
    )

pub returns-clause-answer : goal.returns-clause-answer
returns-clause-answer g c =
    known_all g.B.Board.geometry (g.M.Memo.content c.args.search.now.memo) (g.M.Memo.content c.replies.search.memo)
    c.args.position.now c.as_slice-reply-items.result.now c.replies.reply-index c.requires.right
    c.replies.invariant.0.same
    (subst (AreLegal g.B.Board.geometry c.args.position.now) (sym c.as_slice-reply-items.ensures.value)
    c.in_ok-legal_into.ensures.all) c.replies-test.false c.replies.invariant.1
