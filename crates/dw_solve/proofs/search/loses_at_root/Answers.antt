use Rattle.std.proofs.Common.{◌↔◌, sym, subst, IfOk, inl, inr}
use Rattle.std.specs.Prelude.{IsTrue}
use Rattle.dw_solve.specs.Wins.{Lost}
use Rattle.dw_solve.specs.inner.Ranking.{IsLossLookedUp}
use Rattle.dw_solve.proofs.StepLemmas.{searched_looked, searched_on, searched_for_fewer}
use Rattle.dw_solve.proofs.SearchLemmas.{one_at_most}
use Rattle.dw_solve.proofs.search.loses_at_root.Goals as goal

pub returns-then-moves-ne1-clause-known : goal.returns-then-moves-ne1-clause-known
returns-then-moves-ne1-clause-known g c all = elim (c.loses.ensures.known all) [
  | inl one ↦ absurd (c.if-moves-ne1.true one)
  | inr h ↦ h
]

pub returns-in-Some-clause-answer : goal.returns-in-Some-clause-answer
returns-in-Some-clause-answer g c =
    let known = subst (IsLossLookedUp g.B.Board.geometry (g.M.Memo.content c.args.search.now.memo)
    (g.M.Memo.content c.known_loss.new.search.memo) c.args.position.now 1) c.in-Some.is
    c.in_ok-answer.ensures.answer in
    subst (λ n. IsTrue c.in-Some.answer ↔ Lost g.B.Board.geometry c.args.position.now n) (sym c.if-moves-ne1.false)
    known.0

pub returns-in-None-clause-answer : goal.returns-in-None-clause-answer
returns-in-None-clause-answer g c =
    subst (λ n. IfOk c.loses_last.result (λ yes. IsTrue yes ↔ Lost g.B.Board.geometry c.args.position.now n))
    (sym c.if-moves-ne1.false) c.loses_last.ensures.answer

pub returns-in-None-clause-searched : goal.returns-in-None-clause-searched
returns-in-None-clause-searched g c =
    let geo = g.B.Board.geometry in
    let content = g.M.Memo.content in
    let lost = g.M.Memo.dropped in
    let looked = c.known_loss.ensures.looked in
    let h = c.loses_last.ensures.searched in
    searched_on geo content lost c.args.moves c.args.search.now c.known_loss.new.search _ _
    (searched_looked geo content lost c.args.moves c.args.search.now c.known_loss.new.search c.requires.ready
    looked.right looked.count looked.limit looked.work)
    (searched_for_fewer geo content lost 1 c.args.moves _ _ _ (one_at_most c.args.moves c.if-moves-ne1.false)
    (record { right = h.right; count = h.count; stop = h.stop; work = h.work }))
