use Rattle.std.proofs.Common.{refl, arith, inl, inr}
use Rattle.dw_solve.proofs.SearchLemmas.{not_known, spent_in}
use Rattle.dw_solve.proofs.StepLemmas.{searched_looked, searched_memory, searched_ok, searched_on}
use Rattle.dw_solve.proofs.solver.ask_wins.Goals as goal

pub expand-answer-requires-clause-ready : goal.expand-answer-requires-clause-ready
expand-answer-requires-clause-ready g c = record {
  right = c.known.ensures.looked.right;
  within = omega (arith, c.requires.ready.within, c.known.ensures.looked.count, c.known.ensures.looked.limit);
}

pub returns-clause-spent : goal.returns-clause-spent
returns-clause-spent g c =
    spent_in _ _ c.expand-answer.result _ _ _ c.known.ensures.looked.count c.expand-answer.ensures.spent

pub returns-in-Some-clause-searched : goal.returns-in-Some-clause-searched
returns-in-Some-clause-searched g c =
    let geo = g.B.Board.geometry in
    let content = g.M.Memo.content in
    let lost = g.M.Memo.dropped in
    let looked = c.known.ensures.looked in
    searched_ok geo content lost c.args.moves _ _ 0 _
    (searched_looked geo content lost c.args.moves _ _ c.requires.ready looked.right looked.count looked.limit
    looked.work)

pub returns-in_err-plies-clause-searched : goal.returns-in_err-plies-clause-searched
returns-in_err-plies-clause-searched g c =
    let geo = g.B.Board.geometry in
    let content = g.M.Memo.content in
    let lost = g.M.Memo.dropped in
    let looked = c.known.ensures.looked in
    searched_memory geo content lost c.args.moves _ _ _ c.from_residual.ensures.1
    (searched_looked geo content lost c.args.moves _ _ c.requires.ready looked.right looked.count looked.limit
    looked.work)

pub returns-clause-searched : goal.returns-clause-searched
returns-clause-searched g c =
    let geo = g.B.Board.geometry in
    let content = g.M.Memo.content in
    let lost = g.M.Memo.dropped in
    let looked = c.known.ensures.looked in
    let h = c.expand-answer.ensures.searched in
    searched_on geo content lost c.args.moves _ c.known.new.search _ _
    (searched_looked geo content lost c.args.moves _ _ c.requires.ready looked.right looked.count looked.limit
    looked.work)
    (record { right = h.right; count = h.count; stop = h.stop; work = h.work })

pub returns-in-Some-clause-known : goal.returns-in-Some-clause-known
returns-in-Some-clause-known g c decided = (refl, (c.known.ensures.looked.count, c.known.ensures.looked.same))

pub known-requires : goal.known-requires
known-requires g c = c.requires.ready.right

pub returns-in-Some-clause-answer : goal.returns-in-Some-clause-answer
returns-in-Some-clause-answer g c = c.in-Some.ensures.answer.answer

pub returns-in-Some-clause-says : goal.returns-in-Some-clause-says
returns-in-Some-clause-says g c kept = c.in-Some.ensures.answer.says

pub returns-in-Some-clause-spent : goal.returns-in-Some-clause-spent
returns-in-Some-clause-spent g c some undecided =
    absurd (elim c.in-Some.ensures.answer.sure [
      | inl none ↦ omega (arith, none, some)
      | inr known ↦ undecided known
    ])

pub returns-in_err-plies-clause-known : goal.returns-in_err-plies-clause-known
returns-in_err-plies-clause-known g c =
    not_known _ (g.M.Memo.content c.args.search.now.memo) (g.M.Memo.content c.known.new.search.memo) c.args.position.now
    c.args.moves c.known.ensures.looked.same c.in_default.ensures.answer

pub returns-clause-known : goal.returns-clause-known
returns-clause-known g c =
    not_known _ (g.M.Memo.content c.args.search.now.memo) (g.M.Memo.content c.known.new.search.memo) c.args.position.now
    c.args.moves c.known.ensures.looked.same c.in_default.ensures.answer
