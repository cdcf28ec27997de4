use Rattle.std.proofs.Common.{refl, sym, subst}
use Rattle.dw_memo.specs.Content.{MayForget}
use Rattle.dw_solve.specs.Questions.{moment_of}
use Rattle.dw_solve.specs.Solving.{Solving}
use Rattle.dw_solve.specs.Work.{moment, Searched}
use Rattle.dw_solve.proofs.MemoLemmas.{still_true}
use Rattle.dw_solve.proofs.WorkLemmas.{searched_same}
use Rattle.dw_solve.proofs.solver.Solver.forget.Goals as goal

pub invariant_of-self : goal.invariant_of-self
invariant_of-self g c = (
  still_true g.B.Board.geometry (g.M.Memo.content c.self.inside.search.memo) (g.M.Memo.content c.forget.new.self)
      c.self.invariant.0 c.forget.ensures.forgets,
  c.self.invariant.1,
)

pub returns-clause-forgets : goal.returns-clause-forgets
returns-clause-forgets g c =
    let content = g.M.Memo.content in
    subst (λ (s : Solving g.row.M.Denot). MayForget (content s.memo) (content c.forget.new.self)) c.self.view_is
    c.forget.ensures.forgets

pub returns-clause-keeps : goal.returns-clause-keeps
returns-clause-keeps g c = λ kept.
    let geo = g.B.Board.geometry in
    let content = g.M.Memo.content in
    let lost = g.M.Memo.dropped in
    let search = c.self.inside.search in
    let after = moment content lost c.forget.new.self search.expanded in
    subst (λ (s : Solving g.row.M.Denot). Searched geo 0 0 (moment_of content lost s) after) c.self.view_is
    (searched_same geo 0 0 (moment content lost search.memo search.expanded) after c.forget.ensures.map
    (c.forget.ensures.keeps kept) (sym c.forget.ensures.dropped) refl)
