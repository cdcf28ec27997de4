use Rattle.std.proofs.Common.{◌≡◌, IfOk, IsErrOf, subst}
use Rattle.dw_memo.specs.Content.{SameEntries}
use Rattle.dw_solve.specs.declared.stop.Stop.TheVariants.{Limit}
use Rattle.dw_solve.specs.Facts.{RepliesAreDecided}
use Rattle.dw_solve.specs.Solving.{Solving}
use Rattle.dw_solve.specs.Questions.{Asked, moment_of}
use Rattle.dw_solve.specs.Work.{moment, NothingLost}
use Rattle.dw_solve.specs.Certificates.{SaysLost}
use Rattle.dw_solve.proofs.solver.Solver.loses.Goals as goal

pub returns-clause-known : goal.returns-clause-known
returns-clause-known g c decided =
    let content = g.M.Memo.content in
    let after = c.ask_loses-answer.new.search in
    subst
    (λ (s : Solving g.row.M.Denot).
    RepliesAreDecided g.B.Board.geometry (content s.memo) c.args.position.now c.args.moves →
    (IsErrOf c.ask_loses-answer.result Limit → ⊥)
    × ((after.expanded ≡ s.expanded) × SameEntries (content s.memo) (content after.memo)))
    c.self.view_is c.ask_loses-answer.ensures.known decided

pub returns-clause-asked : goal.returns-clause-asked
returns-clause-asked g c =
    let asked = c.ask_loses-answer in
    let after = asked.new.search in
    subst
    (λ (s : Solving g.row.M.Denot).
    Asked g.B.Board.geometry g.M.Memo.content g.M.Memo.dropped c.args.moves s
    (record { memo = after.memo; expanded = after.expanded; limit = after.limit }) asked.result)
    c.self.view_is (record {
      count = asked.ensures.searched.count;
      stop = asked.ensures.searched.stop;
      searched =
          asked.ensures.searched.work;
    })

pub returns-clause-says : goal.returns-clause-says
returns-clause-says g c =
    let content = g.M.Memo.content in
    let after = c.ask_loses-answer.new.search in
    subst
    (λ (s : Solving g.row.M.Denot).
    NothingLost (moment_of content g.M.Memo.dropped s) (moment content g.M.Memo.dropped after.memo after.expanded)
    → IfOk c.ask_loses-answer.result (SaysLost g.B.Board.geometry (content after.memo) c.args.position.now
    c.args.moves))
    c.self.view_is c.ask_loses-answer.ensures.says
