use Rattle.std.proofs.Common.{◌≡◌, ◌⊎◌, ◌≤◌, ◌<◌, IsOk, OnOk, IfOk, subst}
use Rattle.dw_memo.specs.Content.{SameEntries}
use Rattle.dw_solve.specs.Facts.{IsDecided}
use Rattle.dw_solve.specs.Solving.{Solving}
use Rattle.dw_solve.specs.Questions.{Asked, moment_of}
use Rattle.dw_solve.specs.Work.{moment, NothingLost}
use Rattle.dw_solve.specs.Certificates.{SaysWin}
use Rattle.dw_solve.proofs.solver.Solver.wins.Goals as goal

pub returns-clause-known : goal.returns-clause-known
returns-clause-known g c decided =
    let content = g.M.Memo.content in
    let after = c.ask_wins-answer.new.search in
    subst
    (λ (s : Solving g.row.M.Denot).
    (c.args.moves ≡ 0) ⊎ IsDecided (content s.memo) c.args.position.now c.args.moves →
    IsOk c.ask_wins-answer.result × ((after.expanded ≡ s.expanded) × SameEntries (content s.memo) (content after.memo)))
    c.self.view_is c.ask_wins-answer.ensures.known decided

pub returns-clause-spent : goal.returns-clause-spent
returns-clause-spent g c =
    let content = g.M.Memo.content in
    let after = c.ask_wins-answer.new.search in
    subst
    (λ (s : Solving g.row.M.Denot).
    OnOk c.ask_wins-answer.result (1 ≤ c.args.moves → (IsDecided (content s.memo) c.args.position.now c.args.moves → ⊥)
    → s.expanded < after.expanded))
    c.self.view_is c.ask_wins-answer.ensures.spent

pub returns-clause-asked : goal.returns-clause-asked
returns-clause-asked g c =
    let asked = c.ask_wins-answer in
    let after = asked.new.search in
    subst
    (λ (s : Solving g.row.M.Denot).
    Asked g.B.Board.geometry g.M.Memo.content g.M.Memo.dropped c.args.moves s
    (record { memo = after.memo; expanded = after.expanded; limit = after.limit }) asked.result)
    c.self.view_is (record {
      count = asked.ensures.searched.count;
      stop = asked.ensures.searched.stop;
      searched =
          asked.ensures.searched.work;
    })

pub returns-clause-says : goal.returns-clause-says
returns-clause-says g c =
    let content = g.M.Memo.content in
    let after = c.ask_wins-answer.new.search in
    subst
    (λ (s : Solving g.row.M.Denot).
    NothingLost (moment_of content g.M.Memo.dropped s) (moment content g.M.Memo.dropped after.memo after.expanded)
    → IfOk c.ask_wins-answer.result (SaysWin (content after.memo) c.args.position.now c.args.moves))
    c.self.view_is c.ask_wins-answer.ensures.says
