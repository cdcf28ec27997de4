use Rattle.dw_memo.specs.Content.{IsMap}
use Rattle.dw_solve.specs.Facts.{AreTrue}
use Rattle.dw_solve.specs.Searching.{IsCounted}
use Rattle.dw_solve.specs.Work.{moment}
use Rattle.dw_solve.specs.Certificates.{SaysLeast}
use Rattle.dw_solve.proofs.SearchLemmas.{NoneBelow, Unchanged}
use Rattle.dw_solve.proofs.TriedLemmas.{AllDecided}
use Rattle.dw_solve.proofs.solver.Solver.least.Given as goal

abbrev pub invariant-moves : goal.invariant-moves
invariant-moves g l =
    (AreTrue g.B.Board.geometry (g.M.Memo.content l.self.memo) × IsMap (g.M.Memo.content l.self.memo))
    × (IsCounted l.initial.self.expanded l.initial.self.limit l.self.expanded l.self.limit
    × (NoneBelow g.B.Board.geometry l.position l.moves
    × AllDecided g.B.Board.geometry l.most l.position l.moves
    (moment g.M.Memo.content g.M.Memo.dropped l.initial.self.memo l.initial.self.expanded)
    (moment g.M.Memo.content g.M.Memo.dropped l.self.memo l.self.expanded)
    × (SaysLeast (g.M.Memo.content l.initial.self.memo) l.position l.most
    → Unchanged (g.M.Memo.content l.initial.self.memo) l.initial.self.expanded (g.M.Memo.content l.self.memo)
    l.self.expanded)))
