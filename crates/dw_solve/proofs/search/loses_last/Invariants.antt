use Rattle.dw_solve.specs.Facts.{AreTrue}
use Rattle.dw_solve.specs.Searching.{IsCounted}
use Rattle.dw_solve.specs.Work.{moment}
use Rattle.dw_solve.proofs.RankLemmas.{AllWon}
use Rattle.dw_solve.proofs.TriedLemmas.{Tried, Answered}
use Rattle.dw_solve.proofs.search.loses_last.Given as goal

abbrev pub invariant-replies : goal.invariant-replies
invariant-replies g l =
    AreTrue g.B.Board.geometry (g.M.Memo.content l.search.memo)
    × (IsCounted l.fn.search.expanded l.fn.search.limit l.search.expanded l.search.limit
    × (AllWon g.B.Board.geometry l.position 1 l.candidate-items l.candidate-index
    × Tried g.B.Board.geometry 1 (Answered g.B.Board.geometry l.position 1) l.candidate-items l.candidate-index
    (moment g.M.Memo.content g.M.Memo.dropped l.fn.search.memo l.fn.search.expanded)
    (moment g.M.Memo.content g.M.Memo.dropped l.search.memo l.search.expanded)))
