use Rattle.std.proofs.Common.{◌+◌, ◌*◌}
use Rattle.dw_solve.specs.Facts.{AreTrue, RepliesAreDecided}
use Rattle.dw_solve.specs.Ranking.{moves_of}
use Rattle.dw_solve.specs.Searching.{IsCounted}
use Rattle.dw_solve.specs.Work.{moment}
use Rattle.dw_solve.proofs.OpenLemmas.{PutOff}
use Rattle.dw_solve.proofs.SearchLemmas.{Unchanged}
use Rattle.dw_solve.proofs.RankLemmas.{NoneLost, AllWon}
use Rattle.dw_solve.proofs.TriedLemmas.{Tried, Refuted, Answered}
use Rattle.dw_solve.proofs.search.+search.Given as goal

abbrev pub decreases-expand : goal.decreases-expand
decreases-expand g l = 8 * l.moves + 1

abbrev pub decreases-wins : goal.decreases-wins
decreases-wins g l = 8 * l.moves + 2

abbrev pub decreases-try_reply : goal.decreases-try_reply
decreases-try_reply g l = 8 * l.moves + 2

abbrev pub decreases-good_reply_refutes : goal.decreases-good_reply_refutes
decreases-good_reply_refutes g l = 8 * l.moves + 3

abbrev pub decreases-all_replies_lose : goal.decreases-all_replies_lose
decreases-all_replies_lose g l = 8 * l.moves + 3

abbrev pub decreases-loses : goal.decreases-loses
decreases-loses g l = 8 * l.moves + 4

abbrev pub decreases-some_move_wins : goal.decreases-some_move_wins
decreases-some_move_wins g l = 8 * l.moves + 5

abbrev pub invariant-some_move_wins-moves : goal.invariant-some_move_wins-moves
invariant-some_move_wins-moves g l =
    AreTrue g.B.Board.geometry (g.M.Memo.content l.search.memo)
    × (IsCounted l.initial.search.expanded l.initial.search.limit l.search.expanded l.search.limit
    × (NoneLost g.B.Board.geometry l.position l.moves l.ranked l.candidate-index
    × Tried g.B.Board.geometry l.moves (Refuted g.B.Board.geometry l.position l.moves) l.ranked l.candidate-index
    (moment g.M.Memo.content g.M.Memo.dropped l.initial.search.memo l.initial.search.expanded)
    (moment g.M.Memo.content g.M.Memo.dropped l.search.memo l.search.expanded)))

abbrev pub invariant-good_reply_refutes-replies : goal.invariant-good_reply_refutes-replies
invariant-good_reply_refutes-replies g l =
    AreTrue g.B.Board.geometry (g.M.Memo.content l.search.memo)
    × (IsCounted l.initial.search.expanded l.initial.search.limit l.search.expanded l.search.limit
    × (PutOff g.B.Board.geometry l.position l.moves l.legal l.reply-index (moves_of l.ranked.items)
    (moment g.M.Memo.content g.M.Memo.dropped l.initial.search.memo l.initial.search.expanded)
    (moment g.M.Memo.content g.M.Memo.dropped l.search.memo l.search.expanded)
    × (RepliesAreDecided g.B.Board.geometry (g.M.Memo.content l.initial.search.memo) l.position l.moves
    → Unchanged (g.M.Memo.content l.initial.search.memo) l.initial.search.expanded (g.M.Memo.content l.search.memo)
    l.search.expanded)))

abbrev pub invariant-all_replies_lose-replies : goal.invariant-all_replies_lose-replies
invariant-all_replies_lose-replies g l =
    AreTrue g.B.Board.geometry (g.M.Memo.content l.search.memo)
    × (IsCounted l.initial.search.expanded l.initial.search.limit l.search.expanded l.search.limit
    × (AllWon g.B.Board.geometry l.position l.moves l.ranked l.candidate-index
    × Tried g.B.Board.geometry l.moves (Answered g.B.Board.geometry l.position l.moves) l.ranked l.candidate-index
    (moment g.M.Memo.content g.M.Memo.dropped l.initial.search.memo l.initial.search.expanded)
    (moment g.M.Memo.content g.M.Memo.dropped l.search.memo l.search.expanded)
    × (RepliesAreDecided g.B.Board.geometry (g.M.Memo.content l.initial.search.memo) l.position l.moves
    → Unchanged (g.M.Memo.content l.initial.search.memo) l.initial.search.expanded (g.M.Memo.content l.search.memo)
    l.search.expanded)))
