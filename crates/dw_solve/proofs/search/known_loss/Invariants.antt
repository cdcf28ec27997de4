use Rattle.dw_solve.specs.inner.Searching.{HasLooked}
use Rattle.dw_solve.proofs.OpenLemmas.{AllKnown}
use Rattle.dw_solve.proofs.search.known_loss.Given as goal

abbrev pub invariant-replies : goal.invariant-replies
invariant-replies g l = HasLooked g.B.Board.geometry g.M.Memo.content g.M.Memo.dropped l.fn.search l.search
    × AllKnown g.B.Board.geometry (g.M.Memo.content l.fn.search.memo) l.position l.reply-items l.reply-index
