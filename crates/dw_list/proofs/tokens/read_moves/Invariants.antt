use Rattle.dw_list.proofs.TokenReadingLemmas.{IsReadTo}
use Rattle.dw_list.proofs.tokens.read_moves.Given as goal

abbrev pub invariant-moves : goal.invariant-moves
invariant-moves g l = IsReadTo g.B.Board.geometry l.count l.bytes l.line.items l._place l.rest
