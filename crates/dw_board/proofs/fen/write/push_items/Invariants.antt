use Rattle.std.specs.FinSet as set
use Rattle.dw_board.proofs.ItemLemmas.{IsLeft}
use Rattle.dw_board.proofs.fen.write.push_items.Given as goal

abbrev pub invariant-squares : goal.invariant-squares
invariant-squares g l = IsLeft g.B.Board.geometry l.position l.fn.side l.left l.initial.text.bytes l.text.bytes
    l.is_first

abbrev pub decreases-squares : goal.decreases-squares
decreases-squares g l = set.len l.left
