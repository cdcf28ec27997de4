use Rattle.dw_list.proofs.TokenWritingLemmas.{IsWrittenTo}
use Rattle.dw_list.proofs.tokens.bytes_of.Given as goal

abbrev pub invariant-line : goal.invariant-line
invariant-line g l = IsWrittenTo g.B.Board.geometry l.line l.bytes.items l.mv-index
