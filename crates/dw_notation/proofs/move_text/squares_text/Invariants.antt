use Rattle.dw_notation.proofs.MoveTextLemmas.{WrittenTo}
use Rattle.dw_notation.proofs.move_text.squares_text.Given as goal

abbrev pub invariant-rest : goal.invariant-rest
invariant-rest g l = WrittenTo l.mark l.squares l.rest l.square-index l.text.bytes
