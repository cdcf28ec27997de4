use Rattle.std.proofs.Common.{arith}
use Rattle.dw_board.proofs.FenLawLemmas.{short_is_grammar, short_fault_is_grammar, long_fault_is_grammar}
use Rattle.dw_board.proofs.fen.read.read_fen.Goals as goal

pub returns-clause-grammar : goal.returns-clause-grammar
returns-clause-grammar g c = short_is_grammar g.B.Board.geometry c.args.text.now c.read_short_fen.result (omega arith)
    c.read_short_fen.ensures

pub returns-clause-fault : goal.returns-clause-fault
returns-clause-fault g c = short_fault_is_grammar g.B.Board.geometry c.args.text.now c.read_short_fen.result (omega
    arith) c.read_short_fen.ensures

pub returns-then-text-gt-MAX_FEN-clause-fault : goal.returns-then-text-gt-MAX_FEN-clause-fault
returns-then-text-gt-MAX_FEN-clause-fault g c = long_fault_is_grammar g.B.Board.geometry c.args.text.now
    c.if-text-gt-MAX_FEN.true
