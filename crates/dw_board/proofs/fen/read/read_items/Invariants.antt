use Rattle.std.proofs.Common.{◌≡◌, Bool, length}
use Rattle.dw_board.specs.inner.FenReader.{tokens_of, end_of}
use Rattle.dw_board.specs.Fen.{read_from, AfterComma}
use Rattle.dw_board.specs.inner.FenReading.{listing}
use Rattle.dw_board.proofs.fen.read.read_items.Given as goal

abbrev pub invariant-items : goal.invariant-items
invariant-items g l = record {
  same : (second : Bool) → read_from g.B.Board.geometry (end_of l.initial.tokens)
      (AfterComma (listing l.side second l.initial.position)) (tokens_of l.initial.tokens)
      ≡ read_from g.B.Board.geometry (end_of l.initial.tokens) (AfterComma (listing l.side second l.position))
      (tokens_of l.tokens);
  end : end_of l.tokens ≡ end_of l.initial.tokens;
}

abbrev pub decreases-items : goal.decreases-items
decreases-items g l = length (tokens_of l.tokens)
