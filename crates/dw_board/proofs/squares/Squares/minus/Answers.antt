use Rattle.std.proofs.Common.{ap, ◌∙◌}
use Rattle.std.specs.FinSet as set
use Rattle.dw_board.specs.SquareSet.{squares_of}
use Rattle.dw_board.proofs.SetLemmas.{OnlySquares-not, squares_of-minus}
use Rattle.dw_board.proofs.CountingLemmas.{word-fits}
use Rattle.dw_board.proofs.squares.Squares.minus.Goals as goal

pub invariant_of-result : goal.invariant_of-result
invariant_of-result g c = record {
  board = c.self.invariant.board;
  only = OnlySquares-not g.B.Board.geometry c.self.inside.word c.other.inside.word c.self.invariant.only;
}

pub returns : goal.returns
returns g c = squares_of-minus g.B.Board.geometry c.self.invariant.board c.self.inside.word c.other.inside.word
    (word-fits g.B.Board.geometry c.other.invariant.board c.other.inside.word c.other.invariant.only)
    ∙ (ap (λ v. set.difference v (squares_of g.B.Board.geometry c.other.inside.word)) c.self.view_is
    ∙ ap (λ v. set.difference c.args.self v) c.other.view_is)
