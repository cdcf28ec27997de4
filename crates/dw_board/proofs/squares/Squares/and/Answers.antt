use Rattle.std.proofs.Common.{ap, ◌∙◌}
use Rattle.std.specs.FinSet as set
use Rattle.dw_board.specs.SquareSet.{squares_of}
use Rattle.dw_board.proofs.SetLemmas.{OnlySquares-and_left, squares_of-and}
use Rattle.dw_board.proofs.squares.Squares.and.Goals as goal

pub invariant_of-result : goal.invariant_of-result
invariant_of-result g c = record {
  board = c.self.invariant.board;
  only = OnlySquares-and_left g.B.Board.geometry c.self.inside.word c.other.inside.word c.self.invariant.only;
}

pub returns : goal.returns
returns g c = squares_of-and g.B.Board.geometry c.self.inside.word c.other.inside.word
    ∙ (ap (λ v. set.intersection v (squares_of g.B.Board.geometry c.other.inside.word)) c.self.view_is
    ∙ ap (λ v. set.intersection c.args.self v) c.other.view_is)
