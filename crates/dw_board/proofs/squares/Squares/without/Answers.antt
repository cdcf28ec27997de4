use Rattle.std.proofs.Common.{ap, ◌∙◌, bit_and, ◌*◌, ◌^◌, ◌%◌, w64}
use Rattle.std.specs.Int.{bit_not}
use Rattle.std.specs.FinSet as set
use Rattle.dw_board.specs.SquareSet.{squares_of}
use Rattle.dw_board.proofs.SetLemmas.{OnlySquares-not, squares_of-without}
use Rattle.dw_board.proofs.squares.Squares.without.Goals as goal

pub invariant_of-result : goal.invariant_of-result
invariant_of-result g c = record {
  board = c.self.invariant.board;
  only = OnlySquares-not g.B.Board.geometry c.self.inside.word _ c.self.invariant.only;
}

pub returns : goal.returns
returns g c =
    ap (λ k. squares_of g.B.Board.geometry (bit_and c.self.inside.word (bit_not w64 (1 * 2 ^ k % 2 ^ 64))))
    c.place.ensures.value
    ∙ (squares_of-without g.B.Board.geometry c.self.invariant.board c.self.inside.word c.args.square
    c.place.ensures.on_board
    ∙ ap (λ v. set.remove v c.args.square) c.self.view_is)
