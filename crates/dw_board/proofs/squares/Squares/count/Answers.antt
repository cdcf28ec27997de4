use Rattle.std.proofs.Common.{ap, ◌∙◌, arith}
use Rattle.std.specs.FinSet as set
use Rattle.dw_board.proofs.CountingLemmas.{ones-is, len-squares_of}
use Rattle.dw_board.proofs.squares.Squares.count.Goals as goal

pub returns-clause-value : goal.returns-clause-value
returns-clause-value g c = ones-is g.B.Board.geometry c.self.invariant.board c.self.inside.word c.self.invariant.only
    ∙ ap set.len c.self.view_is

pub returns-clause-small : goal.returns-clause-small
returns-clause-small g c = omega (
  arith,
  ones-is g.B.Board.geometry c.self.invariant.board c.self.inside.word c.self.invariant.only,
  len-squares_of g.B.Board.geometry c.self.inside.word,
  c.self.invariant.board.squares_high,
)
