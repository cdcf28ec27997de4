use Rattle.std.proofs.Common.{◌∙◌, ap, refl, sym}
use Rattle.dw_board.specs.SquareSet.{squares_of}
use Rattle.dw_board.proofs.SetLemmas.{squares_of-empty, OnlySquares-and_left}
use Rattle.dw_board.proofs.CountingLemmas.{least-is, least-place, least-some}
use Rattle.dw_board.proofs.LowestLemmas.{rest-is}
use Rattle.dw_board.proofs.squares.Squares.split.Goals as goal

pub of_bit-square-requires : goal.of_bit-square-requires
of_bit-square-requires g c = least-place g.B.Board.geometry c.self.invariant.board c.self.inside.word
    c.self.invariant.only c.if-self-eq0.false

pub invariant_of-rest : goal.invariant_of-rest
invariant_of-rest g c = record {
  board = c.self.invariant.board;
  only = OnlySquares-and_left g.B.Board.geometry c.self.inside.word _ c.self.invariant.only;
}

pub returns-then-self-eq0-clause-none : goal.returns-then-self-eq0-clause-none
returns-then-self-eq0-clause-none g c = (
  λ h. sym c.self.view_is
      ∙ (ap (squares_of g.B.Board.geometry) c.if-self-eq0.true ∙ squares_of-empty g.B.Board.geometry),
  λ h. refl,
)

pub returns-clause-none : goal.returns-clause-none
returns-clause-none g c =
    let is = least-is g.B.Board.geometry c.self.invariant.board c.self.inside.word c.args.self c.self.view_is
    c.self.invariant.only c.if-self-eq0.false in
    (λ h. cc, λ h. absurd (least-some g.B.Board.geometry c.args.self _ is h))

pub returns-clause-member : goal.returns-clause-member
returns-clause-member g c =
    let is = least-is g.B.Board.geometry c.self.invariant.board c.self.inside.word c.args.self c.self.view_is
    c.self.invariant.only c.if-self-eq0.false in
    rw c.of_bit-square.ensures is.has

pub returns-clause-least : goal.returns-clause-least
returns-clause-least g c =
    let is = least-is g.B.Board.geometry c.self.invariant.board c.self.inside.word c.args.self c.self.view_is
    c.self.invariant.only c.if-self-eq0.false in
    rw c.of_bit-square.ensures is.least

pub returns-clause-on_board : goal.returns-clause-on_board
returns-clause-on_board g c =
    let is = least-is g.B.Board.geometry c.self.invariant.board c.self.inside.word c.args.self c.self.view_is
    c.self.invariant.only c.if-self-eq0.false in
    rw c.of_bit-square.ensures is.on

pub returns-clause-rest : goal.returns-clause-rest
returns-clause-rest g c = rw c.of_bit-square.ensures (rest-is g.B.Board.geometry c.self.invariant.board
    c.self.inside.word c.args.self c.self.view_is c.self.invariant.only c.if-self-eq0.false)
