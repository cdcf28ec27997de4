use Rattle.std.proofs.Common.{sym, ap, ◌∙◌, bit_and}
use Rattle.std.specs.FinSet as set
use Rattle.dw_board.specs.SquareSet.{squares_of}
use Rattle.dw_board.proofs.SetLemmas.{OnlySquares-and, contains-shifted}
use Rattle.dw_board.proofs.squares.Squares.shifted.Goals as goal

pub invariant_of-result : goal.invariant_of-result
invariant_of-result g c = record {
  board = c.self.invariant.board;
  only = OnlySquares-and g.B.Board.geometry c.shifted_word.result c.WORD.result
      (rw c.WORD.ensures g.met.B.Board.word_is.only);
}

pub returns : goal.returns
returns g c = λ t.
    let e = ap (λ n. set.contains (squares_of g.B.Board.geometry (bit_and n c.WORD.result)) t) c.shifted_word.ensures in
    let h = contains-shifted g.B.Board.geometry c.self.invariant.board g.met.B.Board.shifts c.self.inside.word
    c.WORD.result c.args.direction c.self.invariant.only (rw c.WORD.ensures g.met.B.Board.word_is) t in (
      (λ p. let q = h.0 (sym e ∙ p) in (q.0, (sym (ap (λ v. set.contains v q.0) c.self.view_is) ∙ q.1.0, q.1.1))),
      λ q. e ∙ h.1 (q.0, (ap (λ v. set.contains v q.0) c.self.view_is ∙ q.1.0, q.1.1)),
    )
