use Rattle.std.proofs.Common.{◌∙◌, ap, sym}
use Rattle.std.proofs.lemmas.Bool.{eqb-true, eq-eqb}
use Rattle.dw_board.specs.SquareSet.{squares_of}
use Rattle.dw_board.proofs.SetLemmas.{squares_of-empty, word-zero}
use Rattle.dw_board.proofs.squares.Squares.is_empty.Goals as goal

pub returns : goal.returns
returns g c =
    let board = g.B.Board.geometry in (
      (λ e. sym c.self.view_is ∙ (ap (squares_of board) (eqb-true _ _ e) ∙ squares_of-empty board)),
      (λ h. eq-eqb _ _ (word-zero board c.self.invariant.board c.self.inside.word c.self.invariant.only (c.self.view_is
          ∙ h))),
    )
