use Rattle.std.proofs.Common.{append_assoc, subst}
use Rattle.dw_page.specs.Pages.{moves_row}
use Rattle.dw_page.specs.SolutionMoves.{AreMovesShown}
use Rattle.dw_page.proofs.page.push_moves_row.Goals as goal

pub returns : goal.returns
unfolding moves_row
returns g c =
    let shown = c.in_ok-push_moves.ensures in (
      shown.0,
      subst (λ m. AreMovesShown g.B.Board.geometry m c.args.solution.now.first.now c.args.solution.now.lines shown.0)
          c.phrase.ensures shown.1,
      rw (c.in_ok-push_all-2.ensures, shown.2, c.in_ok-push_all.ensures, c.phrase-label.ensures) (simp append_assoc),
    )
