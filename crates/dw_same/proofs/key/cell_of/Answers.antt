use Rattle.std.proofs.Common.{◌≡◌, ◌∙◌, sym, subst}
use Rattle.dw_board.specs.Placement.{at}
use Rattle.dw_same.specs.inner.Keys.{with_white_to_move}
use Rattle.dw_same.proofs.TurnLemmas.{turned_cell}
use Rattle.dw_same.proofs.key.cell_of.Goals as goal

pub returns-in-Black : goal.returns-in-Black
returns-in-Black g c =
    let geo = g.B.Board.geometry in
    let p = c.args.position.now in
    subst (λ side. c.turned_at.result ≡ at (with_white_to_move geo p side) c.args.number)
    (sym c.in-Black.is ∙ c.turn.ensures.value)
    (c.turned_at.ensures ∙ sym (turned_cell geo p c.args.number c.requires.low c.requires.high))
