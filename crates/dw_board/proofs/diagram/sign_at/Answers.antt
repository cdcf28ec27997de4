use Rattle.std.proofs.Common.{ap, ◌∙◌, ◌+◌, ◌*◌, ◌/◌}
use Rattle.dw_board.proofs.SignLemmas.{dark_sign}
use Rattle.dw_board.proofs.diagram.sign_at.Goals as goal

pub returns-else-row-column-eq0-clause-value : goal.returns-else-row-column-eq0-clause-value
returns-else-row-column-eq0-clause-value g c = λ p are.
    let signs = c.args.signs.now in
    let row = c.args.row in
    let column = c.args.column in
    let per_row = c.PER_ROW.ensures ∙ g.met.B.Board.per_row_is in
    dark_sign g.B.Board.geometry p signs.occupied signs.white signs.kings row column c.behind.result c.at.result are
    c.at.ensures.on_board c.at.ensures.value
    (c.behind.ensures ∙ ap (λ n. row * n + column / 2 + 1) per_row) c.if-row-column-eq0.false
