use Rattle.std.proofs.Common.{◌≡◌, ◌*◌, ◌∙◌, sym, ap, arith}
use Rattle.dw_board.specs.Geometry.{squares}
use Rattle.dw_board.specs.Placement.{on_last_row}
use Rattle.dw_board.proofs.StepLemmas.{row_fits, in_last_row}
use Rattle.dw_board.proofs.square.on_last_row.Goals as goal

pub behind-requires : goal.behind-requires
behind-requires g c =
    let b = g.met.B.Board.numbers in
    let few = c.PER_ROW.ensures ∙ g.met.B.Board.per_row_is in
    omega (arith, few, row_fits g.B.Board.geometry b, b.low)

pub overflow_sub-ROWS : goal.overflow_sub-ROWS
overflow_sub-ROWS g c =
    let geo = g.B.Board.geometry in
    let met = g.met.B.Board in
    let all : c.ROWS.result * c.PER_ROW-in-Black.result ≡ squares geo =
    ap (λ r. r * c.PER_ROW-in-Black.result) (c.ROWS.ensures ∙ met.rows_is)
    ∙ ap (λ n. geo.rows * n) (c.PER_ROW-in-Black.ensures ∙ met.per_row_is) in
    let few = c.PER_ROW-in-Black-2.ensures ∙ met.per_row_is in
    omega (arith, all, few, row_fits geo met.numbers)

pub returns-in-Black : goal.returns-in-Black
returns-in-Black g c =
    let geo = g.B.Board.geometry in
    let met = g.met.B.Board in
    let all : c.ROWS.result * c.PER_ROW-in-Black.result ≡ squares geo =
    ap (λ r. r * c.PER_ROW-in-Black.result) (c.ROWS.ensures ∙ met.rows_is)
    ∙ ap (λ n. geo.rows * n) (c.PER_ROW-in-Black.ensures ∙ met.per_row_is) in
    let few = c.PER_ROW-in-Black-2.ensures ∙ met.per_row_is in
    c.le-in-Black.ensures
    ∙ (in_last_row c.behind-in-Black.result c.args.square (squares geo) geo.per_row
    (omega (arith, c.behind-in-Black.ensures, all, few, row_fits geo met.numbers))
    ∙ ap (λ side. on_last_row geo side c.args.square) (sym c.in-Black.is))
