use Rattle.std.proofs.Common.{◌∙◌, ◌≡◌, ◌+◌, ◌-◌, ◌/◌, ap, sym, arith}
use Rattle.dw_board.proofs.SetLemmas.{IsPlace-bit, square_behind}
use Rattle.dw_board.proofs.square.Square.behind.Goals as goal

pub invariant_of-result : goal.invariant_of-result
invariant_of-result g c =
    let i = c.args.index in
    let at : i + 1 - 1 ≡ i = omega arith in
    let place = ap (λ r. i + i / r) (c.ROWS.ensures ∙ g.met.B.Board.rows_is) ∙ ap (λ k. k + k / g.B.Board.geometry.rows)
    (sym at) in
    IsPlace-bit g.B.Board.geometry g.met.B.Board.numbers (i + 1) _ (omega arith, omega arith) place

pub returns : goal.returns
returns g c =
    let i = c.args.index in
    let at : i + 1 - 1 ≡ i = omega arith in
    let place = ap (λ r. i + i / r) (c.ROWS.ensures ∙ g.met.B.Board.rows_is) ∙ ap (λ k. k + k / g.B.Board.geometry.rows)
    (sym at) in
    square_behind g.B.Board.geometry g.met.B.Board.numbers (i + 1) _ (omega arith, omega arith) place
