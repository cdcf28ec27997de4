use Rattle.std.proofs.Common.{Some, None, ◌∙◌}
use Rattle.dw_board.proofs.StepLemmas.{same_row, same_column, past_rows, next_of_both}
use Rattle.dw_board.proofs.board.Board.neighbour.Goals as goal

pub returns-in_err-next_row-clause-leads : goal.returns-in_err-next_row-clause-leads
returns-in_err-next_row-clause-leads g c = λ _.
    let geo = g.Self.Board.geometry in
    let met = g.met.Self.Board in
    c.from_residual.ensures
    ∙ past_rows geo c.args.square c.args.direction
    (same_row geo c.args.square c.ROWS-2.result c.PER_ROW-2.result c.args.direction c.is_down.result c.moved.result None
    c.is_down.ensures (c.ROWS-2.ensures ∙ met.rows_is) (c.PER_ROW-2.ensures ∙ met.per_row_is) c.in_err-next_row.was
    c.moved.ensures.place)

pub returns-clause-leads : goal.returns-clause-leads
returns-clause-leads g c = λ _.
    let geo = g.Self.Board.geometry in
    let met = g.met.Self.Board in
    let few = c.PER_ROW-2.ensures ∙ met.per_row_is in
    let next_row = c.in_ok-next_row.next_row in
    let next_column = c.in_ok-next_column.next_column in
    next_of_both geo c.args.square next_row next_column c.PER_ROW-5.result c.number_at.result c.args.direction
    (same_row geo c.args.square c.ROWS-2.result c.PER_ROW-2.result c.args.direction c.is_down.result c.moved.result
    (Some next_row) c.is_down.ensures (c.ROWS-2.ensures ∙ met.rows_is) few c.in_ok-next_row.was c.moved.ensures.place)
    (same_column geo c.args.square c.PER_ROW-2.result c.PER_ROW-3.result c.PER_ROW-4.result c.args.direction
    c.is_right.result c.moved-2.result (Some next_column) c.is_right.ensures few (c.PER_ROW-3.ensures ∙ met.per_row_is)
    (c.PER_ROW-4.ensures ∙ met.per_row_is) c.in_ok-next_column.was c.moved-2.ensures.place)
    (c.PER_ROW-5.ensures ∙ met.per_row_is) c.number_at.ensures
