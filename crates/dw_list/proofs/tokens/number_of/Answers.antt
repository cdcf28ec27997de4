use Rattle.std.proofs.Common.{◌≡◌, ◌*◌, ◌<◌, sym, ap, ◌∙◌, arith}
use Rattle.std.specs.FinSet as set
use Rattle.dw_list.proofs.TokenBitLemmas.{number_begin, number_with, number_without, number_end, all_squares}
use Rattle.dw_list.proofs.tokens.number_of.Goals.{then-has, else-has}
use Rattle.dw_list.proofs.tokens.number_of.Goals as goal

pub bits-init : goal.bits-init
bits-init g c = number_begin c.args.taken

pub bits-preserved : goal.bits-preserved
bits-preserved g c =
    let all = all_squares g.B.Board.geometry c.ROWS.result c.PER_ROW.result (c.ROWS.ensures ∙ g.met.B.Board.rows_is)
    (c.PER_ROW.ensures ∙ g.met.B.Board.per_row_is) in
    let few : c.bits.index < 64 = omega (arith, all, c.bits-test.true, g.met.B.Board.numbers.squares_high) in
    let here = ap (set.contains c.args.taken) c.square_behind.ensures in
    elim c.if-has.branch [
      | then-has w ↦ w.number-is ∙ number_with c.args.taken c.bits.index c.bits.number few (sym here
          ∙ (sym c.has.ensures ∙ w.if-has.true)) c.bits.invariant
      | else-has w ↦ w.number-is ∙ number_without c.args.taken c.bits.index c.bits.number (sym here
          ∙ (sym c.has.ensures ∙ w.if-has.false)) c.bits.invariant
    ]

pub returns : goal.returns
returns g c =
    let all = all_squares g.B.Board.geometry c.ROWS.result c.PER_ROW.result (c.ROWS.ensures ∙ g.met.B.Board.rows_is)
    (c.PER_ROW.ensures ∙ g.met.B.Board.per_row_is) in
    let end : c.bits.index ≡ c.ROWS.result * c.PER_ROW.result = omega (
      arith,
      c.bits.auto.index-end,
      c.bits-test.false,
    ) in
    number_end g.B.Board.geometry c.args.taken c.bits.index c.bits.number (end ∙ all) c.bits.invariant
