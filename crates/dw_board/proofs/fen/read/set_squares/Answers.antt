use Rattle.std.proofs.Common.{◌≡◌, ◌+◌, ◌-◌, ◌<◌, Some, is_ok, cond, sym, ◌∙◌, ap, arith}
use Rattle.std.specs.Result.{result_err}
use Rattle.dw_board.specs.Placement.{placed}
use Rattle.dw_board.specs.Fen.{set_squares, fault}
use Rattle.dw_board.proofs.FenStageLemmas.{squares_go, squares_stop, squares_done}
use Rattle.dw_board.proofs.fen.read.set_squares.Goals as goal

pub squares-init : goal.squares-init
squares-init g c = record {
  low = omega (arith, c.number-number.ensures.value);
  same = ap (λ n. set_squares g.B.Board.geometry c.args.piece c.args.place n (c.args.to + 1 - n) c.args.position.now)
      (sym c.number-number.ensures.value);
}

pub squares-preserved : goal.squares-preserved
squares-preserved g c =
    let some : 0 < c.args.to + 1 - c.squares.number = omega (
      arith,
      c.squares-test.true,
      c.number-number-end.ensures.value,
    ) in
    let less : c.args.to + 1 - c.squares.number - 1 ≡ c.args.to + 1 - (c.squares.number + 1) = omega arith in
    record {
      low = omega (arith, c.squares.invariant.low);
      same = c.squares.invariant.same
          ∙ (squares_go g.B.Board.geometry 0 c.args.piece c.args.place c.squares.number _ c.in-Some.square
          c.squares.position c.put.new.self some c.in-Some.ensures.1
          (sym c.put.ensures.fault ∙ ap result_err c.in_default-put.is)
          (c.put.ensures.after ∙ ap (λ r. cond (is_ok r) (placed c.squares.position c.in-Some.square
          (Some c.args.piece)) c.squares.position) c.in_default-put.is)
          ∙ ap (λ n. set_squares g.B.Board.geometry c.args.piece c.args.place (c.squares.number + 1) n c.put.new.self)
          less);
    }

pub returns : goal.returns
returns g c =
    c.squares.invariant.same ∙ squares_done g.B.Board.geometry 0 c.args.piece c.args.place c.squares.number _
    c.squares.position (omega (arith, c.squares-test.false, c.number-number-end.ensures.value))

pub returns-in-Err : goal.returns-in-Err
returns-in-Err g c =
    let some : 0 < c.args.to + 1 - c.squares.number = omega (
      arith,
      c.squares-test.true,
      c.number-number-end.ensures.value,
    ) in
    c.squares.invariant.same
    ∙ (squares_stop g.B.Board.geometry 0 c.args.piece c.args.place c.squares.number _ c.in-Some.square
    c.squares.position c.in-Err.why some c.in-Some.ensures.1
    (sym c.put.ensures.fault ∙ ap result_err c.in-Err.is)
    ∙ ap (λ k. fault k c.args.place) (sym c.put_kind.ensures))
