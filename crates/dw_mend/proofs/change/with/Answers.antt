use Rattle.std.proofs.Common.{sym, ap, subst, arith}
use Rattle.std.specs.Prelude.{◌≤◌, is_some}
use Rattle.dw_board.specs.Placement.{IsPosition}
use Rattle.dw_mend.proofs.ChangeLemmas.{no_position}
use Rattle.dw_mend.proofs.change.with.Goals as goal

pub returns-in-Err : goal.returns-in-Err
returns-in-Err g c = λ q is.
    let geo = g.B.Board.geometry in
    let p = c.args.position.now in
    let board = c.at.ensures.on_board in let many = g.met.B.Board.numbers.squares_high in
    let high : c.args.square ≤ 50 = omega (arith, board.1, many) in
    no_position geo p c.args.square c.args.piece c.keeps_its_rules.ensures.fifty board.0 high is.0.0
    (sym (ap (λ o. is_some o) c.in-Err.ensures.fault)) (subst (λ z. IsPosition geo z.cells) is.0.1 is.1)
