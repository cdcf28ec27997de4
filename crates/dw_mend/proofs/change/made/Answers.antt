use Rattle.std.proofs.Common.{◌≤◌, sym, subst, arith}
use Rattle.std.specs.Prelude.{MatchOption}
use Rattle.dw_board.specs.Placement.{Placement}
use Rattle.dw_mend.specs.Changes.{with_piece, IsNeighbour}
use Rattle.std.proofs.lemmas.Bool.{true≢false}
use Rattle.dw_mend.proofs.ChangeLemmas.{made_so}
use Rattle.dw_mend.proofs.change.made.Goals as goal

pub returns : goal.returns
returns g c =
    let geo = g.B.Board.geometry in
    let p = c.args.position.now in
    let board = c.at.ensures.on_board in
    let many = g.met.B.Board.numbers.squares_high in
    let high : c.args.square ≤ 50 = omega (arith, board.1, many) in
    let piece = c.in_ok-piece.piece in
    made_so geo p c.args.square c.args.kind piece c.with.result c.keeps_its_rules.ensures.fifty board.0 high
    (sym c.in_ok-piece.ensures.value) (λ e. true≢false (sym (c.if-is_same.ensures.1 e)))
    (subst (λ z. MatchOption c.with.result
    ((q : Placement) → IsNeighbour geo z (with_piece c.args.square (record { side = piece.side; kind = c.args.kind })) q
    → ⊥) (λ q. IsNeighbour geo z (with_piece c.args.square (record { side = piece.side; kind = c.args.kind })) q))
    c.clear.ensures.after c.with.ensures)
