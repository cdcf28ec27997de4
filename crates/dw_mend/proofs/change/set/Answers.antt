use Rattle.std.proofs.Common.{◌∙◌, sym, ap, subst}
use Rattle.std.specs.Prelude.{MatchOption, is_some}
use Rattle.dw_board.specs.Placement.{Placement}
use Rattle.dw_mend.specs.Changes.{with_piece, IsNeighbour}
use Rattle.dw_mend.proofs.ChangeLemmas.{set_so, is_free}
use Rattle.dw_mend.proofs.change.set.Goals as goal

pub returns : goal.returns
returns g c =
    let geo = g.B.Board.geometry in
    let p = c.args.position.now in
    let piece = c.in_ok-piece.piece in
    set_so geo p c.args.from c.args.to piece c.with.result c.at-2.ensures.on_board.0 c.at.ensures.on_board.0
    (sym c.in_ok-piece.ensures.value) (is_free _ (ap is_some (sym c.at.ensures.value) ∙ sym c.if-is_some.ensures))
    (subst (λ z. MatchOption c.with.result
    ((q : Placement) → IsNeighbour geo z (with_piece c.args.to piece) q → ⊥)
    (λ q. IsNeighbour geo z (with_piece c.args.to piece) q)) c.clear.ensures.after c.with.ensures)
