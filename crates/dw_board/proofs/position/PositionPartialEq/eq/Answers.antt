use Rattle.std.proofs.Common.{◌∙◌, ◌&&◌, ap, sym}
use Rattle.std.proofs.lemmas.Bool.{eq-eqb}
use Rattle.dw_board.specs.inner.PlacementLemmas.{same}
use Rattle.dw_board.specs.inner.PieceSetLemmas.{same_sets}
use Rattle.dw_board.proofs.PieceSetLemmas.{same_kept, kept_placement}
use Rattle.dw_board.proofs.position.PositionPartialEq.eq.Goals as goal

pub returns-then-side_number : goal.returns-then-side_number
returns-then-side_number g c =
    let one = c.self.inside in
    let other = c.other.inside in
    let codes = sym c.side_number.ensures ∙ (c.if-side_number.true ∙ c.side_number-2.ensures) in
    c.is_same.ensures ∙ (ap (λ b. b && same_sets one.held other.held) (sym (eq-eqb _ _ codes))
    ∙ (same_kept g.B.Board.geometry _ one.held other.held one.turn other.turn c.self.invariant c.other.invariant
    ∙ (ap (λ v. same v (kept_placement other.held other.turn)) c.self.view_is
    ∙ ap (λ v. same c.args.self.now v) c.other.view_is)))
