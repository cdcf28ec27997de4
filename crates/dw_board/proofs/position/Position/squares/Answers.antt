use Rattle.std.proofs.Common.{◌∙◌, sym, ap}
use Rattle.std.specs.FinSet as set
use Rattle.dw_board.specs.Placement as of
use Rattle.dw_board.specs.PieceSets.{set_of, cells_of}
use Rattle.dw_board.specs.inner.PieceSetLemmas.{standing-members}
use Rattle.dw_board.proofs.position.Position.squares.Goals as goal

pub returns : goal.returns
returns g c = λ s.
    let is = c.self.invariant in
    let here = standing-members g.B.Board.geometry g.met.B.Board.numbers (cells_of (set_of c.self.inside.held))
    is.position c.args.side c.args.kind s in
    let same = ap (λ v. set.contains v s) (is.standing_is c.args.side c.args.kind ∙ sym c.of.ensures) in
    let cell = ap (λ v. of.at v s) c.self.view_is in (
      (λ e. let h = here.0 (same ∙ e) in (h.0, sym cell ∙ h.1)),
      (λ h. sym same ∙ here.1 (h.0, cell ∙ h.1)),
    )
