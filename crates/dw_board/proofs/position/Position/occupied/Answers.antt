use Rattle.std.proofs.Common.{◌∙◌, sym, ap, is_some}
use Rattle.std.specs.FinSet as set
use Rattle.dw_board.specs.Placement as of
use Rattle.dw_board.specs.PieceSets.{set_of, cells_of}
use Rattle.dw_board.proofs.SideLemmas.{occupied-members}
use Rattle.dw_board.proofs.position.Position.occupied.Goals as goal

pub returns : goal.returns
returns g c = λ s.
    let sets = set_of c.self.inside.held in
    let members = occupied-members g.B.Board.geometry g.met.B.Board.numbers (cells_of sets) sets c.self.invariant s in
    let same = ap (λ v. set.contains v s) c.occupied.ensures in
    let cell = ap (λ v. is_some (of.at v s)) c.self.view_is in (
      (λ e. let h = members.0 (sym same ∙ e) in (h.0, sym cell ∙ h.1)),
      (λ h. same ∙ members.1 (h.0, cell ∙ h.1)),
    )
