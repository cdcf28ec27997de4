use Rattle.std.proofs.Common.{◌∙◌, sym, ap}
use Rattle.std.specs.FinSet as set
use Rattle.dw_board.specs.Placement as of
use Rattle.dw_board.specs.PieceSets.{set_of, cells_of}
use Rattle.dw_board.proofs.SideLemmas.{side-members}
use Rattle.dw_board.proofs.position.Position.all_of.Goals as goal

pub returns : goal.returns
returns g c = λ s.
    let sets = set_of c.self.inside.held in
    let members = side-members g.B.Board.geometry g.met.B.Board.numbers (cells_of sets) sets c.self.invariant
    c.args.side s in
    let same = ap (λ v. set.contains v s) c.all_of.ensures in
    let cell = ap (λ v. of.is_of c.args.side (of.at v s)) c.self.view_is in (
      (λ e. let h = members.0 (sym same ∙ e) in (h.0, sym cell ∙ h.1)),
      (λ h. same ∙ members.1 (h.0, cell ∙ h.1)),
    )
