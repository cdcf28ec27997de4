use Rattle.std.proofs.Common.{◌≡◌, ◌+◌, ◌<◌, ◌++◌, ℕ, List, Bool, IfSome, drop, length, option_to_list, subst, sym}
use Rattle.dw_board.specs.Geometry.{Geometry}
use Rattle.dw_notation.specs.inner.HeldSection.{sections_ahead, sections_cut}
use Rattle.dw_notation.specs.inner.Pieces.{pieces_ahead}
use Rattle.dw_notation.proofs.EndingLemmas.{ended_rest}
use Rattle.dw_notation.proofs.problems.reader.Pieces.cut.Goals as goal

pub returns-in-InSections-clause-some : goal.returns-in-InSections-clause-some
returns-in-InSections-clause-some c =
    let bytes = c.args.bytes.now in
    let new = c.cut-in-InSections.new.self in
    subst (λ p. IfSome c.cut-in-InSections.result (λ k. (k < length bytes) × ((g : Geometry) (at_end : Bool) (more :
    List ℕ) → pieces_ahead at_end g p (bytes ++ more)
    ≡ option_to_list (sections_cut g new) ++ sections_ahead at_end g new (drop (k + 1) bytes ++ more))))
    (sym c.in-InSections.is)
    (ended_rest c.in-InSections.sections new bytes c.cut-in-InSections.result c.cut-in-InSections.ensures.some)
