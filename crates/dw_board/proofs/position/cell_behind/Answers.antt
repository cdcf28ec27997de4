use Rattle.std.proofs.Common.{◌∙◌, ◌≡◌, ◌+◌, ◌-◌, ap, sym, arith, None, get_or, inl, inr}
use Rattle.std.proofs.lemmas.Bool.{cases_lt}
use Rattle.dw_board.specs.Geometry.{squares}
use Rattle.dw_board.specs.PieceSets.{set_of, held_at, cells_of}
use Rattle.dw_board.proofs.PieceSetLemmas.{cell_of}
use Rattle.dw_board.proofs.position.cell_behind.Goals as goal

pub returns-in_err-new : goal.returns-in_err-new
returns-in_err-new g c =
    let i = c.args.index in
    let at : i + 1 - 1 ≡ i = omega arith in
    let cells = cells_of (set_of c.position.inside.held) in
    c.from_residual.ensures ∙ (sym (elim (cases_lt (squares g.B.Board.geometry) (i + 1)) [
      | inl past ↦ c.position.invariant.position.on_board (i + 1) past
      | inr on ↦ absurd (c.in_err-new.ensures (omega arith, on))
    ]) ∙ (ap (λ k. get_or cells k None) at ∙ ap (λ v. get_or v.cells i None) c.position.view_is))

pub returns : goal.returns
returns g c =
    let i = c.args.index in
    let at : i + 1 - 1 ≡ i = omega arith in
    let sets = set_of c.position.inside.held in
    c.at.ensures ∙ (ap (held_at sets) c.in_ok-new.ensures.1 ∙ (sym (cell_of sets (i + 1) (omega arith) (omega arith))
    ∙ (ap (λ k. get_or (cells_of sets) k None) at ∙ ap (λ v. get_or v.cells i None) c.position.view_is)))
