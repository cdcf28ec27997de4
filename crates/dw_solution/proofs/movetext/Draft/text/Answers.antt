use Rattle.std.proofs.Common.{◌∙◌, ◌++◌, ap, arith, length, subst}
use Rattle.dw_board.specs.Placement.{IsPosition}
use Rattle.dw_solution.specs.Movetext.{in_movetext, verdict_comment}
use Rattle.dw_solution.specs.Words.{spaced}
use Rattle.dw_solution.proofs.DraftLemmas.{all_unbroken, comment_unbroken}
use Rattle.dw_solution.proofs.FillLemmas.{written_back}
use Rattle.dw_solution.proofs.movetext.Draft.text.Goals as goal

pub returns : goal.returns
returns g c =
    let draft = c.args.self.now in
    let comment = verdict_comment draft.heading in
    let written = c.in_ok-write_styled.ensures in
    let items = c.write_styled.new.text.items in
    let is = c.as_mut_slice.ensures.value
    ∙ (written.2 ∙ ap (λ z. z ++ spaced in_movetext written.0) c.in_ok-text.ensures) in
    let unbroken = all_unbroken c.written_moves_are_read.ensures.named c.play_stays.ensures g.B.Board.geometry
    g.met.B.Board.numbers draft.first.now c.args.lines written.0
    (subst (λ z. IsPosition g.B.Board.geometry z.cells) c.position.ensures c.keeps_its_rules.ensures) written.1 in
    let filled = c.fill.ensures comment written.0 (comment_unbroken draft.heading) unbroken is in (
      written.0,
      written.1,
      written_back c.write_styled.new.text.len c.fill.new.text items (omega arith)
          (omega (arith, ap length c.as_mut_slice.ensures.value)) ∙ filled,
    )
