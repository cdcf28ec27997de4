use Rattle.std.proofs.Common.{◌∙◌, ap, subst}
use Rattle.dw_notation.specs.LineTexts.{LineFrom}
use Rattle.dw_notation.specs.Text.{IsLineText}
use Rattle.dw_notation.proofs.LineWrittenLemmas.{written_line}
use Rattle.dw_notation.proofs.line_text.line_text.Goals as goal

pub returns : goal.returns
returns g c =
    let geo = g.B.Board.geometry in
    let t = c.text.inside in
    let moves = c.args.moves.now in
    let start = ap (λ (v : LineFrom). v.start) c.text.view_is ∙ (c.switch_to.ensures.start
    ∙ ap (λ (v : LineFrom). v.start) c.new-text.ensures) in
    let same = ap (λ (v : LineFrom). v.moves) c.text.view_is ∙ c.in_ok-switch_to.ensures.moves in
    subst (λ z. IsLineText geo z moves t.text.bytes) start
    (subst (λ z. IsLineText geo t.start z t.text.bytes) same
    (written_line geo t.start t.plies.items t.text.bytes c.text.invariant))
