use Rattle.std.proofs.Common.{sym, subst, map}
use Rattle.dw_notation.specs.Text.{IsLineText}
use Rattle.dw_notation.proofs.LineWrittenLemmas.{written_line}
use Rattle.dw_notation.proofs.line_text.LineText.as_str.Goals as goal

pub returns-clause-text : goal.returns-clause-text
returns-clause-text g c =
    let geo = g.B.Board.geometry in
    let t = c.self.inside in
    let bytes = c.as_str.result.now in
    subst (λ v. IsLineText geo v.start v.moves bytes) c.self.view_is
    (subst (IsLineText geo t.start (map (λ x. x.mv) t.plies.items)) (sym c.as_str.ensures.value)
    (written_line geo t.start t.plies.items t.text.bytes c.self.invariant))
