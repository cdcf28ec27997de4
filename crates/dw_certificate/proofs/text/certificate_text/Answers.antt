use Rattle.std.proofs.Common.{◌∙◌, sym}
use Rattle.dw_certificate.specs.CertificateText.{lines_text, head_lines}
use Rattle.dw_certificate.proofs.TextLemmas.{text_more, text_whole}
use Rattle.dw_certificate.proofs.text.certificate_text.Goals as goal

pub rows-preserved : goal.rows-preserved
rows-preserved g c =
    let geo = g.B.Board.geometry in
    text_more geo c.args.certificate.now.win c.args.certificate.now.rows.entries c.rows.index c.in-Some.row.0
    c.in-Some.row.1 c.bounds_of.result
    (lines_text (head_lines geo c.args.position.now c.args.moves c.args.certificate.now.win))
    c.rows.text.items c.extend_from_slice.new.self.items c.as_bytes-in-Some.result.now
    (sym c.row_at.ensures.row ∙ c.in-Some.is) c.rows.invariant
    c.in_ok-extend_from_slice.ensures.items
    (c.as_bytes-in-Some.ensures.value ∙ c.in_ok-line.ensures) c.bounds_of.ensures

pub returns : goal.returns
returns g c = text_whole g.B.Board.geometry c.args.position.now c.args.moves c.args.certificate.now.win
    c.args.certificate.now.rows.entries c.rows.index c.rows.text.items
    (sym c.row_at.ensures.row ∙ c.in_default.is) c.rows.invariant
