use Rattle.std.proofs.Common.{◌≡◌, ◌++◌, ◌-◌, ◌^◌, take}
use Rattle.dw_certificate.specs.CertificateText.{lines_text, head_lines}
use Rattle.dw_certificate.proofs.TextLemmas.{rows_text}
use Rattle.dw_certificate.proofs.text.certificate_text.Given as goal

abbrev pub invariant-rows : goal.invariant-rows
invariant-rows g l = l.text.items ≡ lines_text (head_lines g.B.Board.geometry l.position l.moves l.certificate.win)
    ++ rows_text g.B.Board.geometry l.certificate.win (take l.index l.certificate.rows.entries)

abbrev pub decreases-rows : goal.decreases-rows
decreases-rows g l = 2 ^ 64 - l.index
