use Rattle.std.proofs.Common.{decimal, ap, ◌∙◌}
use Rattle.std.proofs.lemmas.Result.{IfOk-weaker}
use Rattle.dw_certificate.proofs.TextLemmas.{head_is}
use Rattle.dw_certificate.proofs.text.head.Goals as goal

pub returns : goal.returns
returns g c = IfOk-weaker c.concat.result _ _
    (λ t e. e ∙ head_is g.B.Board.geometry c.args.position.now c.args.moves c.args.win c.format.result.now
    c.as_str.result.now c.answer.result.now c.format-2.result.now
    (c.format.ensures.text ∙ ap decimal (c.ROWS.ensures ∙ g.met.B.Board.rows_is))
    (c.as_str.ensures.value ∙ c.fen_text-fen.ensures) c.answer.ensures c.format-2.ensures.text)
    c.concat.ensures.ok
