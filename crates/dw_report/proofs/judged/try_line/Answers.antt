use Rattle.std.specs.String.{string_bytes}
use Rattle.std.proofs.lemmas.Result.{IfOk-weaker}
use Rattle.dw_report.proofs.VerdictTextLemmas.{try_made}
use Rattle.dw_report.proofs.judged.try_line.Goals as goal

pub returns : goal.returns
returns g c =
    IfOk-weaker c.concat.result _ _
    (λ line e. try_made g.B.Board.geometry c.args.position.now c.play.result c.args.mv.now c.args.reply.now
    c.in_ok-first.first.bytes c.in_ok-second.second.bytes c.as_str.result.now c.as_str-2.result.now
    (string_bytes line)
    c.play.ensures c.in_ok-first.ensures.text c.in_ok-second.ensures.text c.as_str.ensures.value
    c.as_str-2.ensures.value e) c.concat.ensures.ok
