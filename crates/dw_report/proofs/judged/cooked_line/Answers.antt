use Rattle.std.specs.String.{string_bytes}
use Rattle.std.proofs.lemmas.Result.{IfOk-weaker}
use Rattle.dw_report.proofs.JudgedTextLemmas.{keys_legal}
use Rattle.dw_report.proofs.VerdictTextLemmas.{cooked_made}
use Rattle.dw_report.proofs.judged.cooked_line.Goals as goal

pub joined_text-requires : goal.joined_text-requires
joined_text-requires g c = keys_legal g.B.Board.geometry c.args.position.now c.args.moves c.args.keys.now c.requires.0

pub returns : goal.returns
returns g c =
    IfOk-weaker c.concat.result _ _
    (λ line e. cooked_made g.B.Board.geometry c.args.position.now c.args.moves c.args.shortest c.args.keys.now
    (string_bytes c.in_ok-keys.keys) c.format.result.now c.format-2.result.now c.as_str.result.now
    (string_bytes line)
    c.in_ok-keys.ensures c.format.ensures.text c.format-2.ensures.text c.as_str.ensures.value e) c.concat.ensures.ok
