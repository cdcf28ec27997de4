use Rattle.std.specs.String.{string_bytes}
use Rattle.std.proofs.lemmas.Result.{IfOk-weaker}
use Rattle.dw_report.proofs.VerdictTextLemmas.{dual_playable, choices_legal, dual_made}
use Rattle.dw_report.proofs.judged.dual_line.Goals as goal

pub line_text-requires-clause-legal : goal.line_text-requires-clause-legal
line_text-requires-clause-legal g c = dual_playable g.B.Board.geometry c.args.position.now c.args.moves c.args.at.now
    c.args.choices.now c.requires.verdict

pub reached-requires : goal.reached-requires
reached-requires g c = dual_playable g.B.Board.geometry c.args.position.now c.args.moves c.args.at.now
    c.args.choices.now c.requires.verdict

pub joined_text-requires : goal.joined_text-requires
joined_text-requires g c = choices_legal g.B.Board.geometry c.args.position.now c.reached.result c.args.moves
    c.args.at.now c.args.choices.now c.reached.ensures c.requires.verdict

pub returns : goal.returns
returns g c =
    IfOk-weaker c.concat.result _ _
    (λ line e. dual_made g.B.Board.geometry c.args.position.now c.reached.result c.args.moves c.args.at.now
    c.args.choices.now c.in_ok-line.line.bytes (string_bytes c.in_ok-choices.choices) c.format.result.now
    c.as_str.result.now c.format-2.result.now c.as_str-2.result.now (string_bytes line)
    c.reached.ensures c.in_ok-line.ensures c.in_ok-choices.ensures c.format.ensures.text c.as_str.ensures.value
    c.format-2.ensures.text c.as_str-2.ensures.value e) c.concat.ensures.ok
