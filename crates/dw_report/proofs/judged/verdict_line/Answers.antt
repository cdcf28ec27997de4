use Rattle.std.proofs.Common.{sym, subst}
use Rattle.std.specs.String.{string_bytes}
use Rattle.std.proofs.lemmas.Result.{IfOk-weaker}
use Rattle.dw_verdict.specs.Verdict.{IsVerdict}
use Rattle.dw_verdict.specs.Judging.{said_by}
use Rattle.dw_report.specs.JudgedText.{IsVerdictText}
use Rattle.dw_report.proofs.VerdictTextLemmas.{dual_is, key_legal, sound_made}
use Rattle.dw_report.proofs.judged.verdict_line.Goals as goal

pub dual_line-requires-clause-verdict : goal.dual_line-requires-clause-verdict
dual_line-requires-clause-verdict g c =
    let geo = g.B.Board.geometry in
    let p = c.args.position.now in
    let n = c.args.moves in
    dual_is geo p n c.in-Dual.at.items c.in-Dual.choices.items c.as_slice-in-Dual.result.now
    c.as_slice-in-Dual-2.result.now c.as_slice-in-Dual.ensures.value c.as_slice-in-Dual-2.ensures.value
    (subst (λ v. IsVerdict geo p n (said_by v)) c.in-Dual.is c.requires)

pub text_in-requires : goal.text_in-requires
text_in-requires g c =
    let geo = g.B.Board.geometry in
    let p = c.args.position.now in
    let n = c.args.moves in
    key_legal geo p n c.in-Sound.key (subst (λ v. IsVerdict geo p n (said_by v)) c.in-Sound.is c.requires)

pub returns-in_ok-key-in-Sound : goal.returns-in_ok-key-in-Sound
returns-in_ok-key-in-Sound g c =
    let geo = g.B.Board.geometry in
    let p = c.args.position.now in
    let n = c.args.moves in
    IfOk-weaker c.concat-in-Sound.result _ _
    (λ line e. subst (λ v. IsVerdictText geo p n (said_by v) (string_bytes line)) (sym c.in-Sound.is)
    (sound_made geo p n c.in-Sound.key c.in_ok-key-in-Sound.key.bytes c.format-in-Sound.result.now c.as_str.result.now
    (string_bytes line) c.in_ok-key-in-Sound.ensures.text c.format-in-Sound.ensures.text c.as_str.ensures.value e))
    c.concat-in-Sound.ensures.ok
