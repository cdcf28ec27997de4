use Rattle.std.proofs.Common.{take, subst, sym}
use Rattle.std.proofs.lemmas.Result.{IfOk-weaker}
use Rattle.dw_verdict.specs.Judging.{said_by}
use Rattle.dw_verdict.specs.Verdict.{IsVerdict, Keys}
use Rattle.dw_report.proofs.JudgedTextLemmas.{keys_legal}
use Rattle.dw_report.proofs.MoveTextLemmas.{dual_opens}
use Rattle.dw_report.proofs.move_texts.key_texts.Goals as goal

pub each_move_text-requires : goal.each_move_text-requires
each_move_text-requires g c =
    let geo = g.B.Board.geometry in
    let p = c.args.position.now in
    let n = c.requires.0 in
    let keys = (subst (λ v. IsVerdict geo p n (said_by v)) c.in-Cooked.is c.requires.1).0 in
    keys_legal geo p n c.as_slice.result.now (subst (Keys geo p n) (sym c.as_slice.ensures.value) keys)

pub each_move_text-requires-in-Dual : goal.each_move_text-requires-in-Dual
each_move_text-requires-in-Dual g c =
    let geo = g.B.Board.geometry in
    let p = c.args.position.now in
    let n = c.requires.0 in
    let at = c.as_slice-in-Dual.result.now in
    let said = subst (λ v. IsVerdict geo p n (said_by v)) c.in-Dual.is c.requires.1 in
    keys_legal geo p n (take 1 at) (subst (λ z. Keys geo p n (take 1 z)) (sym c.as_slice-in-Dual.ensures.value)
    (dual_opens geo p n c.in-Dual.at.items c.in-Dual.choices.items said))

pub each_move_text-requires-in-Sound : goal.each_move_text-requires-in-Sound
each_move_text-requires-in-Sound g c =
    let geo = g.B.Board.geometry in
    let p = c.args.position.now in
    let n = c.requires.0 in
    let said = subst (λ v. IsVerdict geo p n (said_by v)) c.in-Sound.is c.requires.1 in
    keys_legal geo p n c.from_ref.result.now (subst (Keys geo p n) (sym c.from_ref.ensures.value) said.0.0)

pub returns-in-Dual : goal.returns-in-Dual
returns-in-Dual g c = λ n v.
    let geo = g.B.Board.geometry in
    let p = c.args.position.now in
    let at = c.as_slice-in-Dual.result.now in
    let said = subst (λ w. IsVerdict geo p n (said_by w)) c.in-Dual.is v in
    IfOk-weaker c.each_move_text-in-Dual.result _ _
    (λ texts e. (
      take 1 at,
      subst (λ z. Keys geo p n (take 1 z)) (sym c.as_slice-in-Dual.ensures.value)
          (dual_opens geo p n c.in-Dual.at.items c.in-Dual.choices.items said),
      e,
    )) c.each_move_text-in-Dual.ensures
