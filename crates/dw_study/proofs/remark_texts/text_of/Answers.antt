use Rattle.std.proofs.Common.{◌≡◌, IfOk, ap, map, ◌∙◌, subst, sym, Some}
use Rattle.std.proofs.lemmas.Result.{IfOk-weaker}
use Rattle.std.specs.List.{join_by}
use Rattle.std.specs.Prelude.{codes}
use Rattle.std.specs.String.{string_bytes}
use Rattle.dw_games.specs.Walk.{beginning_at, place_of}
use Rattle.dw_report.specs.inner.JoinedLemmas.{join_texts}
use Rattle.dw_study.specs.Remarks.{fails, also, leaves_open, ends}
use Rattle.dw_study.specs.RemarkText.{IsRemarkText, behind_blank}
use Rattle.dw_study.specs.RemarkFields.{AreRemarkFields}
use Rattle.dw_study.specs.Telling.{remark_in, texts_in}
use Rattle.dw_study.proofs.RemarkTextLemmas.{told, fails_made, also_made, open_made, ends_made}
use Rattle.dw_study.proofs.remark_texts.text_of.Goals as goal

pub returns-in-Fails : goal.returns-in-Fails
returns-in-Fails g c = λ tree p r is are.
    let geo = g.B.Board.geometry in
    let words = texts_in c.args.words.now in
    let moves = c.as_slice-moves.result.now in
    let said = told (beginning_at tree (place_of c.in-Fails.at)) (λ b. fails b c.in-Fails.mv c.in-Fails.reply) r
    (subst (λ z. remark_in tree z ≡ Some r) c.in-Fails.is is) in
    let joined = c.as_str-in-Fails.ensures.value ∙ (c.in_ok-moved-in-Fails.ensures.ok
    ∙ (join_texts string_bytes (codes ", ") moves
    ∙ ap (λ z. join_by (λ t. t) (codes ", ") (map string_bytes z)) c.as_slice-moves.ensures.value)) in
    subst (λ z. IfOk c.concat.result (λ text. IsRemarkText geo p z (string_bytes text))) said.2
    (IfOk-weaker c.concat.result _ _ (λ text e. fails_made geo p said.0 words c.as_str-begun.result.now
    c.format-turn.result.now c.as_str-in-Fails.result.now (string_bytes text)
    (c.as_str-begun.ensures.value ∙ (c.in_ok-begun.ensures ∙ ap behind_blank c.as_str.ensures.value))
    c.format-turn.ensures.text c.in-Fails.mv c.in-Fails.reply c.refutation-reply.result.now
    (subst (λ z. AreRemarkFields geo p z words) (sym said.2) are) joined c.refutation-reply.ensures e)
    c.concat.ensures.ok)

pub returns-in-Also : goal.returns-in-Also
returns-in-Also g c = λ tree p r is are.
    let geo = g.B.Board.geometry in
    let words = texts_in c.args.words.now in
    let moves = c.as_slice-moves.result.now in
    let said = told (beginning_at tree (place_of c.in-Also.at)) (λ b. also b c.in-Also.keys.items) r
    (subst (λ z. remark_in tree z ≡ Some r) c.in-Also.is is) in
    let joined = c.as_str-in-Also.ensures.value ∙ (c.in_ok-keys-in-Also.ensures.ok
    ∙ (join_texts string_bytes (codes " / ") moves
    ∙ ap (λ z. join_by (λ t. t) (codes " / ") (map string_bytes z)) c.as_slice-moves.ensures.value)) in
    subst (λ z. IfOk c.concat-in-Also.result (λ text. IsRemarkText geo p z (string_bytes text))) said.2
    (IfOk-weaker c.concat-in-Also.result _ _ (λ text e. also_made geo p said.0 words c.as_str-begun.result.now
    c.format-turn.result.now c.as_str-in-Also.result.now (string_bytes text)
    (c.as_str-begun.ensures.value ∙ (c.in_ok-begun.ensures ∙ ap behind_blank c.as_str.ensures.value))
    c.format-turn.ensures.text c.in-Also.keys.items
    (subst (λ z. AreRemarkFields geo p z words) (sym said.2) are) joined e) c.concat-in-Also.ensures.ok)

pub returns-in-Open : goal.returns-in-Open
returns-in-Open g c = λ tree p r is are.
    let geo = g.B.Board.geometry in
    let words = texts_in c.args.words.now in
    let moves = c.as_slice-moves.result.now in
    let said = told (beginning_at tree (place_of c.in-Open.at)) (λ b. leaves_open b c.in-Open.replies.items) r
    (subst (λ z. remark_in tree z ≡ Some r) c.in-Open.is is) in
    let joined = c.as_str-in-Open.ensures.value ∙ (c.in_ok-replies-in-Open.ensures.ok
    ∙ (join_texts string_bytes (codes ", ") moves
    ∙ ap (λ z. join_by (λ t. t) (codes ", ") (map string_bytes z)) c.as_slice-moves.ensures.value)) in
    subst (λ z. IfOk c.concat-in-Open.result (λ text. IsRemarkText geo p z (string_bytes text))) said.2
    (IfOk-weaker c.concat-in-Open.result _ _ (λ text e. open_made geo p said.0 words c.as_str-begun.result.now
    c.format-turn.result.now c.as_str-in-Open.result.now (string_bytes text)
    (c.as_str-begun.ensures.value ∙ (c.in_ok-begun.ensures ∙ ap behind_blank c.as_str.ensures.value))
    c.format-turn.ensures.text c.in-Open.replies.items
    (subst (λ z. AreRemarkFields geo p z words) (sym said.2) are) joined e) c.concat-in-Open.ensures.ok)

pub returns : goal.returns
returns g c = λ tree p r is are.
    let geo = g.B.Board.geometry in
    let words = texts_in c.args.words.now in
    let wins_in = c.in-Ends.wins_in in
    let said = told (beginning_at tree (place_of c.in-Ends.at)) (λ b. ends b wins_in) r
    (subst (λ z. remark_in tree z ≡ Some r) c.in-Ends.is is) in
    subst (λ z. IfOk c.concat-in-Ends.result (λ text. IsRemarkText geo p z (string_bytes text))) said.2
    (IfOk-weaker c.concat-in-Ends.result _ _ (λ text e. ends_made geo p said.0 words c.as_str-begun.result.now
    c.format-turn.result.now c.as_str-in-Ends.result.now (string_bytes text)
    (c.as_str-begun.ensures.value ∙ (c.in_ok-begun.ensures ∙ ap behind_blank c.as_str.ensures.value))
    c.format-turn.ensures.text wins_in c.as_str-in-Ends.result.now
    (subst (λ z. AreRemarkFields geo p z words) (sym said.2) are)
    (c.as_str-in-Ends.ensures.value ∙ c.in_ok-missing-in-Ends.ensures) e) c.concat-in-Ends.ensures.ok)
