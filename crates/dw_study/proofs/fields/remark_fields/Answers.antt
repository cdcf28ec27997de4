use Rattle.std.proofs.Common.{◌≡◌, ◌∙◌, ap, sym, subst, Some, IfSome, IfOk}
use Rattle.dw_games.specs.Walk.{beginning_at, place_of}
use Rattle.dw_study.specs.Remarks.{fails, also, leaves_open, ends}
use Rattle.dw_study.specs.RemarkText.{HasTexts}
use Rattle.dw_study.specs.RemarkFields.{AreRemarkFields}
use Rattle.dw_study.specs.Telling.{remark_in, texts_in}
use Rattle.dw_study.specs.inner.Beginnings.{IsBegun}
use Rattle.dw_study.proofs.RemarkTextLemmas.{told}
use Rattle.dw_study.proofs.fields.remark_fields.Goals as goal

pub returns-in-Some-clause-words : goal.returns-in-Some-clause-words
returns-in-Some-clause-words g c = λ r is.
    let p = c.args.tree.now.start in
    let tree = c.args.tree.now.paths in
    let said = told (beginning_at tree (place_of c.in-Fails.at)) (λ b. fails b c.in-Fails.mv c.in-Fails.reply) r
    (subst (λ z. remark_in tree z ≡ Some r) c.in-Fails.is is) in
    let begun = subst (λ made. IfSome made (IsBegun g.B.Board.geometry p said.0)) c.in-Some.is
    (c.in_ok-beginning-in-Fails.ensures.begun said.0 said.1) in
    subst (λ z. IfOk c.failure_fields.result (λ made. IfSome made (λ text. AreRemarkFields g.B.Board.geometry p z
    (texts_in text)))) said.2 (c.failure_fields.ensures.words p said.0 begun)

pub returns-in-Some-2-clause-words : goal.returns-in-Some-2-clause-words
returns-in-Some-2-clause-words g c = λ r is.
    let p = c.args.tree.now.start in
    let tree = c.args.tree.now.paths in
    let said = told (beginning_at tree (place_of c.in-Also.at)) (λ b. also b c.in-Also.keys.items) r
    (subst (λ z. remark_in tree z ≡ Some r) c.in-Also.is is) in
    let begun = subst (λ made. IfSome made (IsBegun g.B.Board.geometry p said.0)) c.in-Some-2.is
    (c.in_ok-beginning-in-Also.ensures.begun said.0 said.1) in
    subst (λ z. IfOk c.moves_fields.result (λ made. IfSome made (λ text. AreRemarkFields g.B.Board.geometry p z
    (texts_in text)))) (ap (also said.0) c.as_slice.ensures.value ∙ said.2)
    (c.moves_fields.ensures.words p said.0 begun)

pub returns-in-Some-3-clause-words : goal.returns-in-Some-3-clause-words
returns-in-Some-3-clause-words g c = λ r is.
    let p = c.args.tree.now.start in
    let tree = c.args.tree.now.paths in
    let said = told (beginning_at tree (place_of c.in-Open.at)) (λ b. leaves_open b c.in-Open.replies.items) r
    (subst (λ z. remark_in tree z ≡ Some r) c.in-Open.is is) in
    let begun = subst (λ made. IfSome made (IsBegun g.B.Board.geometry p said.0)) c.in-Some-3.is
    (c.in_ok-beginning-in-Open.ensures.begun said.0 said.1) in
    subst (λ z. IfOk c.moves_fields-in-Some-3.result (λ made. IfSome made (λ text.
    AreRemarkFields g.B.Board.geometry p z (texts_in text))))
    (ap (leaves_open said.0) c.as_slice-in-Some-3.ensures.value ∙ said.2)
    (c.moves_fields-in-Some-3.ensures.words p said.0 begun)

pub returns-in-Some-4-clause-words : goal.returns-in-Some-4-clause-words
returns-in-Some-4-clause-words g c = λ r is.
    let p = c.args.tree.now.start in
    let tree = c.args.tree.now.paths in
    let said = told (beginning_at tree (place_of c.in-Ends.at)) (λ b. ends b c.in-Ends.wins_in) r
    (subst (λ z. remark_in tree z ≡ Some r) c.in-Ends.is is) in
    let begun = subst (λ made. IfSome made (IsBegun g.B.Board.geometry p said.0)) c.in-Some-4.is
    (c.in_ok-beginning-in-Ends.ensures.begun said.0 said.1) in
    subst (λ z. IfOk c.end_fields.result (λ made. IfSome made (λ text. AreRemarkFields g.B.Board.geometry p z
    (texts_in text)))) said.2 (c.end_fields.ensures.words p said.0 begun)

pub returns-in-Some-clause-some : goal.returns-in-Some-clause-some
returns-in-Some-clause-some g c = λ r is can.
    let p = c.args.tree.now.start in
    let tree = c.args.tree.now.paths in
    let said = told (beginning_at tree (place_of c.in-Fails.at)) (λ b. fails b c.in-Fails.mv c.in-Fails.reply) r
    (subst (λ z. remark_in tree z ≡ Some r) c.in-Fails.is is) in
    let begun = subst (λ made. IfSome made (IsBegun g.B.Board.geometry p said.0)) c.in-Some.is
    (c.in_ok-beginning-in-Fails.ensures.begun said.0 said.1) in
    c.failure_fields.ensures.some p said.0 begun (subst (HasTexts g.B.Board.geometry p) (sym said.2) can)

pub returns-in-Some-2-clause-some : goal.returns-in-Some-2-clause-some
returns-in-Some-2-clause-some g c = λ r is can.
    let p = c.args.tree.now.start in
    let tree = c.args.tree.now.paths in
    let said = told (beginning_at tree (place_of c.in-Also.at)) (λ b. also b c.in-Also.keys.items) r
    (subst (λ z. remark_in tree z ≡ Some r) c.in-Also.is is) in
    let begun = subst (λ made. IfSome made (IsBegun g.B.Board.geometry p said.0)) c.in-Some-2.is
    (c.in_ok-beginning-in-Also.ensures.begun said.0 said.1) in
    c.moves_fields.ensures.some p said.0 begun (subst (HasTexts g.B.Board.geometry p)
    (sym (ap (also said.0) c.as_slice.ensures.value ∙ said.2)) can)

pub returns-in-Some-3-clause-some : goal.returns-in-Some-3-clause-some
returns-in-Some-3-clause-some g c = λ r is can.
    let p = c.args.tree.now.start in
    let tree = c.args.tree.now.paths in
    let said = told (beginning_at tree (place_of c.in-Open.at)) (λ b. leaves_open b c.in-Open.replies.items) r
    (subst (λ z. remark_in tree z ≡ Some r) c.in-Open.is is) in
    let begun = subst (λ made. IfSome made (IsBegun g.B.Board.geometry p said.0)) c.in-Some-3.is
    (c.in_ok-beginning-in-Open.ensures.begun said.0 said.1) in
    c.moves_fields-in-Some-3.ensures.some p said.0 begun
    (subst (HasTexts g.B.Board.geometry p) (sym (ap (leaves_open said.0) c.as_slice-in-Some-3.ensures.value ∙ said.2))
    can)
