use Rattle.std.proofs.Common.{◌+◌, map, take, ap, ◌∙◌, subst, sym}
use Rattle.std.specs.String.{string_bytes}
use Rattle.std.proofs.lemmas.List.{map_push}
use Rattle.dw_notation.specs.Text.{IsMoveText, AreMoveTexts}
use Rattle.dw_report.proofs.JoiningLemmas.{one_of_them}
use Rattle.dw_report.proofs.MoveTextLemmas.{texts_next}
use Rattle.dw_report.proofs.move_texts.each_move_text.Goals as goal

pub text_in-requires : goal.text_in-requires
text_in-requires g c = c.requires c.mv-item.result (one_of_them c.args.moves.now c.moves.mv-index c.mv-item.result
    c.moves-test.true c.mv-item.is)

pub moves-preserved : goal.moves-preserved
moves-preserved g c =
    let geo = g.B.Board.geometry in
    let p = c.args.position.now in
    let moves = c.args.moves.now in
    let i = c.moves.mv-index in
    let texts = c.moves.texts.items in
    let text = c.in_ok-from_str.field-0 in
    let written = c.in_ok-from_str.ensures.ok ∙ c.as_str.ensures.value in
    subst (AreMoveTexts geo p (take (i + 1) moves)) (sym (ap (map string_bytes) c.in_ok-push.ensures.items
    ∙ map_push string_bytes texts text)) (texts_next geo p moves i c.mv-item.result (map string_bytes texts)
    (string_bytes text) c.moves.invariant c.moves-test.true c.mv-item.is
    (subst (λ z. IsMoveText geo p c.mv-item.result z) (sym written) c.in_ok-text.ensures.text))
