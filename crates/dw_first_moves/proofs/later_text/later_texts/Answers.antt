use Rattle.std.proofs.Common.{ℕ, List, String, Global, ◌+◌, map, take, ap, ◌∙◌, subst, sym}
use Rattle.std.specs.String.{string_bytes}
use Rattle.std.proofs.lemmas.List.{map_push}
use Rattle.dw_notation.specs.Text.{IsMoveText}
use Rattle.dw_verdict.specs.inner.WinningLemmas.{winning_legal}
use Rattle.dw_first_moves.specs.LaterText.{AreLaterTexts}
use Rattle.dw_first_moves.proofs.LaterLemmas.{later_next}
use Rattle.dw_first_moves.proofs.TextLemmas.{item_member}
use Rattle.dw_first_moves.proofs.later_text.later_texts.Goals as goal

pub text_in-requires : goal.text_in-requires
text_in-requires g c =
    let wins = ((c.requires.2.exactly c.one-item.result).0
    (item_member c.args.later.now c.later.one-index c.one-item.result c.later-test.true c.one-item.is)).0.wins in
    winning_legal g.B.Board.geometry c.args.position.now _ _ wins

pub later-preserved : goal.later-preserved
later-preserved g c =
    let geo = g.B.Board.geometry in
    let p = c.args.position.now in
    let told : String Global × ℕ → List ℕ × ℕ = λ pair. (string_bytes pair.0, pair.1) in
    let written = c.in_ok-from_str.ensures.ok ∙ c.as_str.ensures.value in
    subst (AreLaterTexts geo p (take (c.later.one-index + 1) c.args.later.now))
    (sym (ap (map told) c.in_ok-push.ensures.items ∙ map_push told c.later.texts.items _))
    (later_next geo p c.args.later.now c.later.one-index c.one-item.result (map told c.later.texts.items)
    (string_bytes c.in_ok-from_str.field-0) c.later.invariant c.later-test.true c.one-item.is
    (subst (IsMoveText geo p c.one-item.result.0) (sym written) c.in_ok-text.ensures.text))
