use Rattle.std.proofs.Common.{◌≡◌, ◌∙◌, ap, get_or, sym, subst}
use Rattle.std.proofs.lemmas.List.{get_or_read}
use Rattle.dw_board.specs.FenText.{written}
use Rattle.dw_moves.specs.Moves.{Legal, play}
use Rattle.dw_moves.specs.Order.{Listed}
use Rattle.dw_report.proofs.MoveLineLemmas.{item_is_legal}
use Rattle.dw_report.proofs.json_rows.move_words.Goals as goal

pub play-after-requires : goal.play-after-requires
play-after-requires g c = subst (λ (l : Listed). Legal g.B.Board.geometry c.args.position.now l.step)
    (sym c.item.view_is)
    (item_is_legal g.B.Board.geometry c.args.position.now c.args.list.now c.args.place c.index-list-place.result
    c.requires.all c.requires.place c.index-list-place.is)

pub returns : goal.returns
returns g c = λ d.
    let geo = g.B.Board.geometry in
    let p = c.args.position.now in
    let list = c.args.list.now in
    let there : c.index-list-place.result ≡ get_or list c.args.place d = get_or_read list c.args.place
    c.index-list-place.result c.requires.place c.index-list-place.is d in
    let text = c.in_ok-text.ensures.ok ∙ (c.as_str.ensures.value ∙ c.move_text.ensures.text d) in
    let fen = c.in_ok-fen.ensures.ok ∙ (c.as_str-2.ensures.value ∙ (c.fen_text.ensures ∙ ap (written geo)
    (c.play-after.ensures ∙ ap (λ (l : Listed). play geo p l.step) (c.item.view_is ∙ there)))) in
    λ i. (text i, fen i)
