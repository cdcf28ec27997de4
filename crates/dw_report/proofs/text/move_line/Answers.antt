use Rattle.std.proofs.Common.{◌≡◌, sym, ap, ◌∙◌, ◌++◌, subst, get_or, length, arith}
use Rattle.std.proofs.lemmas.List.{get_or_read}
use Rattle.dw_moves.specs.Moves.{Legal, play}
use Rattle.dw_moves.specs.Order.{Listed}
use Rattle.dw_report.proofs.MoveLineLemmas.{item_is_legal, line_made}
use Rattle.dw_report.proofs.text.move_line.Goals as goal

pub play-requires : goal.play-requires
play-requires g c = subst (λ (l : Listed). Legal g.B.Board.geometry c.args.position.now l.step) (sym c.item.view_is)
    (item_is_legal g.B.Board.geometry c.args.position.now c.args.list.now c.args.place c.index-list-place.result
    c.requires.all c.requires.place c.index-list-place.is)

pub returns : goal.returns
returns g c = λ d.
    let list = c.args.list.now in
    let there : c.index-list-place.result ≡ get_or list c.args.place d = get_or_read list c.args.place
    c.index-list-place.result c.requires.place c.index-list-place.is d in
    line_made g.B.Board.geometry c.args.position.now c.play.result list (get_or list c.args.place d)
    c.move_text.result.bytes c.fen_text.result.bytes c.push_str.new.self.bytes c.push_str-2.new.self.bytes
    c.push_str-3.new.self.bytes c.push_str-4.new.self.bytes
    (c.move_text.ensures.text d) (c.play.ensures
    ∙ ap (λ (l : Listed). play g.B.Board.geometry c.args.position.now l.step) (c.item.view_is ∙ there))
    c.fen_text.ensures
    (c.push_str.ensures.bytes ∙ (ap (λ z. z ++ c.as_str.result.now) c.new-line.ensures ∙ c.as_str.ensures.value))
    c.push_str-2.ensures.bytes (c.push_str-3.ensures.bytes ∙ ap (λ z. c.push_str-2.new.self.bytes ++ z)
    c.as_str-2.ensures.value) c.push_str-4.ensures.bytes

pub push_str-requires : goal.push_str-requires
push_str-requires g c = (
  omega arith,
  omega (
    arith,
    ap length c.new-line.ensures,
    ap length c.as_str.ensures.value,
    c.move_text.ensures.short,
  ),
)

pub push_str-requires-2 : goal.push_str-requires-2
push_str-requires-2 g c = (
  omega arith,
  omega (
    arith,
    c.push_str.ensures.len,
    ap length c.new-line.ensures,
    ap length c.as_str.ensures.value,
    c.move_text.ensures.short,
  ),
)

pub push_str-requires-3 : goal.push_str-requires-3
push_str-requires-3 g c = (
  omega arith,
  omega (
    arith,
    c.push_str-2.ensures.len,
    c.as_str-2.ensures.fits,
    c.push_str.ensures.len,
    ap length c.new-line.ensures,
    ap length c.as_str.ensures.value,
    c.move_text.ensures.short,
  ),
)

pub push_str-requires-4 : goal.push_str-requires-4
push_str-requires-4 g c = (
  omega arith,
  omega (
    arith,
    c.push_str-3.ensures.len,
    c.push_str-2.ensures.len,
    c.as_str-2.ensures.fits,
    c.push_str.ensures.len,
    ap length c.new-line.ensures,
    ap length c.as_str.ensures.value,
    c.move_text.ensures.short,
  ),
)
