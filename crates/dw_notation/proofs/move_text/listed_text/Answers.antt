use Rattle.std.proofs.Common.{◌<◌, sym, ap, ◌∙◌, length, get_or, subst, [], arith}
use Rattle.dw_moves.specs.Order.{Listed, AreListed}
use Rattle.dw_notation.proofs.LineTextLemmas.{legal_has_step, text_at}
use Rattle.dw_notation.proofs.move_text.listed_text.Goals as goal

pub place_of-place-requires : goal.place_of-place-requires
place_of-place-requires g c = (
  omega arith,
  legal_has_step g.B.Board.geometry c.args.position.now c.args.mv.now
      c.as_slice.result.now (subst (AreListed g.B.Board.geometry c.args.position.now) (sym c.as_slice.ensures.value)
      c.in_ok-list.ensures) c.requires,
)

pub returns-clause-text : goal.returns-clause-text
returns-clause-text g c =
    let all = subst (AreListed g.B.Board.geometry c.args.position.now) (sym c.as_slice-2.ensures.value)
    c.in_ok-list.ensures in
    let same = c.as_slice.ensures.value ∙ sym c.as_slice-2.ensures.value in
    let d : Listed = record { step = c.args.mv.now; path = [] } in
    text_at g.B.Board.geometry c.args.position.now c.args.mv.now c.as_slice-2.result.now c.place_of-place.result
    c.move_text.result.bytes d all (subst (λ z. c.place_of-place.result < length z) same
    c.place_of-place.ensures.within) (ap (λ z. (get_or z c.place_of-place.result d).step) (sym same)
    ∙ c.place_of-place.ensures.there d) (c.move_text.ensures.text d)
