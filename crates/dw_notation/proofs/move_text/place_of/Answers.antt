use Rattle.std.proofs.Common.{sym, ap, ◌∙◌, arith}
use Rattle.std.proofs.lemmas.Bool.{true≢false}
use Rattle.std.proofs.lemmas.List.{get_or_default}
use Rattle.dw_moves.specs.inner.MoveLemmas.{same_moves, same_moves-is}
use Rattle.dw_moves.specs.Order.{Listed}
use Rattle.dw_notation.proofs.LineTextLemmas.{others_within, others_more}
use Rattle.dw_notation.proofs.move_text.place_of.Goals as goal

pub returns-then-eq-clause-there : goal.returns-then-eq-clause-there
returns-then-eq-clause-there g c =
    let low = others_within c.args.list.now c.args.mv.now c.places.place c.places.invariant in
    λ d. ap (λ (l : Listed). l.step) (get_or_default c.args.list.now c.places.place d c.index-list-place.result low
    ∙ sym c.index-list-place.is) ∙ (same_moves-is c.index-list-place.result.step c.args.mv.now).0
    (sym (ap (λ (l : Listed). same_moves l.step c.args.mv.now) c.item.view_is) ∙ (sym c.eq.ensures ∙ c.if-eq.true))

pub places-preserved : goal.places-preserved
places-preserved g c = others_more c.args.list.now c.args.mv.now c.places.place c.index-list-place.result
    c.places.invariant c.index-list-place.is
    (λ e. true≢false (sym ((same_moves-is c.index-list-place.result.step c.args.mv.now).1 e)
    ∙ (sym (ap (λ (l : Listed). same_moves l.step c.args.mv.now) c.item.view_is)
    ∙ (sym c.eq.ensures ∙ c.if-eq.false))))

pub offset_bounds-list-place : goal.offset_bounds-list-place
offset_bounds-list-place g c =
    let low = others_within c.args.list.now c.args.mv.now c.places.place c.places.invariant in
    omega (arith, low)

pub bounds-list-place : goal.bounds-list-place
bounds-list-place g c = others_within c.args.list.now c.args.mv.now c.places.place c.places.invariant

pub returns-then-eq-clause-within : goal.returns-then-eq-clause-within
returns-then-eq-clause-within g c = others_within c.args.list.now c.args.mv.now c.places.place c.places.invariant

pub overflow_add-place : goal.overflow_add-place
overflow_add-place g c =
    let low = others_within c.args.list.now c.args.mv.now c.places.place c.places.invariant in
    omega (arith, low)

pub places-smaller : goal.places-smaller
places-smaller g c =
    let low = others_within c.args.list.now c.args.mv.now c.places.place c.places.invariant in
    omega (arith, low)
