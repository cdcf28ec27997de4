use Rattle.std.proofs.Common.{◌≡◌, sym, ap, ◌∙◌, subst, take, length, get_or, inl, inr, [], ◌∷◌, arith}
use Rattle.std.proofs.lemmas.Bool.{true≢false}
use Rattle.std.proofs.lemmas.List.{get_or_default, take_more}
use Rattle.dw_board.specs.Lists.{Member}
use Rattle.dw_moves.specs.inner.MemberLemmas.{mem_cases}
use Rattle.dw_moves.specs.inner.MoveLemmas.{same_moves, same_moves-is}
use Rattle.dw_moves.specs.Order.{Listed}
use Rattle.dw_moves.proofs.listed.place_of.Goals as goal

pub returns-then-eq-clause-there : goal.returns-then-eq-clause-there
returns-then-eq-clause-there g c low d =
    ap (λ (l : Listed). l.step) (get_or_default c.args.list.now c.moves.place d c.index-list-place.result low
    ∙ sym c.index-list-place.is) ∙ (same_moves-is c.index-list-place.result.step c.args.mv.now).0
    (sym (ap (λ (l : Listed). same_moves l.step c.args.mv.now) c.item.view_is) ∙ (sym c.eq.ensures ∙ c.if-eq.true))

pub moves-preserved : goal.moves-preserved
moves-preserved g c x there same =
    let list = c.args.list.now in
    let i = c.moves.place in
    let item = c.index-list-place.result in
    elim (mem_cases x (take i list) (get_or list i item ∷ [])
    (subst (Member x) (take_more list i item c.moves-test.true) there)) [
      | inl old ↦ c.moves.invariant x old same
      | inr (inl e) ↦ true≢false (sym ((same_moves-is item.step c.args.mv.now).1
          (sym (ap (λ (l : Listed). l.step) (e ∙ sym c.index-list-place.is)) ∙ same))
          ∙ (sym (ap (λ (l : Listed). same_moves l.step c.args.mv.now) c.item.view_is)
          ∙ (sym c.eq.ensures ∙ c.if-eq.false)))
      | inr (inr none) ↦ none
    ]

pub returns-clause-before : goal.returns-clause-before
returns-clause-before g c x there same =
    let all : length c.args.list.now ≡ c.moves.place = omega (arith, c.moves-test.false, c.moves.auto.place-end) in
    c.moves.invariant x (subst (λ k. Member x (take k c.args.list.now)) all there) same
