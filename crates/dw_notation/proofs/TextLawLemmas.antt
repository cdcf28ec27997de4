-- Each legal move has one text, and different ones have different texts.
use Rattle.std.proofs.Common.{◌≡◌, List, [], ◌∷◌, map, refl, sym, ap, ◌∙◌, subst, inl, inr}
use Rattle.dw_board.specs.Geometry.{Geometry}
use Rattle.dw_board.specs.Placement.{Placement}
use Rattle.dw_moves.specs.Laws.{MovesInOrder, MovesHaveKeys}
use Rattle.dw_board.specs.Lists.{Member}
use Rattle.dw_moves.specs.Order.{Precedes, IsAscending, Listed}
use Rattle.dw_notation.specs.MoveReading.{Fits}
use Rattle.dw_notation.specs.Text.{text_among}
use Rattle.dw_notation.specs.TextLaws.{MovesHaveTexts}
use Rattle.dw_notation.proofs.LineTextLemmas.{legal_has_step}
use Rattle.dw_notation.proofs.MoveNameLemmas.{names_one}
use Rattle.dw_notation.proofs.MoveWrittenLemmas.{Rules, not_before_itself, written_named}

step_in : (l : Listed) (list : List Listed) → Member l list → Member l.step (map (λ (l : Listed). l.step) list)
step_in l [] m = absurd m
step_in l (x ∷ list) (inl e) = inl (ap (λ (z : Listed). z.step) e)
step_in l (x ∷ list) (inr m) = inr (step_in l list m)

-- in an ascending list a move stands once
stands_once : MovesHaveKeys → (g : Geometry) (p : Placement) (list : List Listed) (l k : Listed)
    → IsAscending (Precedes g p) (map (λ (l : Listed). l.step) list) → Member l list → Member k list → l.step ≡ k.step
    → l ≡ k
stands_once keys g p [] l k a m n e = absurd m
stands_once keys g p (x ∷ list) l k a (inl m) (inl n) e = m ∙ sym n
stands_once keys g p (x ∷ list) l k a (inl m) (inr n) e =
    let same : x.step ≡ k.step = ap (λ (z : Listed). z.step) (sym m) ∙ e in
    absurd (not_before_itself keys g p k.step (subst (λ z. Precedes g p z k.step) same (a.0 k.step (step_in k list n))))
stands_once keys g p (x ∷ list) l k a (inr m) (inl n) e =
    let same : x.step ≡ l.step = ap (λ (z : Listed). z.step) (sym n) ∙ sym e in
    absurd (not_before_itself keys g p l.step (subst (λ z. Precedes g p z l.step) same (a.0 l.step (step_in l list m))))
stands_once keys g p (x ∷ list) l k a (inr m) (inr n) e = stands_once keys g p list l k a.1 m n e

pub moves_have_texts : MovesInOrder → Rules → MovesHaveTexts
moves_have_texts order rules = record {
  some = λ g b p m legal.
      let all = order.listed g b p in
      let item = legal_has_step g p m all.0 all.1 legal in (
        text_among all.0 item.0,
        record {
          list = all.0;
          all = all.1;
          item = item.0;
          here = item.1;
          same = item.2;
          is =
              refl;
        },
      );
  one = λ g p m text other h k.
      let lists = order.same g p h.list k.list h.all k.all in
      let items = stands_once rules.keys g p k.list h.item k.item k.all.in_order.ascending
      (subst (Member h.item) lists h.here) k.here (h.same ∙ sym k.same) in
      h.is ∙ (ap (λ z. text_among z h.item) lists ∙ (ap (text_among k.list) items ∙ sym k.is));
  differ = λ g b p position m n text h k.
      let one = written_named rules g b p position m text h in
      let two = written_named rules g b p position n text k in
      let same = names_one g text one.named two.named one.names two.names in
      two.answers.alone m (subst (λ z. Fits g p z m) same one.answers.fits);
}
