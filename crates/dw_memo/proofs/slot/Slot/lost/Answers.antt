use Rattle.std.proofs.Common.{◌≡◌, ◌∙◌, ◌↔◌, ap, sym, subst}
use Rattle.std.specs.Prelude.{IsTrue}
use Rattle.std.specs.Int.{from_bool}
use Rattle.dw_memo.specs.inner.Keeping.{lost, at_turn, kept_position}
use Rattle.dw_memo.proofs.KeepingLemmas.{none_lost, one_lost}
use Rattle.dw_memo.proofs.slot.Slot.lost.Goals.{then-is_some, else-is_some}
use Rattle.dw_memo.proofs.slot.Slot.lost.Goals as goal

pub returns : goal.returns
returns g c =
    let of = c.self.inside in
    let q = at_turn of.pieces of.turn in
    let p = c.args.position.now in
    c.from.ensures ∙ (elim c.if-is_some.branch [
      | then-is_some w ↦ ap from_bool w.from-is
          ∙ sym (one_lost q p of.fact w.keeps.result (sym c.is_some.ensures ∙ w.if-is_some.true)
          (subst (λ o. IsTrue w.keeps.result ↔ (kept_position o ≡ p)) (sym c.self.view_is) w.keeps.ensures))
      | else-is_some w ↦ ap from_bool (w.from-is ∙ w.if-is_some.false)
          ∙ sym (none_lost q p of.fact (sym c.is_some.ensures ∙ w.if-is_some.false))
    ] ∙ ap (λ o. lost o p) c.self.view_is)
