use Rattle.std.proofs.Common.{◌≡◌, ◌↔◌, None, sym, ap, ◌∙◌, inl, inr}
use Rattle.std.specs.Prelude.{IsTrue}
use Rattle.std.proofs.lemmas.Bool.{true≢false}
use Rattle.dw_moves.specs.Order.{Listed}
use Rattle.dw_moves.specs.inner.Walks.{OneKept, These}
use Rattle.dw_moves.proofs.KeeperLemmas.{Left, held_more, held_past, one_alike, one_bare, one_here, one_other, same_aim}
use Rattle.dw_moves.proofs.seeker.SeekerKeeper.offer.Goals as goal
use Rattle.dw_moves.proofs.seeker.SeekerKeeper.offer.Goals.{then-self-count, else-self-count}

pub returns-then-count-self-clause-kept : goal.returns-then-count-self-clause-kept
returns-then-count-self-clause-kept g c = λ path on first xs h. record {
  same = h.same;
  held = held_past xs (record { step = c.args.mv.now; path = path }) c.args.self.now.most c.args.count c.requires
      c.if-count-self.true h.held one_alike;
}

pub returns-then-is_met-clause-kept : goal.returns-then-is_met-clause-kept
returns-then-is_met-clause-kept g c = λ path on first xs h.
    let meets = g.A.Aim.is_met_by in
    let this : Listed = record { step = c.args.mv.now; path = path } in
    let old = c.args.self.now in
    let now = c.if-self-count.self in
    let still : now.aim.now ≡ first.aim.now = (elim c.if-self-count.branch [
      | then-self-count w ↦ ap (λ z. z.aim.now) w.self-is
      | else-self-count w ↦ ap (λ z. z.aim.now) w.self-is
    ]) ∙ h.same in
    let here : c.as_slice.result.now ≡ path = c.as_slice.ensures.value ∙ ((elim c.if-self-count.branch [
      | then-self-count w ↦ ap (λ z. z.path.items) w.self-is
      | else-self-count w ↦ ap (λ z. z.path.items) w.self-is
    ]) ∙ on) in
    let left : Left old.most c.args.count now.most None old.found now.found = elim c.if-self-count.branch [
      | then-self-count w ↦ inl (w.if-self-count.true, ap (λ z. z.most) w.self-is, ap (λ z. z.found) w.self-is)
      | else-self-count w ↦ inr (w.if-self-count.false, ap (λ z. z.most) w.self-is, ap (λ z. z.found) w.self-is)
    ] in
    let met : IsTrue c.is_met.result ↔ meets first.aim.now this =
    same_aim meets c.args.mv.now c.is_met.result still here c.is_met.ensures in
    record {
      same = still;
      held = held_more xs this old.most c.args.count c.requires (OneKept (These xs) (meets first.aim.now))
          c.if-count-self.false left h.held one_bare (λ more kept. one_here more (met.0 c.if-is_met.true));
    }

pub returns-else-is_met-clause-kept : goal.returns-else-is_met-clause-kept
returns-else-is_met-clause-kept g c = λ path on first xs h.
    let meets = g.A.Aim.is_met_by in
    let this : Listed = record { step = c.args.mv.now; path = path } in
    let old = c.args.self.now in
    let now = c.if-self-count.self in
    let still : now.aim.now ≡ first.aim.now = (elim c.if-self-count.branch [
      | then-self-count w ↦ ap (λ z. z.aim.now) w.self-is
      | else-self-count w ↦ ap (λ z. z.aim.now) w.self-is
    ]) ∙ h.same in
    let here : c.as_slice.result.now ≡ path = c.as_slice.ensures.value ∙ ((elim c.if-self-count.branch [
      | then-self-count w ↦ ap (λ z. z.path.items) w.self-is
      | else-self-count w ↦ ap (λ z. z.path.items) w.self-is
    ]) ∙ on) in
    let left : Left old.most c.args.count now.most None old.found now.found = elim c.if-self-count.branch [
      | then-self-count w ↦ inl (w.if-self-count.true, ap (λ z. z.most) w.self-is, ap (λ z. z.found) w.self-is)
      | else-self-count w ↦ inr (w.if-self-count.false, ap (λ z. z.most) w.self-is, ap (λ z. z.found) w.self-is)
    ] in
    let met : IsTrue c.is_met.result ↔ meets first.aim.now this =
    same_aim meets c.args.mv.now c.is_met.result still here c.is_met.ensures in
    record {
      same = still;
      held = held_more xs this old.most c.args.count c.requires (OneKept (These xs) (meets first.aim.now))
          c.if-count-self.false left h.held one_bare
          (λ more. one_other more (λ e. true≢false (sym (met.1 e) ∙ c.if-is_met.false)));
    }
