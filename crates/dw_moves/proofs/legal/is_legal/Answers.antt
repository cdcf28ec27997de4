use Rattle.std.proofs.Common.{◌≡◌, ◌↔◌, [], ap, ◌∙◌, subst, sym, inl, inr}
use Rattle.std.proofs.lemmas.Bool.{true≢false, not_from_false, not_from_true, cases_Bool}
use Rattle.std.specs.FinSet as fin
use Rattle.std.specs.Ordering.{nat_cmp}
use Rattle.dw_moves.specs.Moves.{CanCapture, Legal, Move, Quiet}
use Rattle.dw_moves.specs.inner.Walks.{Captures, Held, Makes, OneKept}
use Rattle.dw_moves.proofs.FilledLemmas.{legal_if_quiet, legal_if_sought}
use Rattle.dw_moves.proofs.KeeperLemmas.{held_same, one_alike}
use Rattle.dw_moves.proofs.legal.is_legal.Goals as goal

pub returns-then-is_quiet : goal.returns-then-is_quiet
returns-then-is_quiet g c =
    let geo = g.B.Board.geometry in
    let p = c.args.position.now in
    let n : Move = record { from = c.mv.inside.from; to = c.mv.inside.to; taken = c.mv.inside.taken } in
    let none : fin.len n.taken ≡ 0 = ap fin.len (c.is_empty.ensures.0 c.if-is_empty.true) ∙ fin.len-empty nat_cmp in
    let h : (Quiet geo p n.from n.to × (CanCapture geo p → ⊥)) ↔ Legal geo p c.args.mv.now =
    subst (λ z. (Quiet geo p n.from n.to × (CanCapture geo p → ⊥)) ↔ Legal geo p z) c.mv.view_is
    (legal_if_quiet geo p n none) in (
      (λ e. h.0 (
        c.is_quiet.ensures.0 c.if-is_quiet.true,
        λ can. true≢false (sym e ∙ not_from_true c.can_capture.result (c.can_capture.ensures.1 can)),
      )),
      (λ l. elim (cases_Bool c.can_capture.result) [
        | inl can ↦ absurd ((h.1 l).1 (c.can_capture.ensures.0 can))
        | inr quiet ↦ not_from_false c.can_capture.result quiet
      ]),
    )

pub returns-else-is_quiet : goal.returns-else-is_quiet
returns-else-is_quiet g c =
    let geo = g.B.Board.geometry in
    let p = c.args.position.now in
    let n : Move = record { from = c.mv.inside.from; to = c.mv.inside.to; taken = c.mv.inside.taken } in
    let none : fin.len n.taken ≡ 0 = ap fin.len (c.is_empty.ensures.0 c.if-is_empty.true) ∙ fin.len-empty nat_cmp in
    let h : (Quiet geo p n.from n.to × (CanCapture geo p → ⊥)) ↔ Legal geo p c.args.mv.now =
    subst (λ z. (Quiet geo p n.from n.to × (CanCapture geo p → ⊥)) ↔ Legal geo p z) c.mv.view_is
    (legal_if_quiet geo p n none) in (
      (λ e. absurd (true≢false (sym e ∙ c.if-is_quiet.false))),
      (λ l. absurd (true≢false (sym (c.is_quiet.ensures.1 (h.1 l).0) ∙ c.if-is_quiet.false))),
    )

pub returns : goal.returns
returns g c =
    let geo = g.B.Board.geometry in
    let p = c.args.position.now in
    let n : Move = record { from = c.mv.inside.from; to = c.mv.inside.to; taken = c.mv.inside.taken } in
    let f = c.walk_captures.new.keeper in
    let o = c.in-Ok.ensures.kept in
    let sought = o.held c.of-seeker.result [] c.of-seeker.ensures.none in
    let h : Held (Captures geo p) f.most (OneKept (Captures geo p) (Makes c.args.mv.now) f.most f.found) =
    held_same sought.held o.exactly (λ a k.
    subst (λ z. OneKept (Captures geo p) (Makes z) f.most f.found) c.of-seeker.ensures.aim (one_alike a k)) in
    let some : fin.len n.taken ≡ 0 → ⊥ = λ e. true≢false (sym (c.is_empty.ensures.1 (fin.empty_of_len n.taken e))
    ∙ c.if-is_empty.false) in
    let is = legal_if_sought h (subst (λ (z : Move). fin.len z.taken ≡ 0 → ⊥) c.mv.view_is some) in
    ((λ t. is.0 (sym c.is_some.ensures ∙ t)), (λ l. c.is_some.ensures ∙ is.1 l))
