use Rattle.std.proofs.Common.{◌≡◌, [], ap, ◌∙◌, subst, inl, inr}
use Rattle.std.proofs.lemmas.Result.{on_ok_weaker}
use Rattle.dw_moves.specs.Order.{Listed}
use Rattle.dw_moves.specs.inner.Walks.{PathsKept, TakenIn, These}
use Rattle.dw_moves.proofs.KeeperLemmas.{Left, held_more, held_past, paths_alike, paths_bare, paths_join}
use Rattle.dw_moves.proofs.listed.LeastPathsKeeper.offer.Goals as goal
use Rattle.dw_moves.proofs.listed.LeastPathsKeeper.offer.Goals.{then-self-count, else-self-count}

pub returns-then-count-self-clause-kept : goal.returns-then-count-self-clause-kept
returns-then-count-self-clause-kept g c = λ path on first xs h.
    held_past xs (record { step = c.args.mv.now; path = path }) c.args.self.now.most c.args.count c.requires
    c.if-count-self.true h paths_alike

pub returns-clause-kept : goal.returns-clause-kept
returns-clause-kept g c = on_ok_weaker c.keep_least.result (λ joined path on first xs h.
    let this : Listed = record { step = c.args.mv.now; path = path } in
    let k = c.args.self.now.most in
    let now = c.if-self-count.self in
    let old = c.args.self.now.list.items in
    let rest = now.list.items in
    let left : Left k c.args.count now.most [] old rest = elim c.if-self-count.branch [
      | then-self-count w ↦ inl (
        w.if-self-count.true,
        ap (λ z. z.most) w.self-is,
        ap (λ z. z.list.items) w.self-is ∙ w.clear.ensures.items,
      )
      | else-self-count w ↦ inr (
        w.if-self-count.false,
        ap (λ z. z.most) w.self-is,
        ap (λ z. z.list.items) w.self-is,
      )
    ] in
    let same : now.path.items ≡ path = (elim c.if-self-count.branch [
      | then-self-count w ↦ ap (λ z. z.path.items) w.self-is
      | else-self-count w ↦ ap (λ z. z.path.items) w.self-is
    ]) ∙ on in
    let new = c.keep_least.new.list.items in
    let here : TakenIn this rest new = subst (λ z. TakenIn (record { step = c.args.mv.now; path = z }) rest new)
    (c.as_slice.ensures.value ∙ same) joined in
    held_more xs this k c.args.count c.requires (PathsKept (These xs)) c.if-count-self.false left h paths_bare
    (λ more. paths_join more here)) c.keep_least.ensures
