use Rattle.std.proofs.Common.{refl, ap, ◌∙◌, inl, inr}
use Rattle.std.specs.FinSet as fin
use Rattle.dw_moves.specs.inner.Walks.{EndsKept, These}
use Rattle.dw_moves.proofs.KeeperLemmas.{Left, ends_alike, ends_bare, ends_join, held_more, held_past}
use Rattle.dw_moves.proofs.best.BestCapturesKeeper.offer.Goals as goal
use Rattle.dw_moves.proofs.best.BestCapturesKeeper.offer.Goals.{then-self-count, else-self-count}

pub returns-then-count-self-clause-kept : goal.returns-then-count-self-clause-kept
returns-then-count-self-clause-kept g c = λ path on first xs h.
    held_past xs (record { step = c.args.mv.now; path = path }) c.args.self.now.pieces c.args.count c.requires
    c.if-count-self.true h ends_alike

pub returns-clause-kept : goal.returns-clause-kept
returns-clause-kept g c = λ path on first xs h.
    let old = c.args.self.now in
    let now = c.if-self-count.self in
    let left : Left old.pieces c.args.count now.pieces fin.empty old.ends now.ends = elim c.if-self-count.branch [
      | then-self-count w ↦ inl (
        w.if-self-count.true,
        ap (λ z. z.pieces) w.self-is,
        ap (λ z. z.ends) w.self-is ∙ w.none-self.ensures,
      )
      | else-self-count w ↦ inr (w.if-self-count.false, ap (λ z. z.pieces) w.self-is, ap (λ z. z.ends) w.self-is)
    ] in
    held_more xs (record { step = c.args.mv.now; path = path }) old.pieces c.args.count c.requires
    (EndsKept (These xs)) c.if-count-self.false left h (ends_bare refl) (λ more. ends_join more
    (c.with-self.ensures ∙ ap (λ m. fin.insert now.ends m.to) c.mv.view_is))
