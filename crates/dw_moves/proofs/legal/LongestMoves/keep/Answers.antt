use Rattle.std.proofs.Common.{[], sym, ap, ◌∙◌, inl, inr}
use Rattle.std.specs.List.{list_any}
use Rattle.dw_moves.specs.inner.MoveLemmas.{same_moves}
use Rattle.dw_moves.specs.inner.Walks.{MovesKept, These}
use Rattle.dw_moves.proofs.KeeperLemmas.{Left, held_more, moves_bare, moves_new, moves_old}
use Rattle.dw_moves.proofs.legal.LongestMoves.keep.Goals as goal
use Rattle.dw_moves.proofs.legal.LongestMoves.keep.Goals.{then-self-count, else-self-count}

pub returns-in_ok-push : goal.returns-in_ok-push
returns-in_ok-push g c = λ xs path h.
    let old = c.args.self.now in
    let now = c.if-self-count.self in
    let left : Left old.most c.args.count now.most [] old.moves.items now.moves.items = elim c.if-self-count.branch [
      | then-self-count w ↦ inl (
        w.if-self-count.true,
        ap (λ z. z.most) w.self-is,
        ap (λ z. z.moves.items) w.self-is ∙ w.clear.ensures.items,
      )
      | else-self-count w ↦
          inr (w.if-self-count.false, ap (λ z. z.most) w.self-is, ap (λ z. z.moves.items) w.self-is)
    ] in
    held_more xs (record { step = c.args.mv; path = path }) old.most c.args.count c.requires.counted
    (MovesKept (These xs)) c.requires.longest left h moves_bare (λ more. moves_new more
    (ap (list_any (λ y. same_moves y c.args.mv)) (sym c.deref.ensures.value)
    ∙ (sym c.contains.ensures.value ∙ c.if-not-contains.true)) c.in_ok-push.ensures.items)

pub returns-else-not-contains : goal.returns-else-not-contains
returns-else-not-contains g c = λ xs path h.
    let old = c.args.self.now in
    let now = c.if-self-count.self in
    let left : Left old.most c.args.count now.most [] old.moves.items now.moves.items = elim c.if-self-count.branch [
      | then-self-count w ↦ inl (
        w.if-self-count.true,
        ap (λ z. z.most) w.self-is,
        ap (λ z. z.moves.items) w.self-is ∙ w.clear.ensures.items,
      )
      | else-self-count w ↦
          inr (w.if-self-count.false, ap (λ z. z.most) w.self-is, ap (λ z. z.moves.items) w.self-is)
    ] in
    held_more xs (record { step = c.args.mv; path = path }) old.most c.args.count c.requires.counted
    (MovesKept (These xs)) c.requires.longest left h moves_bare (λ more. moves_old more
    (ap (list_any (λ y. same_moves y c.args.mv)) (sym c.deref.ensures.value)
    ∙ (sym c.contains.ensures.value ∙ c.if-not-contains.false)))
