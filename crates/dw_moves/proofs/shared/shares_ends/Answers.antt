use Rattle.std.proofs.Common.{[], ◌∙◌, subst, sym}
use Rattle.dw_moves.specs.inner.Walks.{Captures, Held, IsTwin, OneKept}
use Rattle.dw_moves.proofs.FilledLemmas.{shares_if_sought}
use Rattle.dw_moves.proofs.KeeperLemmas.{held_same, one_alike}
use Rattle.dw_moves.proofs.shared.shares_ends.Goals as goal

pub returns : goal.returns
returns g c =
    let E = Captures g.B.Board.geometry c.args.position.now in
    let o = c.in-Ok.ensures.kept in
    let k = c.walk_captures.new.keeper in
    let sought = o.held c.of-seeker.result [] c.of-seeker.ensures.none in
    let h : Held E k.most (OneKept E (IsTwin c.args.mv.now) k.most k.found) =
    held_same sought.held o.exactly (λ a h.
    subst (λ z. OneKept E (IsTwin z.mv.now) k.most k.found) c.of-seeker.ensures.aim (one_alike a h)) in
    let is = shares_if_sought h in
    ((λ t. is.0 (sym c.is_some.ensures ∙ t)), (λ l. c.is_some.ensures ∙ is.1 l))
