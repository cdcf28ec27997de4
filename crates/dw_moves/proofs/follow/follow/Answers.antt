use Rattle.std.proofs.Common.{[], subst}
use Rattle.dw_moves.specs.inner.Walks.{Along, Captures, OneKept}
use Rattle.dw_moves.proofs.KeeperLemmas.{held_same, one_alike}
use Rattle.dw_moves.proofs.FollowedLemmas.{followed}
use Rattle.dw_moves.proofs.follow.follow.Goals as goal

pub returns : goal.returns
returns g c =
    let E = Captures g.B.Board.geometry c.args.position.now in
    let o = c.in-Ok.ensures.kept in
    let k = c.walk_captures.new.keeper in
    let sought = o.held c.of-seeker.result [] c.of-seeker.ensures.none in
    let f = followed g.met.B.Board.numbers (held_same sought.held o.exactly (λ a h.
    subst (λ z. OneKept E (Along z.squares.now) k.most k.found) c.of-seeker.ensures.aim (one_alike a h))) in
    record { path = f.0; legal = f.1 }
