use Rattle.std.proofs.Common.{◌≡◌, [], sym, ap, ◌∙◌, subst, arith}
use Rattle.dw_moves.specs.inner.Walks.{Captures, MovesHeld, These}
use Rattle.dw_moves.proofs.FilledLemmas.{legal_quietly, legal_captures}
use Rattle.dw_moves.proofs.KeeperLemmas.{held_none, held_same, moves_alike, moves_bare}
use Rattle.dw_moves.proofs.legal.push_legal.Goals as goal

pub returns-in_ok-push_quiet : goal.returns-in_ok-push_quiet
returns-in_ok-push_quiet g c =
    let p = c.args.position.now in
    let o = c.in_ok-walked.ensures.kept in
    let f = c.walk_captures-walked.new.keeper in
    let none : c.replace.result.items ≡ [] = ap (λ z. z.items) c.replace.ensures.value ∙ c.requires in
    let h : MovesHeld (Captures g.B.Board.geometry p) f.most f.moves.items = held_same
    (o.held f [] (subst (MovesHeld (These []) 0) (sym none) (held_none moves_bare))) o.exactly moves_alike in
    legal_quietly g.B.Board.geometry p f.most f.moves.items c.push_quiet.new.moves.items c.if-longest-eq0.true h
    c.in_ok-push_quiet.ensures

pub returns-else-longest-eq0 : goal.returns-else-longest-eq0
returns-else-longest-eq0 g c =
    let p = c.args.position.now in
    let o = c.in_ok-walked.ensures.kept in
    let f = c.walk_captures-walked.new.keeper in
    let none : c.replace.result.items ≡ [] = ap (λ z. z.items) c.replace.ensures.value ∙ c.requires in
    let h : MovesHeld (Captures g.B.Board.geometry p) f.most f.moves.items = held_same
    (o.held f [] (subst (MovesHeld (These []) 0) (sym none) (held_none moves_bare))) o.exactly moves_alike in
    legal_captures g.B.Board.geometry p f.most f.moves.items (omega (arith, c.if-longest-eq0.false)) h
