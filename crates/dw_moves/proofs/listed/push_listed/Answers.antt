use Rattle.std.proofs.Common.{[], sym, ap, ◌∙◌, subst}
use Rattle.std.proofs.lemmas.Bool.{true≢false}
use Rattle.std.proofs.lemmas.Result.{on_ok_weaker}
use Rattle.dw_moves.proofs.KeeperLemmas.{held_none, held_same, paths_alike, paths_bare}
use Rattle.dw_moves.specs.inner.Walks.{Captures, PathsHeld, These}
use Rattle.dw_moves.proofs.LeastPathLemmas.{captures_all, some_led, quiet_all_listed}
use Rattle.dw_moves.proofs.listed.push_listed.Goals as goal

pub returns-then-not-can_capture : goal.returns-then-not-can_capture
returns-then-not-can_capture g c =
    on_ok_weaker c.push_quiet.result (λ added. quiet_all_listed g.B.Board.geometry c.args.position.now
    c.args.list.now.items c.push_quiet.new.moves.items
    (λ can. true≢false (sym (c.can_capture.ensures.1 can) ∙ c.if-not-can_capture.true)) c.requires added)
    c.push_quiet.ensures

pub returns : goal.returns
returns g c =
    on_ok_weaker c.walk_captures-walked.result (λ o.
    let p = c.args.position.now in
    let least = c.walk_captures-walked.new.keeper in
    let none = ap (λ z. z.items) c.replace.ensures.value ∙ c.requires in
    let h : PathsHeld (Captures g.B.Board.geometry p) least.most least.list.items = held_same
    (o.held least [] (subst (PathsHeld (These []) 0) (sym none) (held_none paths_bare))) o.exactly paths_alike in
    captures_all g.B.Board.geometry p least.most least.list.items
    (some_led g.B.Board.geometry p least.most (c.can_capture.ensures.0 c.if-not-can_capture.false) h.most) h)
    c.walk_captures-walked.ensures.kept
