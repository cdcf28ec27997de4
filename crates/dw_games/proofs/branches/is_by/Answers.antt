use Rattle.std.proofs.Common.{get_or, sym, ap, ◌∙◌}
use Rattle.dw_moves.specs.inner.MoveLemmas.{same_moves-is}
use Rattle.dw_games.specs.Walk.{place_of}
use Rattle.dw_games.specs.inner.Branches.{steps_of}
use Rattle.dw_games.proofs.BranchLemmas.{step_at, same_step}
use Rattle.dw_games.proofs.branches.is_by.Goals as goal

pub returns : goal.returns
returns g c = λ parent m e.
    let b = c.index-branches-node.result in
    let there = step_at c.args.branches.now c.args.node.0 b c.requires c.index-branches-node.is in
    let same = (same_step (steps_of c.args.branches.now) parent (place_of b.parent) m b.mv c.args.node.0 e there).1 in
    let read = ap (λ x. x.mv) c.index-branches-node.is in
    let is = same_moves-is (get_or c.args.branches.now c.args.node.0 b).mv c.args.mv.now in
    ((λ h. same ∙ (read ∙ is.0 (sym c.eq.ensures ∙ h))), (λ h. c.eq.ensures ∙ is.1 (sym (same ∙ read) ∙ h)))
