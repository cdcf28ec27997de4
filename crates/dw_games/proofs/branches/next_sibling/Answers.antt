use Rattle.dw_games.proofs.BranchLemmas.{step_at, next_at}
use Rattle.dw_games.proofs.branches.next_sibling.Goals as goal

pub returns : goal.returns
returns g c =
    let h = c.in_ok-get.ensures.lookup in
    let there = step_at c.args.branches.now c.args.node.0 c.in_ok-get.field-0.now h.3.0 h.1 in
    rw there (c.requires.siblings c.args.node.0 _ _ _
    (next_at c.args.branches.now c.args.node.0 c.in_ok-get.field-0.now h.3.0 h.1) there)
