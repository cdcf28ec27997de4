use Rattle.std.proofs.Common.{arith}
use Rattle.dw_games.proofs.BranchLemmas.{first_at, beyond, root_first, steps_length, not_empty}
use Rattle.dw_games.proofs.branches.first_child.Goals as goal

pub returns-in_err-get-in-Some : goal.returns-in_err-get-in-Some
returns-in_err-get-in-Some g c = rw (c.from_residual.ensures, c.in-Some.is)
    (beyond c.args.branches.now c.requires c.in-Some.above.0 (omega (arith, c.in_err-get-in-Some.ensures.lookup.3)))

pub returns-in_ok-get-in-Some : goal.returns-in_ok-get-in-Some
returns-in_ok-get-in-Some g c =
    let h = c.in_ok-get-in-Some.ensures.lookup in
    rw c.in-Some.is (c.requires.children c.in-Some.above.0 _
    (first_at c.args.branches.now c.in-Some.above.0 c.in_ok-get-in-Some.field-0.now h.3.0 h.1))

pub returns-in-None-2 : goal.returns-in-None-2
returns-in-None-2 g c =
    rw c.in-None.is (root_first _ c.requires.above
    (let some = not_empty _ c.if-is_empty.ensures in omega (arith, steps_length c.args.branches.now, some)))
