use Rattle.std.proofs.Common.{◌≡◌, ◌<◌, None, length, arith}
use Rattle.dw_games.specs.inner.Branches.{steps_of, behind}
use Rattle.dw_games.specs.Walk.{place_of}
use Rattle.dw_games.proofs.BranchLemmas.{child_inside, found_by, goes_on, unseen_all}
use Rattle.dw_games.proofs.branches.child_by.Goals as goal

pub is_by-requires : goal.is_by-requires
is_by-requires g c =
    let next = rw c.in-Some.is at c.siblings.invariant.next in child_inside c.args.branches.now _ _ next.1

pub returns-then-is_by : goal.returns-then-is_by
returns-then-is_by g c =
    let next = rw c.in-Some.is at c.siblings.invariant.next in found_by _ _ _ c.in-Some.node.0 next.1 c.if-is_by.ensures

pub siblings-smaller : goal.siblings-smaller
siblings-smaller g c =
    let next = rw c.in-Some.is at c.siblings.invariant.next in
    let inside : c.in-Some.node.0 < length c.args.branches.now = child_inside c.args.branches.now _ _ next.1 in
    omega (arith, next.0, inside)

pub siblings-preserved : goal.siblings-preserved
siblings-preserved g c =
    let next = rw c.in-Some.is at c.siblings.invariant.next in
    let on = goes_on (c.next_sibling-next.result ≡ None) (steps_of c.args.branches.now) (place_of c.args.parent)
    c.args.mv.now (behind (place_of c.siblings.last)) c.in-Some.node.0 (place_of c.next_sibling-next.result)
    c.siblings.invariant.unseen next c.if-is_by.ensures c.next_sibling-next.ensures in
    record { last = on.0; next = on.1; unseen = on.2 }

pub returns : goal.returns
returns g c =
    unseen_all _ _ _ _ c.siblings.invariant.last (rw c.in_default.is at c.siblings.invariant.next)
    c.siblings.invariant.unseen
