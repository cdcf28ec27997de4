use Rattle.std.proofs.Common.{ap}
use Rattle.std.proofs.Math.Seq.{map-set_same}
use Rattle.std.proofs.lemmas.List.{map-set}
use Rattle.dw_games.specs.Walk.{place_of}
use Rattle.dw_games.proofs.BranchLemmas.{step_of}
use Rattle.dw_games.proofs.branches.link.Goals as goal

pub returns-in-Some-clause-steps : goal.returns-in-Some-clause-steps
returns-in-Some-clause-steps g c =
    map-set_same _ c.args.branches.now.items c.in-Some.before.0 _ c.index_mut.result.now
    (ap (λ b. step_of b) c.index_mut.ensures.value)

pub returns-in-Some-clause-positions : goal.returns-in-Some-clause-positions
returns-in-Some-clause-positions g c =
    map-set_same _ c.args.branches.now.items c.in-Some.before.0 _ c.index_mut.result.now
    (ap (λ b. b.position) c.index_mut.ensures.value)

pub returns-in-Some-clause-firsts : goal.returns-in-Some-clause-firsts
returns-in-Some-clause-firsts g c = rw c.in-Some.is
    (map-set_same _ c.args.branches.now.items c.in-Some.before.0 _ c.index_mut.result.now
    (ap (λ b. place_of b.first_child) c.index_mut.ensures.value))

pub returns-in-Some-clause-nexts : goal.returns-in-Some-clause-nexts
returns-in-Some-clause-nexts g c = rw c.in-Some.is (map-set _ c.args.branches.now.items c.in-Some.before.0 _)

pub returns-in-Some-parent-clause-steps : goal.returns-in-Some-parent-clause-steps
returns-in-Some-parent-clause-steps g c =
    map-set_same _ c.args.branches.now.items c.in-Some-parent.above.0 _ c.index_mut-in-Some-parent.result.now
    (ap (λ b. step_of b) c.index_mut-in-Some-parent.ensures.value)

pub returns-in-Some-parent-clause-positions : goal.returns-in-Some-parent-clause-positions
returns-in-Some-parent-clause-positions g c =
    map-set_same _ c.args.branches.now.items c.in-Some-parent.above.0 _ c.index_mut-in-Some-parent.result.now
    (ap (λ b. b.position) c.index_mut-in-Some-parent.ensures.value)

pub returns-in-Some-parent-clause-firsts : goal.returns-in-Some-parent-clause-firsts
returns-in-Some-parent-clause-firsts g c = rw (c.in_default.is, c.in-Some-parent.is)
    (map-set _ c.args.branches.now.items c.in-Some-parent.above.0 _)

pub returns-in-Some-parent-clause-nexts : goal.returns-in-Some-parent-clause-nexts
returns-in-Some-parent-clause-nexts g c = rw c.in_default.is
    (map-set_same _ c.args.branches.now.items c.in-Some-parent.above.0 _ c.index_mut-in-Some-parent.result.now
    (ap (λ b. place_of b.next_sibling) c.index_mut-in-Some-parent.ensures.value))
