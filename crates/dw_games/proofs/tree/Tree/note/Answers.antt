use Rattle.std.proofs.Common.{◌≡◌, length, sym, ap, ◌∙◌}
use Rattle.dw_games.specs.Walk.{place_of}
use Rattle.dw_games.specs.inner.Branches.{steps_of}
use Rattle.dw_games.proofs.BranchLemmas.{steps_length}
use Rattle.dw_games.proofs.TreeLemmas.{noted_again, noted_new, place_at, place_longer, last_place}
use Rattle.dw_games.proofs.TreeLemmas.{tree_now, steps_now, new_steps}
use Rattle.dw_games.proofs.tree.Tree.note.Goals as goal

pub returns-in-Child-clause-noted : goal.returns-in-Child-clause-noted
returns-in-Child-clause-noted g c = rw (← c.self.view_is) (λ b e. (noted_again _ _ _ c.self.invariant.hang
    (place_of c.args.parent) c.args.mv.now c.in-Child.node.0 (rw c.as_slice.ensures.value at c.in-Child.ensures) b e).0)

pub returns-in-Child-clause-node : goal.returns-in-Child-clause-node
returns-in-Child-clause-node g c = rw (← c.self.view_is) (λ b e. (noted_again _ _ _ c.self.invariant.hang
    (place_of c.args.parent) c.args.mv.now c.in-Child.node.0 (rw c.as_slice.ensures.value at c.in-Child.ensures) b e).1)

pub link-requires-clause-parent : goal.link-requires-clause-parent
link-requires-clause-parent g c =
    let follows = rw (← c.self.view_is) at c.requires in
    rw (steps_now c.self.inside.branches.items _ _ c.in_ok-push.ensures.items)
    (place_longer _ _ _ (place_at _ _ _ c.self.invariant.hang (place_of c.args.parent) follows.0 follows.1).0)

pub link-requires-clause-last : goal.link-requires-clause-last
link-requires-clause-last g c =
    let found = rw c.as_slice.ensures.value at c.in-Last.ensures in
    rw (steps_now c.self.inside.branches.items _ _ c.in_ok-push.ensures.items)
    (place_longer _ _ _ (last_place _ (place_of c.args.parent) (place_of c.in-Last.last) found.1))

pub invariant_of-self-2 : goal.invariant_of-self-2
invariant_of-self-2 g c =
    let found = rw c.as_slice.ensures.value at c.in-Last.ensures in
    tree_now _ _ c.self.inside.branches.items c.push.new.self.items c.link.new.branches.items c.args.parent
    c.in-Last.last c.args.mv.now c.args.position.now (length c.as_slice-place.result.now) c.self.invariant
    (rw (← c.self.view_is) at c.requires) found.1 found.0 (ap length c.as_slice-place.ensures.value)
    c.in_ok-push.ensures.items c.link.ensures.steps c.link.ensures.positions c.link.ensures.firsts c.link.ensures.nexts

pub returns-clause-noted : goal.returns-clause-noted
returns-clause-noted g c =
    let found = rw c.as_slice.ensures.value at c.in-Last.ensures in
    rw (← c.self.view_is) (λ b e. (noted_new _ _ _ c.self.invariant.hang (place_of c.args.parent) c.args.mv.now
    (steps_of c.link.new.branches.items) found.0 (new_steps c.self.inside.branches.items c.push.new.self.items
    c.link.new.branches.items c.args.parent c.args.mv.now c.args.position.now c.in_ok-push.ensures.items
    c.link.ensures.steps) b e).0)

pub returns-clause-node : goal.returns-clause-node
returns-clause-node g c =
    let found = rw c.as_slice.ensures.value at c.in-Last.ensures in
    let here : length (steps_of c.self.inside.branches.items) ≡ length c.as_slice-place.result.now =
    steps_length c.self.inside.branches.items ∙ sym (ap length c.as_slice-place.ensures.value) in
    rw (← here, ← c.self.view_is) (λ b e. (noted_new _ _ _ c.self.invariant.hang (place_of c.args.parent) c.args.mv.now
    (steps_of c.link.new.branches.items) found.0 (new_steps c.self.inside.branches.items c.push.new.self.items
    c.link.new.branches.items c.args.parent c.args.mv.now c.args.position.now c.in_ok-push.ensures.items
    c.link.ensures.steps) b e).1)
