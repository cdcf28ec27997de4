use Rattle.std.proofs.Common.{◌≡◌, ◌∷◌, ◌++◌, [], ap, ◌∙◌, length, rules, arith}
use Rattle.dw_solution.proofs.HeldLemmas.{held_push}
use Rattle.dw_solution.proofs.line_tree.LineTree.push.Goals as goal

pub invariant_of-self-2 : goal.invariant_of-self-2
invariant_of-self-2 g c =
    let s = c.shared-shared.ensures in
    let latest : c.try_extend_from_slice.new.self.items ≡ c.args.line.now = search (rules, arith) in
    (held_push _ c.self.inside.steps.items c.add_steps.new.steps.items c.self.inside.ends.items
    c.push_reserved.new.self.items c.self.inside.last.items c.args.line.now c.try_extend_from_slice.new.self.items
    c.shared-shared.result _ c.split_at.result.1.now c.args.self.now c.self.view_is c.self.invariant c.requires.follows
    (rw c.as_slice.ensures.value at s.last) s.line (rw c.as_slice.ensures.value at s.same)
    (rw c.as_slice.ensures.value at s.differ) c.split_at.ensures.back c.in_ok-add_steps.ensures.added
    (ap length c.as_slice-end.ensures.value) latest
    (c.push_reserved.ensures.items ∙ ap (λ z. z ++ length c.as_slice-end.result.now ∷ []) c.reserve.ensures.items)).0

pub returns-clause-pushed : goal.returns-clause-pushed
returns-clause-pushed g c =
    let s = c.shared-shared.ensures in
    let latest : c.try_extend_from_slice.new.self.items ≡ c.args.line.now = search (rules, arith) in
    (held_push _ c.self.inside.steps.items c.add_steps.new.steps.items c.self.inside.ends.items
    c.push_reserved.new.self.items c.self.inside.last.items c.args.line.now c.try_extend_from_slice.new.self.items
    c.shared-shared.result _ c.split_at.result.1.now c.args.self.now c.self.view_is c.self.invariant c.requires.follows
    (rw c.as_slice.ensures.value at s.last) s.line (rw c.as_slice.ensures.value at s.same)
    (rw c.as_slice.ensures.value at s.differ) c.split_at.ensures.back c.in_ok-add_steps.ensures.added
    (ap length c.as_slice-end.ensures.value) latest
    (c.push_reserved.ensures.items ∙ ap (λ z. z ++ length c.as_slice-end.result.now ∷ []) c.reserve.ensures.items)).1
