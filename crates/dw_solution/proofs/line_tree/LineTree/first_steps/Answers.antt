use Rattle.std.proofs.Common.{◌<◌, ◌-◌, length, arith, ap, ◌∙◌, take}
use Rattle.dw_solution.proofs.HeldLemmas.{end_within, first_end}
use Rattle.dw_solution.proofs.line_tree.LineTree.first_steps.Goals as goal

pub split_at-requires : goal.split_at-requires
split_at-requires g c =
    let low : c.args.lines - 1 < length c.self.inside.ends.items =
    omega (arith, c.requires, c.self.invariant.many, ap length c.self.view_is) in
    let h = end_within _ c.self.inside.steps.items c.self.inside.ends.items (c.args.lines - 1) c.index-end.result.now
    c.self.invariant.ends low c.index-end.ensures in
    omega (arith, h, ap length c.as_slice.ensures.value)

pub returns : goal.returns
returns g c =
    let low : c.args.lines - 1 < length c.self.inside.ends.items =
    omega (arith, c.requires, c.self.invariant.many, ap length c.self.view_is) in
    first_end _ c.self.inside.steps.items c.split_at.result.0.now c.self.inside.ends.items c.args.lines
    c.index-end.result.now c.args.self.now c.self.invariant.ends c.self.view_is (omega arith) low c.index-end.ensures
    (c.split_at.ensures.front ∙ ap (take c.index-end.result.now) c.as_slice.ensures.value)
