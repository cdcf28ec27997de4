use Rattle.std.proofs.Common.{◌≤◌, ◌*◌, take, length, subst, arith}
use Rattle.std.proofs.lemmas.List.{length-reverse, length-take-le}
use Rattle.dw_list.specs.LineStack.{LineStack}
use Rattle.dw_list.proofs.StackViewLemmas.{seen_levels}
use Rattle.dw_list.proofs.stack.Stack.keeps_its_levels.Goals as goal

pub returns-clause-levels : goal.returns-clause-levels
returns-clause-levels g c = seen_levels g.B.Board.geometry _ _ c.self.view_is c.self.invariant.0

pub returns-clause-fits : goal.returns-clause-fits
returns-clause-fits g c =
    let s = c.self.inside in
    let inv = c.self.invariant in
    subst (λ (z : LineStack). length z.levels ≤ 2 * z.moves) c.self.view_is
    (omega (
      arith,
      inv.1,
      inv.2,
      length-reverse (take s.depth s.frames.items),
      length-take-le s.depth s.frames.items
          inv.1,
    ))
