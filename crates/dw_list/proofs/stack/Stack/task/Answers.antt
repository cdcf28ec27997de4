use Rattle.std.proofs.Common.{◌-◌, Some, sym, ap, ◌∙◌, subst, take, reverse, arith}
use Rattle.dw_moves.specs.Moves.{play}
use Rattle.dw_list.specs.LineStack.{LineStack}
use Rattle.dw_list.specs.inner.Levels.{AreLevels}
use Rattle.dw_list.proofs.StackLemmas.{behind_first}
use Rattle.dw_list.proofs.StackViewLemmas.{at_last, not_listed, all_passed}
use Rattle.dw_list.proofs.stack.Stack.task.Goals as goal

pub returns-then-not-is_listed : goal.returns-then-not-is_listed
returns-then-not-is_listed g c =
    let s = c.self.inside in
    let frame = c.index-frames-self.result in
    let here = at_last s.frames.items c.as_slice-frames.result.now s.depth frame c.self.invariant.1
    c.as_slice-frames.ensures.value c.index-frames-self.is (omega arith) in (
      frame,
      reverse (take (s.depth - 1) s.frames.items),
      ap (λ (z : LineStack). z.levels) (sym c.self.view_is) ∙ here,
      not_listed frame.ahead c.is_listed.result c.is_listed.ensures c.if-not-is_listed.true,
    )

pub candidate_of-requires : goal.candidate_of-requires
candidate_of-requires g c =
    let geo = g.B.Board.geometry in
    let s = c.self.inside in
    let frame = c.index-frames-self.result in
    let here = at_last s.frames.items c.as_slice-frames.result.now s.depth frame c.self.invariant.1
    c.as_slice-frames.ensures.value c.index-frames-self.is (omega arith) in
    let levels = subst (λ z. AreLevels geo s.position s.moves z (reverse s.line.items)) here c.self.invariant.0 in
    (behind_first geo frame.position c.in-Some.mv frame.ahead (sym c.first.ensures ∙ c.in-Some.is) levels.1).1

pub returns-in-None : goal.returns-in-None
returns-in-None g c =
    let s = c.self.inside in
    let frame = c.index-frames-self.result in
    let here = at_last s.frames.items c.as_slice-frames.result.now s.depth frame c.self.invariant.1
    c.as_slice-frames.ensures.value c.index-frames-self.is (omega arith) in (
      frame,
      reverse (take (s.depth - 1) s.frames.items),
      ap (λ (z : LineStack). z.levels) (sym c.self.view_is) ∙ here,
      all_passed frame.ahead c.is_listed.result
          c.is_listed.ensures c.if-not-is_listed.false (sym c.first.ensures ∙ c.in-None.is),
    )

pub returns-in-Some : goal.returns-in-Some
returns-in-Some g c =
    let s = c.self.inside in
    let frame = c.index-frames-self.result in
    let here = at_last s.frames.items c.as_slice-frames.result.now s.depth frame c.self.invariant.1
    c.as_slice-frames.ensures.value c.index-frames-self.is (omega arith) in
    record {
      last = frame;
      outer = reverse (take (s.depth - 1) s.frames.items);
      are = ap (λ (z : LineStack). z.levels) (sym c.self.view_is) ∙ here;
      first = sym c.first.ensures ∙ c.in-Some.is ∙ ap Some (sym c.candidate_of.ensures.mv);
      after = c.candidate_of.ensures.after ∙ ap (play g.B.Board.geometry frame.position)
          (sym c.candidate_of.ensures.mv);
      attacks = c.candidate_of.ensures.attacks;
      left = c.candidate_of.ensures.left;
    }
