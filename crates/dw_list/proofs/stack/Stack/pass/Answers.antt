use Rattle.std.proofs.Common.{take, reverse, arith}
use Rattle.std.proofs.lemmas.List.{length-take-le}
use Rattle.dw_list.proofs.StackViewLemmas.{ends, inside_passed, seen_passed}
use Rattle.dw_list.proofs.stack.Stack.pass.Goals as goal

pub invariant_of-self : goal.invariant_of-self
invariant_of-self g c =
    let s = c.self.inside in
    let inv = c.self.invariant in
    let old = take s.depth s.frames.items in
    let last = ends old (omega (arith, length-take-le s.depth s.frames.items inv.1, c.if-self-gt0.true)) in (
      inside_passed g.B.Board.geometry s.position s.moves old last.0 _ last.1 (reverse s.line.items) last.2
          (c.pass_last.ensures.passed last.0 last.1 last.2) inv.0,
      omega (arith, inv.1, c.pass_last.ensures.len),
      omega (arith, inv.2, c.pass_last.ensures.len),
      inv.3,
    )

pub returns-then-self-gt0 : goal.returns-then-self-gt0
returns-then-self-gt0 g c =
    let s = c.self.inside in
    let old = take s.depth s.frames.items in
    let last = ends old (omega (arith, length-take-le s.depth s.frames.items c.self.invariant.1, c.if-self-gt0.true)) in
    seen_passed c.args.self.now s.position s.moves (reverse s.line.items) old last.0 _ last.1 c.self.view_is last.2
    (c.pass_last.ensures.passed last.0 last.1 last.2)
