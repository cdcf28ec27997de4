use Rattle.std.proofs.Common.{◌∙◌, ◌++◌, ◌∷◌, [], ap, sym, subst, take, reverse, arith, lit<}
use Rattle.std.proofs.lemmas.List.{length-reverse, length-take-le}
use Rattle.dw_list.specs.LineStack.{LineStack}
use Rattle.std.specs.Prelude.{not}
use Rattle.dw_list.specs.inner.Levels.{AreLevels}
use Rattle.dw_list.specs.inner.Steps.{begun}
use Rattle.dw_list.proofs.StackViewLemmas.{end_first, entering, inside_entered, seen_entered}
use Rattle.dw_list.proofs.stack.Stack.enter.Goals as goal

pub pass_last-requires : goal.pass_last-requires
pass_last-requires g c =
    let s = c.self.inside in
    let inv = c.self.invariant in
    let at = entering g.B.Board.geometry s.position s.moves s.frames.items c.args.self.now.levels s.depth _
    c.args.candidate.now (ap (λ (z : LineStack). z.levels) c.self.view_is) c.requires.first inv.1 inv.2 inv.0 in
    (lit< tt, (at.1, inv.1))

pub begin_next-requires : goal.begin_next-requires
begin_next-requires g c =
    let s = c.self.inside in
    let inv = c.self.invariant in
    let at = entering g.B.Board.geometry s.position s.moves s.frames.items c.args.self.now.levels s.depth _
    c.args.candidate.now (ap (λ (z : LineStack). z.levels) c.self.view_is) c.requires.first inv.1 inv.2 inv.0 in
    (lit< tt, (omega (arith, inv.1, c.pass_last.ensures.len), omega (arith, at.3, inv.3)))

pub push-requires : goal.push-requires
push-requires g c =
    let s = c.self.inside in
    let inv = c.self.invariant in
    let at = entering g.B.Board.geometry s.position s.moves s.frames.items c.args.self.now.levels s.depth _
    c.args.candidate.now (ap (λ (z : LineStack). z.levels) c.self.view_is) c.requires.first inv.1 inv.2 inv.0 in
    (lit< tt, omega (arith, at.2, inv.3, length-reverse s.line.items))

pub invariant_of-self : goal.invariant_of-self
invariant_of-self g c =
    let geo = g.B.Board.geometry in
    let s = c.self.inside in
    let inv = c.self.invariant in
    let first = c.requires.first in
    let t = c.args.candidate.now in
    let at = entering geo s.position s.moves s.frames.items c.args.self.now.levels s.depth _
    t (ap (λ (z : LineStack). z.levels) c.self.view_is) first inv.1 inv.2 inv.0 in
    let is = c.begin_next.ensures.begun ∙ ap (λ z. z ++ begun t.after (not t.attacks) t.left ∷ [])
    (c.pass_last.ensures.passed (reverse first.outer) first.last at.0) in (
      subst (AreLevels geo s.position s.moves _) (sym (end_first _ _ _ c.push.ensures.items))
          (inside_entered geo s.position s.moves (take s.depth s.frames.items) (reverse first.outer) _ first.last
          (reverse s.line.items) t.mv t.after t.attacks t.left at.0 is first.first first.after first.attacks first.left
          c.requires.keeps (omega (arith, inv.1, inv.2, length-take-le s.depth s.frames.items inv.1)) inv.0),
      omega (arith, c.begin_next.ensures.len),
      omega (arith, c.begin_next.ensures.len, c.pass_last.ensures.len, at.3, inv.2),
      inv.3,
    )

pub returns : goal.returns
returns g c =
    let s = c.self.inside in
    let inv = c.self.invariant in
    let first = c.requires.first in
    let t = c.args.candidate.now in
    let at = entering g.B.Board.geometry s.position s.moves s.frames.items c.args.self.now.levels s.depth _ t
    (ap (λ (z : LineStack). z.levels) c.self.view_is) first inv.1 inv.2 inv.0 in
    let is = c.begin_next.ensures.begun ∙ ap (λ z. z ++ begun t.after (not t.attacks) t.left ∷ [])
    (c.pass_last.ensures.passed (reverse first.outer) first.last at.0) in
    seen_entered c.args.self.now s.position s.moves s.line.items c.push.new.self.items t.mv
    (take s.depth s.frames.items) (reverse first.outer) _ first.last _ c.self.view_is c.push.ensures.items at.0 is
