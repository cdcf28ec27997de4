use Rattle.std.proofs.Common.{◌∙◌, refl, sym, ap, subst, arith, length}
use Rattle.dw_list.specs.Listing.{stack_of, solver_of}
use Rattle.dw_solution.specs.inner.Taking.{AreTaken}
use Rattle.dw_solve.specs.inner.CountLemmas.{counted_then}
use Rattle.dw_solution.proofs.TakingLemmas.{took_one, ended, stopped}
use Rattle.dw_solution.proofs.first.taken.Goals as goal

pub lines-init : goal.lines-init
lines-init g c = record {
  lender = refl;
  few = omega (arith, ap length c.new-tree.ensures);
  first = λ p n h. subst (λ z. AreTaken g.B.Board.geometry p n (stack_of c.args.lister.now) z)
      (sym c.new-tree.ensures) h;
  count = record { rises = omega arith; within = c.requires.counted; same = refl };
}

pub take_next-requires : goal.take_next-requires
take_next-requires g c =
    let r = c.requires.first in
    (omega arith, (omega arith, (r.0, r.1, c.lines.invariant.first r.0 r.1 r.2)))

pub returns-then-not-branch-clause-lines : goal.returns-then-not-branch-clause-lines
returns-then-not-branch-clause-lines g c p n lines h all =
    ended c.lines_exist.ensures g.B.Board.geometry p n c.args.most _ _ lines c.lines.tree c.take_next.new.tree
    (c.in_ok-take_next.ensures.taken p n (c.lines.invariant.first p n h)) c.if-not-branch.true c.lines.invariant.few all

pub lines-smaller : goal.lines-smaller
lines-smaller g c =
    let r = c.requires.first in
    let one = took_one g.B.Board.geometry r.0 r.1 _ _ c.lines.tree c.take_next.new.tree
    (c.in_ok-take_next.ensures.taken r.0 r.1 (c.lines.invariant.first r.0 r.1 r.2)) c.if-not-branch.false in
    omega (arith, one.1, c.len.ensures, c.lines-test.true)

pub lines-preserved : goal.lines-preserved
lines-preserved g c =
    let r = c.requires.first in
    let geo = g.B.Board.geometry in
    let one = took_one geo r.0 r.1 _ _ c.lines.tree c.take_next.new.tree
    (c.in_ok-take_next.ensures.taken r.0 r.1 (c.lines.invariant.first r.0 r.1 r.2)) c.if-not-branch.false in
    record {
      lender = c.take_next.ensures.lender ∙ c.lines.invariant.lender;
      few = omega (arith, one.1, c.len.ensures, c.lines-test.true);
      first = λ p n h. (took_one geo p n _ _ c.lines.tree c.take_next.new.tree
          (c.in_ok-take_next.ensures.taken p n (c.lines.invariant.first p n h)) c.if-not-branch.false).0;
      count = counted_then _ _ (solver_of c.lines.lister).expanded (solver_of c.lines.lister).limit _ _
          c.lines.invariant.count c.take_next.ensures.count;
    }

pub returns-clause-lines : goal.returns-clause-lines
returns-clause-lines g c p n lines h all =
    stopped c.lines_exist.ensures g.B.Board.geometry p n c.args.most c.in_ok-more.more lines c.lines.tree
    (c.in_ok-more.ensures.more p n c.lines.tree (c.lines.invariant.first p n h))
    (omega (arith, c.lines.invariant.few, c.len.ensures, c.lines-test.false)) all
