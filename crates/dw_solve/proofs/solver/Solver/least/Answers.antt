use Rattle.std.proofs.Common.{◌≤◌, arith, refl, sym, inr}
use Rattle.std.proofs.lemmas.Bool.{true≢false}
use Rattle.dw_solve.specs.inner.CountLemmas.{counted_none, counted_then}
use Rattle.dw_solve.proofs.WorkLemmas.{stop_passed, searched_stop, searched_wider, searched_looser}
use Rattle.dw_solve.proofs.TriedLemmas.{decided_none, decided_more, decided_by_win, decided_all, searched_after}
use Rattle.dw_solve.proofs.SearchLemmas.{unchanged_none, unchanged_then, decided_same}
use Rattle.dw_solve.proofs.SearchLemmas.{none_below_one, none_below_more, is_so, is_not}
use Rattle.dw_solve.proofs.solver.Solver.least.Goals as goal

pub moves-init : goal.moves-init
moves-init g c = (
  (c.keeps_its_facts.ensures.right, c.keeps_its_facts.ensures.map),
  (
    counted_none c.args.self.now.expanded c.args.self.now.limit c.keeps_its_limit.ensures,
    (
      none_below_one g.B.Board.geometry c.args.position.now,
      decided_none g.B.Board.geometry c.args.most c.args.position.now _,
      λ all. unchanged_none _ _,
    ),
  ),
)

pub moves-preserved : goal.moves-preserved
moves-preserved g c = (
  (c.in_ok-wins.ensures.right, c.in_ok-wins.ensures.map),
  (
    counted_then _ _ _ _ _ _ c.moves.invariant.1.0 c.in_ok-wins.ensures.asked.count,
    (
      none_below_more g.B.Board.geometry c.args.position.now c.moves.moves c.moves.invariant.1.1.0
          (is_not c.in_ok-wins.field-0 _ c.in_ok-wins.ensures.answer c.if-branch.false),
      decided_more g.B.Board.geometry c.args.most c.args.position.now c.moves.moves c.in_ok-wins.field-0 _ _ _
          c.moves.auto.moves (omega (arith, c.moves-test.true)) c.if-branch.false
          c.moves.invariant.1.1.1 c.in_ok-wins.ensures.asked.searched c.in_ok-wins.ensures.says,
      λ all.
          let before = c.moves.invariant.1.1.2 all in
          let here = c.in_ok-wins.ensures.known
          (inr (decided_same _ _ c.args.position.now c.moves.moves before.1 (all c.moves.moves c.moves.auto.moves
          (omega (arith, c.moves-test.true))))) in
          unchanged_then _ _ _ _ _ _ before here.1,
    ),
  ),
)

pub returns-then-branch-clause-answer : goal.returns-then-branch-clause-answer
returns-then-branch-clause-answer g c = (
  c.moves.auto.moves,
  omega (arith, c.moves-test.true),
  is_so c.in_ok-wins.field-0 _ c.in_ok-wins.ensures.answer c.if-branch.true,
  c.moves.invariant.1.1.0,
)

pub returns-clause-answer : goal.returns-clause-answer
returns-clause-answer g c = c.moves.invariant.1.1.0 c.args.most (omega (arith, c.moves-test.false))

pub returns-clause-right : goal.returns-clause-right
returns-clause-right g c = c.moves.invariant.0.0

pub returns-clause-map : goal.returns-clause-map
returns-clause-map g c = c.moves.invariant.0.1

pub returns-then-branch-clause-says : goal.returns-then-branch-clause-says
returns-then-branch-clause-says g c =
    decided_by_win g.B.Board.geometry c.args.most c.args.position.now c.moves.moves c.in_ok-wins.field-0 _ _ _
    c.if-branch.true c.moves.invariant.1.1.1 c.in_ok-wins.ensures.asked.searched c.in_ok-wins.ensures.says

pub returns-clause-says : goal.returns-clause-says
returns-clause-says g c = decided_all g.B.Board.geometry c.args.most c.args.position.now c.moves.moves _ _
    (omega (arith, c.moves-test.false)) c.moves.invariant.1.1.1

pub returns-then-branch-clause-known : goal.returns-then-branch-clause-known
returns-then-branch-clause-known g c all =
    let before = c.moves.invariant.1.1.2 all in
    let here = c.in_ok-wins.ensures.known
    (inr (decided_same _ _ c.args.position.now c.moves.moves before.1 (all c.moves.moves c.moves.auto.moves
    (omega (arith, c.moves-test.true))))) in
    let after = unchanged_then _ _ _ _ _ _ before here.1 in
    (refl, after)

pub returns-clause-known : goal.returns-clause-known
returns-clause-known g c all = let u = c.moves.invariant.1.1.2 all in (refl, u)

pub returns-in_err-wins-clause-known : goal.returns-in_err-wins-clause-known
returns-in_err-wins-clause-known g c all =
    let before = c.moves.invariant.1.1.2 all in
    let here = c.in_err-wins.ensures.known
    (inr (decided_same _ _ c.args.position.now c.moves.moves before.1 (all c.moves.moves c.moves.auto.moves
    (omega (arith, c.moves-test.true))))) in
    absurd (true≢false (sym here.0))

pub returns-then-branch-clause-asked : goal.returns-then-branch-clause-asked
returns-then-branch-clause-asked g c = record {
  count = counted_then _ _ _ _ _ _ c.moves.invariant.1.0 c.in_ok-wins.ensures.asked.count;
  stop = λ e. cc;
  searched = searched_after _ c.args.most 0 _ _ _ c.moves.invariant.1.1.1.0 (searched_wider _ c.moves.moves c.args.most
      0 _ _ (omega (arith, c.moves-test.true)) c.in_ok-wins.ensures.asked.searched);
}

pub returns-clause-asked : goal.returns-clause-asked
returns-clause-asked g c = record {
  count = c.moves.invariant.1.0;
  stop = λ e. cc;
  searched =
      c.moves.invariant.1.1.1.0;
}

pub returns-in_err-wins-clause-asked : goal.returns-in_err-wins-clause-asked
returns-in_err-wins-clause-asked g c =
    let within : c.moves.moves ≤ c.args.most = omega (arith, c.moves-test.true) in record {
      count = counted_then _ _ _ _ _ _ c.moves.invariant.1.0 c.in_err-wins.ensures.asked.count;
      stop = stop_passed c.in_err-wins.field-0.0 c.from_residual.result _ c.from_residual.ensures.1
          c.in_err-wins.ensures.asked.stop;
      searched = searched_stop _ c.args.most c.from_residual.result _ _ c.from_residual.ensures.0
          (searched_after _ c.args.most c.args.most _ _ _ c.moves.invariant.1.1.1.0
          (searched_looser _ c.args.most c.moves.moves c.args.most _ _ within
          (searched_wider _ c.moves.moves c.args.most c.moves.moves _ _ within
          c.in_err-wins.ensures.asked.searched)));
    }
