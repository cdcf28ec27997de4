use Rattle.std.proofs.Common.{◌+◌, ◌-◌, ◌≤◌, sym, ap, ◌∙◌, subst, arith}
use Rattle.dw_moves.specs.inner.MemberLemmas.{mem_map}
use Rattle.dw_study.specs.inner.Checking.{FindsFirst}
use Rattle.dw_study.proofs.SeenLemmas.{SortedTo, sorted_none, sorted_fail, sorted_key, sorted_all, item_member}
use Rattle.dw_solve.specs.inner.QuestionLemmas.{answered, asked_none, asked_ok, asked_stop, asked_memory}
use Rattle.dw_study.proofs.AskedLemmas.{asked_on}
use Rattle.dw_study.proofs.remarks.sorted.Goals.{in-Some+in_ok-push-in-Some, in-None+in_ok-push-in-None}
use Rattle.dw_study.proofs.remarks.sorted.Goals as goal

pub children-init : goal.children-init
children-init g c = record {
  sorted = λ tree b all. sorted_none g.B.Board.geometry c.args.spot.now.position c.args.spot.now.left tree b
      c.args.spot.now.node c.args.children.now c.new-remarks.result.items c.new-followed.result.items
      c.new-remarks.ensures.items c.new-followed.ensures.items;
  asked = asked_none g.B.Board.geometry g.M.Memo.content g.M.Memo.dropped c.searches_add_up.ensures c.args.spot.now.left
      c.args.solver.now c.keeps_its_limit.ensures;
}

pub returns-in_err-reply-clause-asked : goal.returns-in_err-reply-clause-asked
returns-in_err-reply-clause-asked g c =
    let geo = g.B.Board.geometry in
    let content = g.M.Memo.content in
    let lost = g.M.Memo.dropped in
    let n = c.args.spot.now.left in
    let less : n - 1 ≤ n = omega arith in
    asked_on c.searches_add_up.ensures geo content lost (n - 1) n c.args.solver.now
    c.children.solver c.refutation.new.solver c.from_residual.result less c.children.invariant.asked
    (asked_stop geo content lost (n - 1) c.children.solver
    c.refutation.new.solver c.in_err-reply.field-0.0 c.from_residual.result c.from_residual.ensures.1
    c.in_err-reply.ensures.asked)

pub returns-in_err-push-in-Some-clause-asked : goal.returns-in_err-push-in-Some-clause-asked
returns-in_err-push-in-Some-clause-asked g c =
    let geo = g.B.Board.geometry in
    let content = g.M.Memo.content in
    let lost = g.M.Memo.dropped in
    let n = c.args.spot.now.left in
    let less : n - 1 ≤ n = omega arith in
    asked_memory geo content lost n c.args.solver.now c.refutation.new.solver
    c.from_residual-in_err-push-in-Some.result c.from_residual-in_err-push-in-Some.ensures.1
    (asked_on c.searches_add_up.ensures geo content lost (n - 1) n c.args.solver.now
    c.children.solver c.refutation.new.solver answered less c.children.invariant.asked
    (asked_ok geo content lost (n - 1) c.children.solver
    c.refutation.new.solver c.in_ok-reply.field-0 0 c.in_ok-reply.ensures.asked))

pub returns-in_err-push-in-None-clause-asked : goal.returns-in_err-push-in-None-clause-asked
returns-in_err-push-in-None-clause-asked g c =
    let geo = g.B.Board.geometry in
    let content = g.M.Memo.content in
    let lost = g.M.Memo.dropped in
    let n = c.args.spot.now.left in
    let less : n - 1 ≤ n = omega arith in
    asked_memory geo content lost n c.args.solver.now c.refutation.new.solver
    c.from_residual-in_err-push-in-None.result c.from_residual-in_err-push-in-None.ensures.1
    (asked_on c.searches_add_up.ensures geo content lost (n - 1) n c.args.solver.now
    c.children.solver c.refutation.new.solver answered less c.children.invariant.asked
    (asked_ok geo content lost (n - 1) c.children.solver
    c.refutation.new.solver c.in_ok-reply.field-0 0 c.in_ok-reply.ensures.asked))

pub children-preserved : goal.children-preserved
children-preserved g c =
    let geo = g.B.Board.geometry in
    let content = g.M.Memo.content in
    let lost = g.M.Memo.dropped in
    let p = c.args.spot.now.position in
    let n = c.args.spot.now.left in
    let children = c.args.children.now in
    let i = c.children.child-index in
    let item = c.child-item.result in
    let less : n - 1 ≤ n = omega arith in
    let member = item_member children i item c.children-test.true c.child-item.is in
    let legal = c.requires.legal item.mv (mem_map (λ d. d.mv) item children member) in
    let reached = c.requires.reached item member in
    record {
      sorted = λ tree b all. elim c.match-branch-2.branch [
        | in-Some+in_ok-push-in-Some w ↦
            subst (λ z. SortedTo geo p n tree b c.args.spot.now.node children (i + 1) c.match-branch-2.remarks.items z)
            (sym (ap (λ v. v.items) w.followed-is))
            (sorted_fail geo p n tree b c.args.spot.now.node children c.moves_have_keys.ensures all i item
            w.in-Some.reply item.position c.children.remarks.items c.match-branch-2.remarks.items
            c.children.followed.items c.children-test.true c.child-item.is reached
            (subst (FindsFirst geo item.position (n - 1)) w.in-Some.is c.in_ok-reply.ensures.found)
            (ap (λ v. v.items) w.remarks-is ∙ w.in_ok-push-in-Some.ensures) (c.children.invariant.sorted tree b all))
        | in-None+in_ok-push-in-None w ↦
            subst (λ z. SortedTo geo p n tree b c.args.spot.now.node children (i + 1) z c.match-branch-2.followed.items)
            (sym (ap (λ v. v.items) w.remarks-is))
            (sorted_key geo p n tree b c.args.spot.now.node children all i item item.position
            c.children.remarks.items c.children.followed.items c.match-branch-2.followed.items c.requires.some
            c.children-test.true c.child-item.is legal reached
            (subst (FindsFirst geo item.position (n - 1)) w.in-None.is c.in_ok-reply.ensures.found)
            (ap (λ v. v.items) w.followed-is ∙ w.in_ok-push-in-None.ensures) (c.children.invariant.sorted tree b all))
      ];
      asked = asked_on c.searches_add_up.ensures geo content lost (n - 1) n
          c.args.solver.now c.children.solver c.refutation.new.solver answered less c.children.invariant.asked
          (asked_ok geo content lost (n - 1) c.children.solver
          c.refutation.new.solver c.in_ok-reply.field-0 0 c.in_ok-reply.ensures.asked);
    }

pub returns-clause-sorted : goal.returns-clause-sorted
returns-clause-sorted g c = λ tree b all.
    sorted_all g.B.Board.geometry c.args.spot.now.position c.args.spot.now.left tree b c.args.spot.now.node
    c.args.children.now all c.children.child-index (record {
      remarks = c.children.remarks;
      followed = c.children.followed;
    }) (omega (arith, c.children-test.false)) (c.children.invariant.sorted tree b all)

pub returns-clause-asked : goal.returns-clause-asked
returns-clause-asked g c =
    asked_ok g.B.Board.geometry g.M.Memo.content g.M.Memo.dropped c.args.spot.now.left c.args.solver.now
    c.children.solver 0 _ c.children.invariant.asked
