use Rattle.std.proofs.Common.{◌≤◌, ◌-◌, ◌∙◌, sym, subst, arith, refl, rules}
use Rattle.dw_solve.specs.inner.CountLemmas.{counted_then}
use Rattle.dw_solve.specs.Questions.{moment_of}
use Rattle.dw_solve.specs.inner.QuestionLemmas.{answered, asked_stop, asked_wider}
use Rattle.dw_study.proofs.AskedLemmas.{asked_on}
use Rattle.dw_study.proofs.FindingLemmas.{number_for}
use Rattle.dw_study.proofs.LookingLemmas.{looked, searched_then, sought_cut, sought_stopped}
use Rattle.dw_study.proofs.LookingLemmas.{sought_undecided}
use Rattle.dw_study.proofs.OpenLemmas.{each_is, few_within, no_lower, says_on, stays_stopped}
use Rattle.dw_study.proofs.find.find.Goals as goal

pub returns-in_ok-judged-in-Ok-clause-finding : goal.returns-in_ok-judged-in-Ok-clause-finding
returns-in_ok-judged-in-Ok-clause-finding g c = (
  number_for g.B.Board.geometry c.args.position.now c.args.bounds.is_least c.args.bounds.moves.value c.in-Ok.reached
      c.judged_at-moves.result.value c.in-Ok.ensures.number.2 c.judged_at-moves.ensures.value,
  c.in_ok-judged-in-Ok.ensures.verdict,
  c.in_ok-judged-in-Ok.ensures.tries,
)

pub returns-in_err-judged-in-Ok-clause-sought : goal.returns-in_err-judged-in-Ok-clause-sought
returns-in_err-judged-in-Ok-clause-sought g c =
    let geo = g.B.Board.geometry in
    let content = g.M.Memo.content in
    let lost = g.M.Memo.dropped in
    let law = c.searches_add_up.ensures in
    let n = c.args.bounds.moves.value in
    let k = c.in-Ok.reached in
    let at = c.judged_at-moves.result.value in
    let before = c.args.solver.now in
    let then = c.number_within.new.solver in
    let after = c.judge.new.solver in
    let result = c.from_residual.result in
    let stopped = c.in_err-judged-in-Ok.ensures in
    sought_stopped geo content lost n before after result c.in_err-judged-in-Ok.field-0.0 c.from_residual.ensures.1
    (asked_wider geo content lost law at n before after result c.judged_at-moves.ensures.within
    (asked_on law geo content lost at at before then after result (omega arith)
    (asked_wider geo content lost law k at before then answered c.judged_at-moves.ensures.more
    (looked geo content lost _ k before then c.in-Ok.ensures.looks))
    (asked_stop geo content lost at then after c.in_err-judged-in-Ok.field-0.0 result c.from_residual.ensures.1
    (record { count = stopped.count; stop = stopped.stop; searched = stopped.searched }))))

pub returns-in_ok-judged-in-Ok-clause-sought : goal.returns-in_ok-judged-in-Ok-clause-sought
returns-in_ok-judged-in-Ok-clause-sought g c =
    let geo = g.B.Board.geometry in
    let content = g.M.Memo.content in
    let lost = g.M.Memo.dropped in
    let looks = c.in-Ok.ensures.looks in
    let judged = c.in_ok-judged-in-Ok.ensures in
    record {
      count = counted_then _ _ _ _ _ _ looks.count judged.count;
      stop = λ e. cc;
      searched = searched_then c.searches_add_up.ensures geo c.in-Ok.reached c.judged_at-moves.result.value 0
          (moment_of content lost c.args.solver.now) (moment_of content lost c.number_within.new.solver)
          (moment_of content lost c.judge.new.solver) c.judged_at-moves.ensures.more looks.searched judged.searched;
    }

pub returns-in-Err-clause-sought : goal.returns-in-Err-clause-sought
returns-in-Err-clause-sought g c =
    sought_undecided g.B.Board.geometry g.M.Memo.content g.M.Memo.dropped c.args.bounds.moves.value _
    c.args.solver.now c.number_within.new.solver _ c.in-Err.ensures.looks

pub returns-in-Err-2-clause-sought : goal.returns-in-Err-2-clause-sought
returns-in-Err-2-clause-sought g c =
    sought_cut g.B.Board.geometry g.M.Memo.content g.M.Memo.dropped c.searches_add_up.ensures
    c.args.bounds.moves.value _ c.args.solver.now c.number_within.new.solver c.in-Err-2.cut _ (search rules)
    (let below = c.in-Err-2.ensures.number.0 in omega (arith, below)) c.in-Err-2.ensures.looks

pub returns-in_err-judged-in-Ok-clause-stays : goal.returns-in_err-judged-in-Ok-clause-stays
returns-in_err-judged-in-Ok-clause-stays g c =
    stays_stopped g.M.Memo.content c.args.position.now c.args.bounds.each c.args.solver.now c.judge.new.solver
    c.from_residual.result c.in_err-judged-in-Ok.field-0.0 c.from_residual.ensures.1

pub returns-in_ok-judged-in-Ok-clause-stays : goal.returns-in_ok-judged-in-Ok-clause-stays
returns-in_ok-judged-in-Ok-clause-stays g c =
    record { undecided = λ k same. cc; known = λ j k says same. cc }

pub returns-in-Err-clause-stays : goal.returns-in-Err-clause-stays
returns-in-Err-clause-stays g c =
    record {
      undecided = λ k same. (
        c.number_within.new.solver.expanded - c.args.solver.now.expanded,
        each_is c.args.bounds.each (c.expanded.result - c.expanded-start.result)
            (c.number_within.new.solver.expanded - c.args.solver.now.expanded)
            (sym c.eq-then-eq.ensures ∙ c.if-eq-2.true) (omega arith),
        omega arith,
      );
      known = λ j k says same. subst (λ z. j ≤ z) (no_lower _ k _ refl same) (c.in-Err.ensures.known j says);
    }

pub returns-in-Err-2-clause-stays : goal.returns-in-Err-2-clause-stays
returns-in-Err-2-clause-stays g c =
    record { undecided = λ k same. cc; known = λ j k says same. cc }

pub returns-in_ok-judged-in-Ok-clause-known : goal.returns-in_ok-judged-in-Ok-clause-known
returns-in_ok-judged-in-Ok-clause-known g c =
    let geo = g.B.Board.geometry in
    let content = g.M.Memo.content in
    let lost = g.M.Memo.dropped in
    let n = c.args.bounds.moves.value in
    let before = c.args.solver.now in
    let then = c.number_within.new.solver in
    let found = c.in-Ok.ensures in
    record {
      then = moment_of content lost then;
      few = few_within c.args.bounds.each before.limit before.expanded then.expanded found.looks.few;
      before = c.searches_add_up.ensures.wider geo c.in-Ok.reached n 0 (moment_of content lost before)
          (moment_of content lost then) found.number.1 found.looks.searched;
      says = λ kept. says_on geo (content then.memo) c.args.position.now n c.in-Ok.reached
          c.judged_at-moves.result.value c.number_within.ensures.right c.judged_at-moves.ensures.within found.number.2
          (found.says kept);
      after = c.in_ok-judged-in-Ok.ensures.searched;
    }
