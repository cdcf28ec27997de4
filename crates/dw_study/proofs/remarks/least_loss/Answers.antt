use Rattle.std.proofs.Common.{◌≤◌, ◌∙◌, arith, below_more, sym}
use Rattle.std.proofs.lemmas.Bool.{true≢false}
use Rattle.dw_solve.specs.inner.QuestionLemmas.{answered, asked_none, asked_ok, asked_stop}
use Rattle.dw_study.proofs.AskedLemmas.{asked_on}
use Rattle.dw_study.proofs.remarks.least_loss.Goals as goal

pub moves-init : goal.moves-init
moves-init g c = record {
  none = λ j less lost. absurd (omega (arith, less));
  asked = asked_none g.B.Board.geometry g.M.Memo.content g.M.Memo.dropped c.searches_add_up.ensures c.args.most
      c.args.solver.now c.keeps_its_limit.ensures;
}

pub moves-preserved : goal.moves-preserved
moves-preserved g c =
    let geo = g.B.Board.geometry in
    let content = g.M.Memo.content in
    let lost = g.M.Memo.dropped in
    let less : c.moves.moves ≤ c.args.most = omega (arith, c.moves-test.true) in
    record {
      none = below_more _ _ c.moves.invariant.none
          (λ lost. true≢false (sym (c.in_ok-loses.ensures.answer.1 lost) ∙ c.if-branch.false));
      asked = asked_on c.searches_add_up.ensures geo content lost c.moves.moves c.args.most c.args.solver.now
          c.moves.solver c.loses.new.self answered less c.moves.invariant.asked
          (asked_ok geo content lost c.moves.moves c.moves.solver c.loses.new.self c.in_ok-loses.field-0 0
          c.in_ok-loses.ensures.asked);
    }

pub returns-in_err-loses-clause-asked : goal.returns-in_err-loses-clause-asked
returns-in_err-loses-clause-asked g c =
    let geo = g.B.Board.geometry in
    let content = g.M.Memo.content in
    let lost = g.M.Memo.dropped in
    let less : c.moves.moves ≤ c.args.most = omega (arith, c.moves-test.true) in
    asked_on c.searches_add_up.ensures geo content lost c.moves.moves c.args.most c.args.solver.now c.moves.solver
    c.loses.new.self c.from_residual.result less c.moves.invariant.asked
    (asked_stop geo content lost c.moves.moves c.moves.solver c.loses.new.self c.in_err-loses.field-0.0
    c.from_residual.result c.from_residual.ensures.1 c.in_err-loses.ensures.asked)

pub returns-then-branch-clause-least : goal.returns-then-branch-clause-least
returns-then-branch-clause-least g c = record {
  lost = c.in_ok-loses.ensures.answer.0 c.if-branch.true;
  none_less = c.moves.invariant.none;
}

pub returns-then-branch-clause-asked : goal.returns-then-branch-clause-asked
returns-then-branch-clause-asked g c =
    let geo = g.B.Board.geometry in
    let content = g.M.Memo.content in
    let lost = g.M.Memo.dropped in
    let less : c.moves.moves ≤ c.args.most = omega (arith, c.moves-test.true) in
    asked_on c.searches_add_up.ensures geo content lost c.moves.moves c.args.most c.args.solver.now c.moves.solver
    c.loses.new.self _ less c.moves.invariant.asked
    (asked_ok geo content lost c.moves.moves c.moves.solver c.loses.new.self c.in_ok-loses.field-0 _
    c.in_ok-loses.ensures.asked)
