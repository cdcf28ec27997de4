use Rattle.std.proofs.Common.{◌≡◌, refl, true, false, rules, arith, sym, ap, subst, [], ◌∷◌, ◌∙◌}
use Rattle.dw_notation.specs.Problems.{Numbered, numbered}
use Rattle.dw_notation.specs.Reading.{source_of}
use Rattle.dw_notation.specs.inner.Readers.{reader_of}
use Rattle.dw_report.specs.Request.{request_of}
use Rattle.dw_report.specs.Report.{chosen}
use Rattle.dw_report.specs.inner.Running.{CountsOne, HasRoom, IsSound}
use Rattle.dw_report.proofs.RunLemmas.{SoFar-start, SoFar-next, SoFar-asked, failed-at_ok, refused-le, length-chosen-le}
use Rattle.dw_report.proofs.RunStepLemmas.{next_none, next_failed, counted_one, next_more, next_fault}
use Rattle.dw_report.proofs.SearchLemmas.{searches_counted, searches_keep, stops_rightly, tells_expanded}
use Rattle.dw_report.proofs.SpendingLemmas.{counted_none}
use Rattle.dw_report.proofs.WorkLemmas.{afresh_none, not_chosen, work_last, work_more, work_none}
use Rattle.dw_report.specs.Work.{SearchedAfresh}
use Rattle.dw_solve.specs.Questions.{moment_of}
use Rattle.dw_solve.specs.Work.{cut_off}
use Rattle.dw_report.proofs.run.run_with.Goals as goal

pub problems-init : goal.problems-init
problems-init g c =
    let new = c.new-problems.ensures in
    let zero = c.default-summary.ensures in
    record {
      lender = refl;
      so_far = SoFar-start _ _ _ _ (reader_of c.new-problems.result) c.default-summary.result new.met_end new.ahead
          new.handed zero.0 zero.1.0 zero.1.1;
      end = record { since = omega arith; met = λ met. let bad : true ≡ false = sym met ∙ new.met_end in cc };
      source = ap g.S.Source.is_failed new.source ∙ c.requires.source;
      sink = c.requires.sink;
      count = counted_none c.args.solver.now c.keeps_its_limit.ensures;
      works = λ judges. work_none g.B.Board.geometry g.M.Memo.keeps g.M.Memo.content g.M.Memo.dropped
          c.args.settings.now.only c.args.settings.now.n c.searches_add_up.ensures c.args.solver.now;
      still = λ _. refl;
      read = zero.0 ∙ sym new.handed;
      shown = omega (arith, zero.1.0);
      refused = omega (arith, zero.1.1);
      bound = omega (arith, new.handed);
    }

pub returns-in-Ok-None-clause-report : goal.returns-in-Ok-None-clause-report
returns-in-Ok-None-clause-report g c =
    let ends = next_none g.B.Board.geometry (request_of c.args.settings.now)
    (g.S.Source.supply (source_of c.new-problems.result)) (g.S.Source.supply (source_of c.problems.problems))
    (g.S.Source.supply (source_of c.next.new.self)) (g.K.Sink.accepted c.args.sink.now)
    (g.K.Sink.accepted c.problems.sink) (reader_of c.problems.problems) (reader_of c.next.new.self)
    c.problems.summary c.in-Ok-None.field-0 c.in-Ok-None.field-0-is c.in-Ok-None.ensures.given
    c.in-Ok-None.ensures.counted c.problems.invariant.so_far c.next.ensures.stays
    (c.next.ensures.end _ c.problems.invariant.end).met c.problems.invariant.bound in
    search rules

pub returns-in-Err-clause-report : goal.returns-in-Err-clause-report
returns-in-Err-clause-report g c =
    let ends = next_failed g.B.Board.geometry (request_of c.args.settings.now)
    (g.S.Source.supply (source_of c.new-problems.result)) (g.S.Source.supply (source_of c.problems.problems))
    (g.S.Source.supply (source_of c.next.new.self)) (g.K.Sink.accepted c.args.sink.now)
    (g.K.Sink.accepted c.problems.sink) (reader_of c.problems.problems) (reader_of c.next.new.self)
    c.problems.summary c.next.result c.in-Err.field-0 (g.S.Source.is_failed (source_of c.next.new.self))
    c.in-Err.is c.next.ensures.given c.next.ensures.stopped c.next.ensures.stays c.problems.invariant.so_far in
    search rules

pub report_problem-requires : goal.report_problem-requires
report_problem-requires g c =
    let so_far = c.problems.invariant in
    let room : HasRoom c.problems.summary = record {
      problems = omega (arith, so_far.read, so_far.bound);
      shown = so_far.shown;
      refused = so_far.refused;
    } in
    let sound : IsSound g.B.Board.geometry (request_of c.args.settings.now) = record {
      some = c.requires.some;
      few = c.requires.few;
      lines = c.requires.lines;
    } in
    (omega arith, (so_far.sink, (sound, room)))

pub returns-in-Err-report_problem-clause-report : goal.returns-in-Err-report_problem-clause-report
returns-in-Err-report_problem-clause-report g c =
    let stops = next_fault g.B.Board.geometry (request_of c.args.settings.now)
    (g.S.Source.supply (source_of c.new-problems.result)) (g.S.Source.supply (source_of c.problems.problems))
    (g.S.Source.supply (source_of c.next.new.self)) (g.K.Sink.accepted c.args.sink.now)
    (g.K.Sink.accepted c.problems.sink) (g.K.Sink.accepted c.report_problem.new.sink) (reader_of c.problems.problems)
    (reader_of c.next.new.self)
    c.problems.summary c.in-Ok-Some.field-0 c.in-Ok-Some.problem c.expanded.result c.report_problem.result
    c.in-Err-report_problem.fault c.in-Ok-Some.field-0-is c.in-Err-report_problem.is c.in-Ok-Some.ensures.given
    c.problems.invariant.so_far c.next.ensures.stays (c.next.ensures.end _ c.problems.invariant.end).met
    (c.one_report.ensures.texts g.B.Board.geometry g.met.B.Board.numbers (request_of c.args.settings.now)
    c.requires.lines) c.report_problem.ensures.text in
    rw c.ended.ensures (search rules)

pub returns-in-Err-report_problem-clause-stopped : goal.returns-in-Err-report_problem-clause-stopped
returns-in-Err-report_problem-clause-stopped g c =
    let so_far = c.problems.invariant in
    rw (c.ended.ensures, c.expanded.ensures) (stops_rightly c.args.settings.now.command
    c.args.solver.now.expanded c.args.solver.now.limit c.problems.solver c.report_problem.new.solver
    c.report_problem.result c.in-Err-report_problem.fault c.in-Err-report_problem.is
    c.report_problem.ensures.searches so_far.count.same so_far.still)

pub returns-in-Err-report_problem-clause-expanded : goal.returns-in-Err-report_problem-clause-expanded
returns-in-Err-report_problem-clause-expanded g c =
    rw (c.ended.ensures, c.expanded.ensures) (tells_expanded c.in-Err-report_problem.fault
    c.report_problem.new.solver.expanded)

pub returns-in-Err-report_problem-clause-count : goal.returns-in-Err-report_problem-clause-count
returns-in-Err-report_problem-clause-count g c = searches_counted c.args.settings.now.command c.args.solver.now
    c.problems.solver c.report_problem.new.solver c.report_problem.result c.problems.invariant.count
    c.report_problem.ensures.searches

pub returns-then-asks_for-clause-report : goal.returns-then-asks_for-clause-report
returns-then-asks_for-clause-report g c =
    let more = next_more g.B.Board.geometry (request_of c.args.settings.now)
    (g.S.Source.supply (source_of c.new-problems.result)) (g.S.Source.supply (source_of c.problems.problems))
    (g.S.Source.supply (source_of c.next.new.self)) (g.K.Sink.accepted c.args.sink.now)
    (g.K.Sink.accepted c.problems.sink) (g.K.Sink.accepted c.report_problem.new.sink) (reader_of c.problems.problems)
    (reader_of c.next.new.self)
    c.problems.summary c.in-Ok.counted c.in-Ok-Some.field-0 c.in-Ok-Some.problem c.in-Ok-Some.field-0-is
    c.in-Ok-Some.ensures.given c.in-Ok-Some.ensures.counted c.problems.invariant.so_far
    c.next.ensures.stays c.in-Ok.ensures.text c.in-Ok.ensures.counts in
    let ends = SoFar-asked g.B.Board.geometry (request_of c.args.settings.now)
    (g.S.Source.supply (source_of c.new-problems.result)) (g.S.Source.supply (source_of c.next.new.self))
    (g.K.Sink.accepted c.args.sink.now) (g.K.Sink.accepted c.report_problem.new.sink) (reader_of c.next.new.self)
    c.in-Ok.counted (numbered c.in-Ok-Some.problem) more
    (sym c.asks_for.ensures ∙ c.if-asks_for.true) (c.next.ensures.end _ c.problems.invariant.end).met in
    search rules

pub problems-preserved : goal.problems-preserved
problems-preserved g c =
    let so_far = c.problems.invariant in
    let counted = counted_one (reader_of c.problems.problems) (reader_of c.next.new.self) c.in-Ok-Some.field-0
    c.in-Ok-Some.problem c.in-Ok-Some.field-0-is c.in-Ok-Some.ensures.counted in
    let settings = c.args.settings.now in
    let request = request_of settings in
    let one : Numbered = numbered c.in-Ok-Some.problem in
    let counts : CountsOne g.B.Board.geometry request c.problems.summary c.in-Ok.counted one = c.in-Ok.ensures.counts in
    let more = next_more g.B.Board.geometry (request_of c.args.settings.now)
    (g.S.Source.supply (source_of c.new-problems.result)) (g.S.Source.supply (source_of c.problems.problems))
    (g.S.Source.supply (source_of c.next.new.self)) (g.K.Sink.accepted c.args.sink.now)
    (g.K.Sink.accepted c.problems.sink) (g.K.Sink.accepted c.report_problem.new.sink) (reader_of c.problems.problems)
    (reader_of c.next.new.self)
    c.problems.summary c.in-Ok.counted c.in-Ok-Some.field-0 c.in-Ok-Some.problem c.in-Ok-Some.field-0-is
    c.in-Ok-Some.ensures.given c.in-Ok-Some.ensures.counted c.problems.invariant.so_far
    c.next.ensures.stays c.in-Ok.ensures.text c.in-Ok.ensures.counts in
    let few = length-chosen-le request.only one in
    let refused = refused-le g.B.Board.geometry request (chosen request.only (one ∷ [])) counts.refused.0
    counts.refused.1 in
    let keep = searches_keep settings.command c.problems.solver c.report_problem.new.solver c.report_problem.result
    c.report_problem.ensures.searches in
    record {
      lender = c.next.ensures.lender ∙ so_far.lender;
      so_far = SoFar-next g.B.Board.geometry (request_of c.args.settings.now)
          (g.S.Source.supply (source_of c.new-problems.result)) (g.S.Source.supply (source_of c.next.new.self))
          (g.K.Sink.accepted c.args.sink.now) (g.K.Sink.accepted c.report_problem.new.sink)
          (reader_of c.next.new.self) c.in-Ok.counted (numbered c.in-Ok-Some.problem) more
          (sym c.asks_for.ensures ∙ c.if-asks_for.false);
      end = c.next.ensures.end _ so_far.end;
      source = failed-at_ok (g.S.Source.is_failed (source_of c.next.new.self))
          (g.S.Source.is_failed (source_of c.problems.problems)) c.next.result c.in-Ok-Some.field-0
          c.next.ensures.failed c.in-Ok-Some.is so_far.source;
      sink = c.in-Ok.ensures.sink ∙ so_far.sink;
      count = searches_counted settings.command c.args.solver.now c.problems.solver c.report_problem.new.solver
          c.report_problem.result so_far.count c.report_problem.ensures.searches;
      works = λ judges. work_more g.B.Board.geometry g.M.Memo.keeps g.M.Memo.content g.M.Memo.dropped settings.only
          settings.n c.searches_add_up.ensures c.args.solver.now c.problems.solver c.report_problem.new.solver
          (so_far.works judges) (c.in-Ok.ensures.works judges)
          (λ k one. c.report_problem.ensures.other (not_chosen settings.only k c.in-Ok-Some.problem.number one
          (sym c.asks_for.ensures ∙ c.if-asks_for.false)));
      still = λ moves. keep.1 moves ∙ so_far.still moves;
      read = omega (arith, counts.read, so_far.read, counted.0);
      shown = omega (arith, counts.read, counts.shown, so_far.shown, few);
      refused = omega (arith, counts.shown, counts.refused.2, so_far.refused, refused);
      bound = omega (arith, counted.0, counted.1);
    }

pub returns-then-asks_for-clause-count : goal.returns-then-asks_for-clause-count
returns-then-asks_for-clause-count g c = searches_counted c.args.settings.now.command c.args.solver.now
    c.problems.solver c.report_problem.new.solver c.report_problem.result c.problems.invariant.count
    c.report_problem.ensures.searches

pub returns-in-Ok-None-clause-works : goal.returns-in-Ok-None-clause-works
returns-in-Ok-None-clause-works g c = λ judges.
    work_last g.B.Board.geometry g.M.Memo.keeps g.M.Memo.content g.M.Memo.dropped c.args.settings.now.only
    c.args.settings.now.n c.searches_add_up.ensures _ c.args.solver.now c.problems.solver c.problems.solver
    (c.problems.invariant.works judges) (afresh_none c.searches_add_up.ensures g.B.Board.geometry g.M.Memo.keeps
    c.args.settings.now.n _ _)

pub returns-in-Err-clause-works : goal.returns-in-Err-clause-works
returns-in-Err-clause-works g c = λ judges.
    work_last g.B.Board.geometry g.M.Memo.keeps g.M.Memo.content g.M.Memo.dropped c.args.settings.now.only
    c.args.settings.now.n c.searches_add_up.ensures _ c.args.solver.now c.problems.solver c.problems.solver
    (c.problems.invariant.works judges) (afresh_none c.searches_add_up.ensures g.B.Board.geometry g.M.Memo.keeps
    c.args.settings.now.n _ _)

pub returns-then-asks_for-clause-works : goal.returns-then-asks_for-clause-works
returns-then-asks_for-clause-works g c = λ judges.
    work_last g.B.Board.geometry g.M.Memo.keeps g.M.Memo.content g.M.Memo.dropped c.args.settings.now.only
    c.args.settings.now.n c.searches_add_up.ensures _ c.args.solver.now c.problems.solver c.report_problem.new.solver
    (c.problems.invariant.works judges) (c.in-Ok.ensures.works judges)

pub returns-in-Err-report_problem-clause-works : goal.returns-in-Err-report_problem-clause-works
returns-in-Err-report_problem-clause-works g c = λ judges.
    work_last g.B.Board.geometry g.M.Memo.keeps g.M.Memo.content g.M.Memo.dropped c.args.settings.now.only
    c.args.settings.now.n c.searches_add_up.ensures c.args.settings.now.n c.args.solver.now c.problems.solver
    c.report_problem.new.solver
    (c.problems.invariant.works judges)
    (subst (λ z. SearchedAfresh g.B.Board.geometry g.M.Memo.keeps c.args.settings.now.n
    (cut_off z c.args.settings.now.n) (moment_of g.M.Memo.content g.M.Memo.dropped c.problems.solver)
    (moment_of g.M.Memo.content g.M.Memo.dropped c.report_problem.new.solver)) c.in-Err-report_problem.is
    (c.report_problem.ensures.works judges))
