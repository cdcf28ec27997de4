use Rattle.std.proofs.Common.{[], ◌∷◌, refl, sym, ap, ◌∙◌, arith}
use Rattle.std.proofs.lemmas.Result.{err_from_is_err_and}
use Rattle.dw_notation.specs.Problems.{numbered}
use Rattle.dw_report.specs.Request.{request_of}
use Rattle.dw_report.specs.Report.{IsProblemText, IsReportOn}
use Rattle.dw_report.specs.inner.Running.{IsProblemPart}
use Rattle.dw_report.specs.Running.{IsPartOn}
use Rattle.dw_report.specs.declared.settings.Summary.{Summary}
use Rattle.dw_report.proofs.RunLemmas.{counts_chosen}
use Rattle.dw_report.proofs.RunStepLemmas.{counts_passed}
use Rattle.dw_report.proofs.SearchLemmas.{searches_none, searches_as, same_fault}
use Rattle.dw_report.proofs.FaultLemmas.{sink_same, ok_not_stopped}
use Rattle.dw_report.proofs.WritingLemmas.{fault_stays, one_report_on, one_part_on, no_report_on, chosen_report_on}
use Rattle.std.proofs.lemmas.Bool.{true≢false}
use Rattle.dw_solve.specs.Work.{cut_off}
use Rattle.dw_report.proofs.WorkLemmas.{afresh_ended, afresh_none, cut_few}
use Rattle.dw_report.proofs.run.report_problem.Goals as goal

pub returns-in_err-refused-clause-text : goal.returns-in_err-refused-clause-text
returns-in_err-refused-clause-text g c =
    let geo = g.B.Board.geometry in
    let request = request_of c.args.settings.now in
    let problem = numbered c.args.problem.now in
    let chosen = sym c.chooses.ensures ∙ c.if-not-chooses.false in
    let why = err_from_is_err_and c.from_residual.result c.from_residual.ensures.1 in
    fault_stays (IsProblemText geo request problem) (IsReportOn geo request (problem ∷ []))
    (IsProblemPart geo request problem) (IsPartOn geo request problem.number (problem ∷ [])) _ _ c.write_problem.result
    c.from_residual.result c.in_err-refused.field-0.0 why.0 c.in_err-refused.was why.1 (sym why.2)
    (one_report_on geo request problem chosen) (one_part_on geo request problem chosen) c.write_problem.ensures.text

pub returns-clause-counts : goal.returns-clause-counts
returns-clause-counts g c =
    let made = c.with_shown.ensures in
    counts_chosen g.B.Board.geometry (request_of c.args.settings.now) c.args.summary c.with_shown.result
    (numbered c.args.problem.now) c.in_ok-refused.refused (sym c.chooses.ensures ∙ c.if-not-chooses.false)
    c.in_ok-refused.ensures.refused (ap (λ (s : Summary). s.problems) made) (ap (λ (s : Summary). s.shown) made)
    (ap (λ (s : Summary). s.refused) made)

pub returns-in_err-refused-clause-sink : goal.returns-in_err-refused-clause-sink
returns-in_err-refused-clause-sink g c =
    let why = err_from_is_err_and c.from_residual.result c.from_residual.ensures.1 in
    sink_same (g.K.Sink.is_failed c.args.sink.now) (g.K.Sink.is_failed c.write_problem.new.sink)
    c.write_problem.result c.from_residual.result c.in_err-refused.field-0.0 why.0 c.in_err-refused.was why.1
    (sym why.2) c.write_problem.ensures.sink

pub returns-in_err-refused-clause-searches : goal.returns-in_err-refused-clause-searches
returns-in_err-refused-clause-searches g c =
    let why = err_from_is_err_and c.from_residual.result c.from_residual.ensures.1 in
    searches_as c.args.settings.now.command c.args.solver.now c.write_problem.new.solver c.write_problem.result
    c.from_residual.result (same_fault c.write_problem.result c.from_residual.result c.in_err-refused.field-0.0 why.0
    c.in_err-refused.was why.1 (sym why.2)) c.write_problem.ensures.searches

pub returns-clause-searches : goal.returns-clause-searches
returns-clause-searches g c =
    searches_as c.args.settings.now.command c.args.solver.now c.write_problem.new.solver c.write_problem.result _
    (λ why e. absurd (ok_not_stopped _ why e)) c.write_problem.ensures.searches

pub returns-clause-text : goal.returns-clause-text
returns-clause-text g c =
    chosen_report_on g.B.Board.geometry (request_of c.args.settings.now) (numbered c.args.problem.now)
    (g.K.Sink.accepted c.args.sink.now) (g.K.Sink.accepted c.write_problem.new.sink)
    (sym c.chooses.ensures ∙ c.if-not-chooses.false) c.in_ok-refused.ensures.text

pub returns-then-not-chooses-clause-text : goal.returns-then-not-chooses-clause-text
returns-then-not-chooses-clause-text g c =
    no_report_on g.B.Board.geometry (request_of c.args.settings.now) (numbered c.args.problem.now)
    (g.K.Sink.accepted c.args.sink.now) (sym c.chooses.ensures ∙ c.if-not-chooses.true)

pub returns-then-not-chooses-clause-searches : goal.returns-then-not-chooses-clause-searches
returns-then-not-chooses-clause-searches g c =
    searches_none c.args.settings.now.command c.args.solver.now c.args.solver.now _ refl c.keeps_its_limit.ensures
    (ok_not_stopped _)

pub returns-then-not-chooses-clause-counts : goal.returns-then-not-chooses-clause-counts
returns-then-not-chooses-clause-counts g c =
    counts_passed g.B.Board.geometry (request_of c.args.settings.now) c.args.summary _ (numbered c.args.problem.now)
    (sym c.chooses.ensures ∙ c.if-not-chooses.true) refl refl refl

pub write_problem-requires : goal.write_problem-requires
write_problem-requires g c =
    (omega arith, (c.requires.works, c.requires.sound))

pub returns-then-not-chooses-clause-works : goal.returns-then-not-chooses-clause-works
returns-then-not-chooses-clause-works g c = λ judges.
    afresh_none c.searches_add_up.ensures g.B.Board.geometry g.M.Memo.keeps c.args.settings.now.n _ _

pub returns-in_err-refused-clause-works : goal.returns-in_err-refused-clause-works
returns-in_err-refused-clause-works g c = λ judges.
    let n = c.args.settings.now.n in
    let why = err_from_is_err_and c.from_residual.result c.from_residual.ensures.1 in
    afresh_ended g.B.Board.geometry g.M.Memo.keeps n (cut_off c.write_problem.result n) c.from_residual.result why.0 _ _
    why.1 (cut_few c.write_problem.result n) (c.write_problem.ensures.works judges)

pub returns-clause-works : goal.returns-clause-works
returns-clause-works g c = c.in_ok-refused.ensures.works

pub returns-in_err-refused-clause-other : goal.returns-in_err-refused-clause-other
returns-in_err-refused-clause-other g c = λ other. absurd (true≢false (sym (sym c.chooses.ensures
    ∙ c.if-not-chooses.false) ∙ other))

pub returns-clause-other : goal.returns-clause-other
returns-clause-other g c = λ other. absurd (true≢false (sym (sym c.chooses.ensures ∙ c.if-not-chooses.false) ∙ other))
