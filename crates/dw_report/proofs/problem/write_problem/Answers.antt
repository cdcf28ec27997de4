use Rattle.std.proofs.Common.{[], ◌∷◌, refl, sym, ap, ◌∙◌, subst, arith, Err}
use Rattle.dw_notation.specs.Streams.{Appends}
use Rattle.std.specs.String.{string_bytes}
use Rattle.std.proofs.lemmas.Result.{err_from_is_err_and}
use Rattle.dw_notation.specs.Problems.{numbered}
use Rattle.dw_notation.specs.Writes.{StopsShort}
use Rattle.dw_report.specs.Request.{request_of}
use Rattle.dw_report.specs.Report.{IsProblemText}
use Rattle.dw_report.specs.inner.Running.{IsProblemPart, SinkEnds}
use Rattle.dw_report.proofs.SearchLemmas.{searches_none, sink_not_stopped}
use Rattle.dw_report.proofs.WritingLemmas.{at_sink, known_short, problem_ends, refused_row_behind}
use Rattle.dw_report.proofs.FaultLemmas.{sink_failed, refused_all, searches_row}
use Rattle.dw_report.proofs.WorkLemmas.{afresh_none}
use Rattle.dw_report.proofs.problem.write_problem.Goals as goal

pub returns-in_err-write_all-clause-text : goal.returns-in_err-write_all-clause-text
returns-in_err-write_all-clause-text g c =
    let geo = g.B.Board.geometry in
    let request = request_of c.args.settings.now in
    let problem = numbered c.args.problem.now in
    let why = err_from_is_err_and c.from_residual.result c.from_residual.ensures.1 in
    let line = c.as_bytes.ensures.value ∙ (c.as_str.ensures.value ∙ c.known_text-known.ensures) in
    at_sink (IsProblemText geo request problem) (IsProblemPart geo request problem) _ _ c.from_residual.result (why.1
    ∙ ap Err why.2)
    (known_short geo request problem _ _ (c.one_report.ensures.texts geo g.met.B.Board.numbers request
    c.requires.sound.lines (problem ∷ [])) (subst (StopsShort _ _) line c.in_err-write_all.ensures.err))

pub returns-in_err-write_all-clause-searches : goal.returns-in_err-write_all-clause-searches
returns-in_err-write_all-clause-searches g c =
    let why = err_from_is_err_and c.from_residual.result c.from_residual.ensures.1 in
    searches_none c.args.settings.now.command _ _ c.from_residual.result refl c.keeps_its_limit.ensures
    (sink_not_stopped c.from_residual.result (why.1 ∙ ap Err why.2))

pub returns-in-Ok-clause-text : goal.returns-in-Ok-clause-text
returns-in-Ok-clause-text g c =
    let line = c.as_bytes.ensures.value ∙ (c.as_str.ensures.value ∙ c.known_text-known.ensures) in
    problem_ends g.B.Board.geometry (request_of c.args.settings.now) (numbered c.args.problem.now) c.in-Ok.position _ _
    _ _ _ c.write_rest.result c.in-Ok.is (subst (Appends _ _) line c.in_ok-write_all.ensures.ok)
    c.write_rest.ensures.searches c.write_rest.ensures.text

pub returns-in-Ok-clause-refused : goal.returns-in-Ok-clause-refused
returns-in-Ok-clause-refused g c = rw c.in-Ok.is c.write_rest.ensures.refused

pub returns-then-writes_rows-clause-text : goal.returns-then-writes_rows-clause-text
returns-then-writes_rows-clause-text g c =
    let line = c.as_bytes.ensures.value ∙ (c.as_str.ensures.value ∙ c.known_text-known.ensures) in
    refused_row_behind string_bytes g.B.Board.geometry (request_of c.args.settings.now) (numbered c.args.problem.now)
    c.in-Err.fault _ _ _ c.refused_line.result c.write_row.result c.in-Err.is
    (sym c.writes_rows.ensures ∙ c.if-writes_rows.true) c.refused_line.ensures
    (subst (Appends _ _) line c.in_ok-write_all.ensures.ok) c.write_row.ensures.text

pub returns-then-writes_rows-clause-searches : goal.returns-then-writes_rows-clause-searches
returns-then-writes_rows-clause-searches g c =
    searches_row c.args.settings.now.command c.args.solver.now c.write_row.result
    (sym c.writes_rows.ensures ∙ c.if-writes_rows.true) c.write_row.ensures.memory

pub returns-then-writes_rows-clause-refused : goal.returns-then-writes_rows-clause-refused
returns-then-writes_rows-clause-refused g c =
    rw c.in-Err.is (refused_all c.write_row.result c.write_row.ensures.refused)

pub returns-then-writes_rows-clause-sink : goal.returns-then-writes_rows-clause-sink
returns-then-writes_rows-clause-sink g c =
    subst (λ z. SinkEnds z (g.K.Sink.is_failed c.write_row.new.sink) c.write_row.result)
    c.in_ok-write_all.ensures.kept c.write_row.ensures.sink

pub returns-in_err-write_all-clause-sink : goal.returns-in_err-write_all-clause-sink
returns-in_err-write_all-clause-sink g c =
    let why = err_from_is_err_and c.from_residual.result c.from_residual.ensures.1 in
    sink_failed (g.K.Sink.is_failed c.args.sink.now) (g.K.Sink.is_failed c.write_all.new.sink) c.from_residual.result
    (why.1 ∙ ap Err why.2) (c.in_err-write_all.ensures.failed refl)

pub write_rest-requires : goal.write_rest-requires
write_rest-requires g c =
    (omega arith, (c.in_ok-write_all.ensures.kept ∙ c.requires.works, c.requires.sound))

pub returns-in-Ok-clause-sink : goal.returns-in-Ok-clause-sink
returns-in-Ok-clause-sink g c =
    subst (λ z. SinkEnds z (g.K.Sink.is_failed c.write_rest.new.sink) c.write_rest.result)
    c.in_ok-write_all.ensures.kept
    c.write_rest.ensures.sink

pub returns-in-Ok-clause-searches : goal.returns-in-Ok-clause-searches
returns-in-Ok-clause-searches g c = c.write_rest.ensures.searches

pub returns-in_err-write_all-clause-works : goal.returns-in_err-write_all-clause-works
returns-in_err-write_all-clause-works g c = λ judges.
    afresh_none c.searches_add_up.ensures g.B.Board.geometry g.M.Memo.keeps c.args.settings.now.n _ _

pub returns-then-writes_rows-clause-works : goal.returns-then-writes_rows-clause-works
returns-then-writes_rows-clause-works g c = λ judges.
    afresh_none c.searches_add_up.ensures g.B.Board.geometry g.M.Memo.keeps c.args.settings.now.n _ _

pub returns-else-writes_rows-clause-works : goal.returns-else-writes_rows-clause-works
returns-else-writes_rows-clause-works g c = λ judges.
    afresh_none c.searches_add_up.ensures g.B.Board.geometry g.M.Memo.keeps c.args.settings.now.n _ _

pub returns-in-Ok-clause-works : goal.returns-in-Ok-clause-works
returns-in-Ok-clause-works g c = c.write_rest.ensures.works
