use Rattle.std.proofs.Common.{◌∙◌, refl, ap, Err, arith}
use Rattle.std.proofs.lemmas.Result.{err_from_is_err_and}
use Rattle.dw_report.specs.inner.JudgedText.{IsVerdictLine}
use Rattle.dw_report.proofs.TryTextLemmas.{nothing_written}
use Rattle.dw_report.proofs.FaultLemmas.{sink_stopped, sink_failed, spends_done, spends_no_memory, spends_sink}
use Rattle.dw_report.proofs.FaultLemmas.{spends_stopped}
use Rattle.dw_report.proofs.WorkLemmas.{cut_few, ended}
use Rattle.dw_report.proofs.judged.write_verdict.Goals as goal

pub returns-in_err-verdict-clause-text : goal.returns-in_err-verdict-clause-text
returns-in_err-verdict-clause-text g c =
    let why = err_from_is_err_and c.from_residual.result c.from_residual.ensures.1 in
    nothing_written (IsVerdictLine g.B.Board.geometry c.args.position.now c.args.moves)
    (g.K.Sink.accepted c.args.sink.now)
    c.from_residual.result _ _ why.1 why.2

pub returns-in_err-line-clause-text : goal.returns-in_err-line-clause-text
returns-in_err-line-clause-text g c =
    let why = err_from_is_err_and c.from_residual-in_err-line.result c.from_residual-in_err-line.ensures.1 in
    nothing_written (IsVerdictLine g.B.Board.geometry c.args.position.now c.args.moves)
    (g.K.Sink.accepted c.args.sink.now)
    c.from_residual-in_err-line.result _ _ why.1 why.2

pub returns-in_err-verdict-clause-sink : goal.returns-in_err-verdict-clause-sink
returns-in_err-verdict-clause-sink g c =
    let why = err_from_is_err_and c.from_residual.result c.from_residual.ensures.1 in
    let sink = g.K.Sink.is_failed c.args.sink.now in
    sink_stopped sink sink c.from_residual.result c.in_err-verdict.field-0.0 (why.1 ∙ ap Err why.2) refl

pub returns-in_err-verdict-clause-spends : goal.returns-in_err-verdict-clause-spends
returns-in_err-verdict-clause-spends g c =
    let why = err_from_is_err_and c.from_residual.result c.from_residual.ensures.1 in
    spends_stopped c.args.solver.now c.verdict.new.solver c.verdict.result c.from_residual.result
    c.in_err-verdict.field-0.0 c.in_err-verdict.was (why.1 ∙ ap Err why.2) c.verdict.ensures.stop
    c.verdict.ensures.count

pub returns-in_err-line-clause-sink : goal.returns-in_err-line-clause-sink
returns-in_err-line-clause-sink g c =
    let why = err_from_is_err_and c.from_residual-in_err-line.result c.from_residual-in_err-line.ensures.1 in
    let sink = g.K.Sink.is_failed c.args.sink.now in
    sink_stopped sink sink c.from_residual-in_err-line.result _ (why.1 ∙ ap Err why.2) refl

pub returns-in_err-line-clause-spends : goal.returns-in_err-line-clause-spends
returns-in_err-line-clause-spends g c =
    let why = err_from_is_err_and c.from_residual-in_err-line.result c.from_residual-in_err-line.ensures.1 in
    spends_no_memory c.args.solver.now c.verdict.new.solver c.from_residual-in_err-line.result why.0 why.1 why.2
    c.verdict.ensures.count

pub returns-in_err-write_all-clause-sink : goal.returns-in_err-write_all-clause-sink
returns-in_err-write_all-clause-sink g c =
    let end = c.from_residual-in_err-write_all in
    let why = err_from_is_err_and end.result end.ensures.1 in
    sink_failed (g.K.Sink.is_failed c.args.sink.now) (g.K.Sink.is_failed c.write_all.new.sink) end.result
    (why.1 ∙ ap Err why.2) (c.in_err-write_all.ensures.failed refl)

pub returns-in_err-write_all-clause-spends : goal.returns-in_err-write_all-clause-spends
returns-in_err-write_all-clause-spends g c =
    let end = c.from_residual-in_err-write_all in
    let why = err_from_is_err_and end.result end.ensures.1 in
    spends_sink c.args.solver.now c.verdict.new.solver end.result (why.1 ∙ ap Err why.2)
    c.verdict.ensures.count

pub returns-clause-spends : goal.returns-clause-spends
returns-clause-spends g c =
    spends_done c.args.solver.now c.verdict.new.solver _ c.verdict.ensures.count

pub returns-in_err-verdict-clause-searched : goal.returns-in_err-verdict-clause-searched
returns-in_err-verdict-clause-searched g c =
    let n = c.args.moves in
    let end = c.from_residual in
    let why = err_from_is_err_and end.result end.ensures.1 in
    ended g.B.Board.geometry n _ end.result why.0 _ _ why.1 (cut_few c.verdict.result n) c.verdict.ensures.searched

pub returns-in_err-line-clause-searched : goal.returns-in_err-line-clause-searched
returns-in_err-line-clause-searched g c =
    let n = c.args.moves in
    let end = c.from_residual-in_err-line in
    let why = err_from_is_err_and end.result end.ensures.1 in
    ended g.B.Board.geometry n 0 end.result why.0 _ _ why.1 (omega arith) c.in_ok-verdict.ensures.searched

pub returns-in_err-write_all-clause-searched : goal.returns-in_err-write_all-clause-searched
returns-in_err-write_all-clause-searched g c =
    let n = c.args.moves in
    let end = c.from_residual-in_err-write_all in
    let why = err_from_is_err_and end.result end.ensures.1 in
    ended g.B.Board.geometry n 0 end.result why.0 _ _ why.1 (omega arith) c.in_ok-verdict.ensures.searched

pub returns-clause-searched : goal.returns-clause-searched
returns-clause-searched g c = c.in_ok-verdict.ensures.searched
