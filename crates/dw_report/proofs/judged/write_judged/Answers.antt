use Rattle.std.proofs.Common.{sym, subst}
use Rattle.std.proofs.lemmas.Result.{err_from_is_err_and}
use Rattle.dw_report.specs.inner.Running.{SinkEnds}
use Rattle.dw_report.proofs.FaultLemmas.{sink_same, spends_same, spends_further}
use Rattle.dw_report.proofs.JudgedWriteLemmas.{judged_ends, verdict_fault}
use Rattle.dw_solve.specs.Work.{cut_off}
use Rattle.dw_report.proofs.WorkLemmas.{cut_few, ended, further}
use Rattle.dw_report.proofs.judged.write_judged.Goals as goal

pub returns-in_err-write_verdict-clause-text : goal.returns-in_err-write_verdict-clause-text
returns-in_err-write_verdict-clause-text g c =
    let why = err_from_is_err_and c.from_residual.result c.from_residual.ensures.1 in
    verdict_fault c.one_verdict.ensures c.tries_are_listed.ensures c.moves_have_texts.ensures c.lines_have_texts.ensures
    g.B.Board.geometry g.met.B.Board.numbers c.args.position.now c.args.moves _ _
    c.write_verdict.result c.from_residual.result c.in_err-write_verdict.field-0.0 why.0 c.in_err-write_verdict.was
    why.1 (sym why.2) c.write_verdict.ensures.text

pub returns-clause-text : goal.returns-clause-text
returns-clause-text g c = judged_ends g.B.Board.geometry c.args.position.now c.args.moves _
    (g.K.Sink.accepted c.write_verdict.new.sink) _ c.write_tries.result c.in_ok-write_verdict.ensures.text
    c.write_tries.ensures.text

pub returns-in_err-write_verdict-clause-sink : goal.returns-in_err-write_verdict-clause-sink
returns-in_err-write_verdict-clause-sink g c =
    let why = err_from_is_err_and c.from_residual.result c.from_residual.ensures.1 in
    sink_same (g.K.Sink.is_failed c.args.sink.now) (g.K.Sink.is_failed c.write_verdict.new.sink)
    c.write_verdict.result c.from_residual.result c.in_err-write_verdict.field-0.0 why.0 c.in_err-write_verdict.was
    why.1 (sym why.2) c.write_verdict.ensures.sink

pub returns-in_err-write_verdict-clause-spends : goal.returns-in_err-write_verdict-clause-spends
returns-in_err-write_verdict-clause-spends g c =
    let why = err_from_is_err_and c.from_residual.result c.from_residual.ensures.1 in
    spends_same c.args.solver.now c.write_verdict.new.solver c.write_verdict.result c.from_residual.result
    c.in_err-write_verdict.field-0.0 why.0 c.in_err-write_verdict.was why.1 (sym why.2) c.write_verdict.ensures.spends

pub returns-clause-sink : goal.returns-clause-sink
returns-clause-sink g c =
    subst (λ z. SinkEnds z (g.K.Sink.is_failed c.write_tries.new.sink) c.write_tries.result)
    c.in_ok-write_verdict.ensures.sink c.write_tries.ensures.sink

pub returns-clause-spends : goal.returns-clause-spends
returns-clause-spends g c =
    spends_further c.args.solver.now c.write_verdict.new.solver c.write_tries.new.solver c.write_tries.result
    c.in_ok-write_verdict.ensures.spends.count c.write_tries.ensures.spends

pub returns-in_err-write_verdict-clause-searched : goal.returns-in_err-write_verdict-clause-searched
returns-in_err-write_verdict-clause-searched g c =
    let n = c.args.moves in
    let why = err_from_is_err_and c.from_residual.result c.from_residual.ensures.1 in
    ended g.B.Board.geometry n (cut_off c.write_verdict.result n) c.from_residual.result why.0 _ _ why.1
    (cut_few c.write_verdict.result n) c.write_verdict.ensures.searched

pub returns-clause-searched : goal.returns-clause-searched
returns-clause-searched g c =
    further c.searches_add_up.ensures g.B.Board.geometry c.args.moves _ _ _ _ c.in_ok-write_verdict.ensures.searched
    c.write_tries.ensures.searched
