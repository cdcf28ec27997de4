use Rattle.std.proofs.Common.{◌-◌, refl, sym, ap, ◌∙◌, subst, Err, arith}
use Rattle.dw_notation.specs.Streams.{Appends}
use Rattle.std.specs.String.{string_bytes}
use Rattle.std.proofs.lemmas.Result.{err_from_is_err_and}
use Rattle.dw_notation.specs.Writes.{StopsShort}
use Rattle.dw_verdict.specs.Verdict.{IsRefutation, FindsRefutation}
use Rattle.dw_report.specs.inner.JudgedText.{IsTryText}
use Rattle.dw_report.proofs.WritingLemmas.{at_sink}
use Rattle.dw_report.proofs.FaultLemmas.{sink_stopped, sink_failed, spends_done, spends_no_memory, spends_sink}
use Rattle.dw_report.proofs.FaultLemmas.{spends_stopped}
use Rattle.dw_report.proofs.TryTextLemmas.{nothing_written, try_written, try_short, no_try_written}
use Rattle.dw_solve.specs.Work.{cut_off}
use Rattle.dw_report.proofs.WorkLemmas.{cut_few, ended}
use Rattle.dw_report.proofs.judged.write_try.Goals as goal

pub returns-in_err-reply-clause-text : goal.returns-in_err-reply-clause-text
returns-in_err-reply-clause-text g c =
    let why = err_from_is_err_and c.from_residual.result c.from_residual.ensures.1 in
    nothing_written (IsTryText g.B.Board.geometry c.args.position.now c.args.moves c.args.mv.now)
    (g.K.Sink.accepted c.args.sink.now) c.from_residual.result _ _ why.1 why.2

pub returns-in_err-line-clause-text : goal.returns-in_err-line-clause-text
returns-in_err-line-clause-text g c =
    let why = err_from_is_err_and c.from_residual-in_err-line.result c.from_residual-in_err-line.ensures.1 in
    nothing_written (IsTryText g.B.Board.geometry c.args.position.now c.args.moves c.args.mv.now)
    (g.K.Sink.accepted c.args.sink.now) c.from_residual-in_err-line.result _ _ why.1 why.2

pub returns-in_err-write_all-clause-text : goal.returns-in_err-write_all-clause-text
returns-in_err-write_all-clause-text g c =
    let geo = g.B.Board.geometry in
    let p = c.args.position.now in
    let n = c.args.moves in
    let why = err_from_is_err_and c.from_residual-in_err-write_all.result c.from_residual-in_err-write_all.ensures.1 in
    let found = subst (λ z. IsRefutation geo z (n - 1) c.in-Some.reply) c.play-after.ensures
    (subst (FindsRefutation geo c.play-after.result (n - 1)) c.in-Some.is c.in_ok-reply.ensures.found) in
    at_sink (IsTryText geo p n c.args.mv.now) _ _ _ c.from_residual-in_err-write_all.result (why.1 ∙ ap Err why.2)
    (try_short geo p n c.args.mv.now c.in-Some.reply (string_bytes c.in_ok-line.line) _ _ found c.in_ok-line.ensures
    (subst (StopsShort _ _) (c.as_bytes.ensures.value ∙ c.as_str.ensures.value) c.in_err-write_all.ensures.err))

pub returns-in_ok-write_all-clause-text : goal.returns-in_ok-write_all-clause-text
returns-in_ok-write_all-clause-text g c =
    let geo = g.B.Board.geometry in
    let p = c.args.position.now in
    let n = c.args.moves in
    let found = subst (λ z. IsRefutation geo z (n - 1) c.in-Some.reply) c.play-after.ensures
    (subst (FindsRefutation geo c.play-after.result (n - 1)) c.in-Some.is c.in_ok-reply.ensures.found) in
    try_written geo p n c.args.mv.now c.in-Some.reply (string_bytes c.in_ok-line.line) _ _ found c.in_ok-line.ensures
    (subst (Appends _ _) (c.as_bytes.ensures.value ∙ c.as_str.ensures.value) c.in_ok-write_all.ensures.ok)

pub returns-in_default-clause-text : goal.returns-in_default-clause-text
returns-in_default-clause-text g c =
    let geo = g.B.Board.geometry in
    let n = c.args.moves in
    let none = subst (FindsRefutation geo c.play-after.result (n - 1)) c.in_default.is c.in_ok-reply.ensures.found in
    no_try_written geo c.args.position.now n c.args.mv.now _
    (λ r h. none r (subst (λ q. IsRefutation geo q (n - 1) r) (sym c.play-after.ensures) h))

pub returns-in_err-reply-clause-sink : goal.returns-in_err-reply-clause-sink
returns-in_err-reply-clause-sink g c =
    let why = err_from_is_err_and c.from_residual.result c.from_residual.ensures.1 in
    let sink = g.K.Sink.is_failed c.args.sink.now in
    sink_stopped sink sink c.from_residual.result c.in_err-reply.field-0.0 (why.1 ∙ ap Err why.2) refl

pub returns-in_err-reply-clause-spends : goal.returns-in_err-reply-clause-spends
returns-in_err-reply-clause-spends g c =
    let why = err_from_is_err_and c.from_residual.result c.from_residual.ensures.1 in
    spends_stopped c.args.solver.now c.refutation.new.solver c.refutation.result c.from_residual.result
    c.in_err-reply.field-0.0 c.in_err-reply.was (why.1 ∙ ap Err why.2) c.refutation.ensures.asked.stop
    c.refutation.ensures.asked.count

pub returns-in_err-line-clause-sink : goal.returns-in_err-line-clause-sink
returns-in_err-line-clause-sink g c =
    let why = err_from_is_err_and c.from_residual-in_err-line.result c.from_residual-in_err-line.ensures.1 in
    let sink = g.K.Sink.is_failed c.args.sink.now in
    sink_stopped sink sink c.from_residual-in_err-line.result _ (why.1 ∙ ap Err why.2) refl

pub returns-in_err-line-clause-spends : goal.returns-in_err-line-clause-spends
returns-in_err-line-clause-spends g c =
    let why = err_from_is_err_and c.from_residual-in_err-line.result c.from_residual-in_err-line.ensures.1 in
    spends_no_memory c.args.solver.now c.refutation.new.solver c.from_residual-in_err-line.result why.0 why.1 why.2
    c.refutation.ensures.asked.count

pub returns-in_err-write_all-clause-sink : goal.returns-in_err-write_all-clause-sink
returns-in_err-write_all-clause-sink g c =
    let end = c.from_residual-in_err-write_all in
    let why = err_from_is_err_and end.result end.ensures.1 in
    sink_failed (g.K.Sink.is_failed c.args.sink.now) (g.K.Sink.is_failed c.write_all.new.sink) end.result
    (why.1 ∙ ap Err why.2) (c.in_err-write_all.ensures.failed refl)

pub returns-in_err-write_all-clause-spends : goal.returns-in_err-write_all-clause-spends
returns-in_err-write_all-clause-spends g c =
    let end = c.from_residual-in_err-write_all in
    let why = err_from_is_err_and end.result end.ensures.1 in
    spends_sink c.args.solver.now c.refutation.new.solver end.result (why.1 ∙ ap Err why.2)
    c.refutation.ensures.asked.count

pub returns-in_ok-write_all-clause-spends : goal.returns-in_ok-write_all-clause-spends
returns-in_ok-write_all-clause-spends g c =
    spends_done c.args.solver.now c.refutation.new.solver _ c.refutation.ensures.asked.count

pub returns-in_default-clause-spends : goal.returns-in_default-clause-spends
returns-in_default-clause-spends g c =
    spends_done c.args.solver.now c.refutation.new.solver _ c.refutation.ensures.asked.count

pub try_line-requires-clause-step : goal.try_line-requires-clause-step
try_line-requires-clause-step g c = c.requires.legal

pub try_line-requires-clause-reply : goal.try_line-requires-clause-reply
try_line-requires-clause-reply g c =
    let n = c.args.moves - 1 in
    let found = subst (FindsRefutation g.B.Board.geometry c.play-after.result n) c.in-Some.is
    c.in_ok-reply.ensures.found in
    (subst (λ z. IsRefutation g.B.Board.geometry z n c.in-Some.reply) c.play-after.ensures found).refutes.0

pub returns-in_err-reply-clause-searched : goal.returns-in_err-reply-clause-searched
returns-in_err-reply-clause-searched g c =
    let n = c.args.moves in
    let end = c.from_residual in
    let why = err_from_is_err_and end.result end.ensures.1 in
    let few = cut_few c.refutation.result (n - 1) in
    ended g.B.Board.geometry n (cut_off c.refutation.result (n - 1)) end.result why.0 _ _ why.1 (omega (arith, few))
    (c.searches_add_up.ensures.wider g.B.Board.geometry (n - 1) n _ _ _ (omega arith)
    c.refutation.ensures.asked.searched)

pub returns-in_err-line-clause-searched : goal.returns-in_err-line-clause-searched
returns-in_err-line-clause-searched g c =
    let n = c.args.moves in
    let end = c.from_residual-in_err-line in
    let why = err_from_is_err_and end.result end.ensures.1 in
    ended g.B.Board.geometry n 0 end.result why.0 _ _ why.1 (omega arith)
    (c.searches_add_up.ensures.wider g.B.Board.geometry (n - 1) n 0 _ _ (omega arith)
    c.in_ok-reply.ensures.asked.searched)

pub returns-in_err-write_all-clause-searched : goal.returns-in_err-write_all-clause-searched
returns-in_err-write_all-clause-searched g c =
    let n = c.args.moves in
    let end = c.from_residual-in_err-write_all in
    let why = err_from_is_err_and end.result end.ensures.1 in
    ended g.B.Board.geometry n 0 end.result why.0 _ _ why.1 (omega arith)
    (c.searches_add_up.ensures.wider g.B.Board.geometry (n - 1) n 0 _ _ (omega arith)
    c.in_ok-reply.ensures.asked.searched)

pub returns-in_ok-write_all-clause-searched : goal.returns-in_ok-write_all-clause-searched
returns-in_ok-write_all-clause-searched g c =
    c.searches_add_up.ensures.wider g.B.Board.geometry (c.args.moves - 1) c.args.moves 0 _ _ (omega arith)
    c.in_ok-reply.ensures.asked.searched

pub returns-in_default-clause-searched : goal.returns-in_default-clause-searched
returns-in_default-clause-searched g c =
    c.searches_add_up.ensures.wider g.B.Board.geometry (c.args.moves - 1) c.args.moves 0 _ _ (omega arith)
    c.in_ok-reply.ensures.asked.searched
