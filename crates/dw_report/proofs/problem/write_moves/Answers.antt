use Rattle.std.proofs.Common.{refl, sym, ap, ◌∙◌, subst, Err}
use Rattle.std.proofs.lemmas.Result.{err_from_is_err_and}
use Rattle.dw_moves.specs.Order.{AreListed}
use Rattle.dw_solve.specs.declared.stop.Stop.TheVariants as stops
use Rattle.dw_report.specs.Report.{IsMovesText}
use Rattle.dw_report.specs.Running.{AreLinesOf}
use Rattle.dw_report.proofs.MoveLineLemmas.{no_move, moves_some, lines_more, lines_all, line_short, count_short}
use Rattle.dw_report.proofs.WritingLemmas.{at_stop, at_sink, no_lines}
use Rattle.dw_report.proofs.FaultLemmas.{sink_stopped, sink_failed, only_memory, not_stopped, ok_not_stopped}
use Rattle.dw_report.proofs.problem.write_moves.Goals as goal

pub returns-in_err-list-clause-text : goal.returns-in_err-list-clause-text
returns-in_err-list-clause-text g c =
    let geo = g.B.Board.geometry in
    let p = c.args.position.now in
    let why = err_from_is_err_and c.from_residual.result c.from_residual.ensures.1 in
    at_stop (IsMovesText geo p) (AreLinesOf (IsMovesText geo p)) _ _ c.from_residual.result stops.Memory (why.1
    ∙ ap Err why.2)
    (no_lines (IsMovesText geo p) (moves_some geo p c.best-taken.result (c.moves_in_order.ensures.listed geo
    g.met.B.Board.numbers p) c.best-taken.ensures.value) (g.K.Sink.accepted c.args.sink.now))

pub returns-in_err-write_all-clause-text : goal.returns-in_err-write_all-clause-text
returns-in_err-write_all-clause-text g c =
    let geo = g.B.Board.geometry in
    let p = c.args.position.now in
    let list = c.as_slice-moves.result.now in
    let all : AreListed geo p list = subst (AreListed geo p) (sym c.as_slice-moves.ensures.value)
    c.in_ok-list.ensures in
    let why = err_from_is_err_and c.from_residual-in_err-write_all.result c.from_residual-in_err-write_all.ensures.1 in
    at_sink (IsMovesText geo p) (AreLinesOf (IsMovesText geo p)) _ _ c.from_residual-in_err-write_all.result (why.1
    ∙ ap Err why.2)
    (line_short geo p list c.moves.place c.best-taken.result no_move (g.K.Sink.accepted c.args.sink.now)
    (g.K.Sink.accepted c.moves.sink) (g.K.Sink.accepted c.write_all.new.sink) c.as_bytes.result.now all
    c.best-taken.ensures.value c.moves.invariant.lines c.moves-test.true
    c.in_err-write_all.ensures.err (c.as_bytes.ensures.value ∙ (c.as_str.ensures.value ∙ c.move_line.ensures no_move)))

pub moves-preserved : goal.moves-preserved
moves-preserved g c = record {
  lines = lines_more g.B.Board.geometry c.args.position.now c.as_slice-moves.result.now c.moves.place no_move
      (g.K.Sink.accepted c.args.sink.now) (g.K.Sink.accepted c.moves.sink) (g.K.Sink.accepted c.write_all.new.sink)
      c.as_bytes.result.now c.moves.invariant.lines c.moves-test.true
      c.in_ok-write_all.ensures.ok (c.as_bytes.ensures.value ∙ (c.as_str.ensures.value ∙ c.move_line.ensures no_move));
  sink = c.in_ok-write_all.ensures.kept ∙ c.moves.invariant.sink;
}

pub returns-in_err-write_all-2-clause-text : goal.returns-in_err-write_all-2-clause-text
returns-in_err-write_all-2-clause-text g c =
    let geo = g.B.Board.geometry in
    let p = c.args.position.now in
    let list = c.as_slice-moves.result.now in
    let all : AreListed geo p list = subst (AreListed geo p) (sym c.as_slice-moves.ensures.value)
    c.in_ok-list.ensures in
    let why = err_from_is_err_and c.from_residual-in_err-write_all-2.result
    c.from_residual-in_err-write_all-2.ensures.1 in
    at_sink (IsMovesText geo p) (AreLinesOf (IsMovesText geo p)) _ _ c.from_residual-in_err-write_all-2.result (why.1
    ∙ ap Err why.2)
    (count_short geo p list c.moves.place c.best-taken.result (g.K.Sink.accepted c.args.sink.now)
    (g.K.Sink.accepted c.moves.sink) (g.K.Sink.accepted c.write_all-2.new.sink) c.as_bytes-2.result.now all
    c.best-taken.ensures.value c.moves.invariant.lines c.moves-test.false
    c.in_err-write_all-2.ensures.err (c.as_bytes-2.ensures.value ∙ (c.as_str-2.ensures.value ∙ c.count_line.ensures)))

pub returns-clause-text : goal.returns-clause-text
returns-clause-text g c =
    let geo = g.B.Board.geometry in
    let p = c.args.position.now in
    let list = c.as_slice-moves.result.now in
    let all : AreListed geo p list = subst (AreListed geo p) (sym c.as_slice-moves.ensures.value)
    c.in_ok-list.ensures in
    lines_all geo p list c.moves.place c.best-taken.result (g.K.Sink.accepted c.args.sink.now)
    (g.K.Sink.accepted c.moves.sink) (g.K.Sink.accepted c.write_all-2.new.sink) c.as_bytes-2.result.now all
    c.best-taken.ensures.value c.moves.invariant.lines c.moves-test.false
    c.in_ok-write_all-2.ensures.ok (c.as_bytes-2.ensures.value ∙ (c.as_str-2.ensures.value ∙ c.count_line.ensures))

pub returns-in_err-list-clause-sink : goal.returns-in_err-list-clause-sink
returns-in_err-list-clause-sink g c =
    let why = err_from_is_err_and c.from_residual.result c.from_residual.ensures.1 in
    let sink = g.K.Sink.is_failed c.args.sink.now in
    sink_stopped sink sink c.from_residual.result stops.Memory (why.1 ∙ ap Err why.2) refl

pub returns-in_err-list-clause-memory : goal.returns-in_err-list-clause-memory
returns-in_err-list-clause-memory g c =
    let why = err_from_is_err_and c.from_residual.result c.from_residual.ensures.1 in
    only_memory c.from_residual.result why.0 why.1 why.2

pub returns-in_err-write_all-clause-sink : goal.returns-in_err-write_all-clause-sink
returns-in_err-write_all-clause-sink g c =
    let end = c.from_residual-in_err-write_all in
    let why = err_from_is_err_and end.result end.ensures.1 in
    sink_failed (g.K.Sink.is_failed c.args.sink.now) (g.K.Sink.is_failed c.write_all.new.sink) end.result
    (why.1 ∙ ap Err why.2) (c.in_err-write_all.ensures.failed refl)

pub returns-in_err-write_all-clause-memory : goal.returns-in_err-write_all-clause-memory
returns-in_err-write_all-clause-memory g c =
    let end = c.from_residual-in_err-write_all in
    let why = err_from_is_err_and end.result end.ensures.1 in
    not_stopped end.result (why.1 ∙ ap Err why.2)

pub returns-in_err-write_all-2-clause-sink : goal.returns-in_err-write_all-2-clause-sink
returns-in_err-write_all-2-clause-sink g c =
    let end = c.from_residual-in_err-write_all-2 in
    let why = err_from_is_err_and end.result end.ensures.1 in
    sink_failed (g.K.Sink.is_failed c.args.sink.now) (g.K.Sink.is_failed c.write_all-2.new.sink) end.result
    (why.1 ∙ ap Err why.2) (c.in_err-write_all-2.ensures.failed refl)

pub returns-in_err-write_all-2-clause-memory : goal.returns-in_err-write_all-2-clause-memory
returns-in_err-write_all-2-clause-memory g c =
    let end = c.from_residual-in_err-write_all-2 in
    let why = err_from_is_err_and end.result end.ensures.1 in
    not_stopped end.result (why.1 ∙ ap Err why.2)

pub returns-clause-memory : goal.returns-clause-memory
returns-clause-memory g c =
    λ why e. absurd (ok_not_stopped _ why e)
