use Rattle.std.proofs.Common.{◌∙◌, refl, sym, ap, subst, arith, Some, Err}
use Rattle.std.proofs.lemmas.Result.{err_from_is_err_and}
use Rattle.dw_list.specs.Listing.{stack_of, solver_of}
use Rattle.dw_solve.specs.Lines.{Lines}
use Rattle.dw_report.specs.ListedText.{IsListedText}
use Rattle.dw_report.specs.inner.Rows.{HasLines}
use Rattle.dw_report.proofs.LineRowLemmas.{listed_after, listed_written, listed_fault}
use Rattle.dw_report.proofs.ListedTextLemmas.{listed_some}
use Rattle.dw_report.proofs.WritingLemmas.{no_lines}
use Rattle.dw_report.proofs.SpendingLemmas.{counted_then}
use Rattle.dw_report.proofs.FaultLemmas.{sink_same, sink_failed, spends_same, spends_done, spends_sink, spends_further}
use Rattle.dw_report.proofs.listing.write_after.Goals as goal

pub write_listing-requires : goal.write_listing-requires
write_listing-requires g c =
    let old = stack_of c.args.lister.now in
    let all = c.lines_exist.ensures.some g.B.Board.geometry g.met.B.Board.numbers old.position old.moves in
    let rest = c.in-Ok.ensures.after.rest all.0 all.1 in
    let lister = c.after.new.self in
    let ahead : HasLines g.B.Board.geometry c.args.position.now (stack_of lister) = record {
      position = c.in-Ok.ensures.after.position ∙ c.requires.position;
      lines = rest.0;
      to_come = rest.2;
    } in
    (omega arith, (c.requires.works, (c.requires.some, ahead)))

pub returns-in_err-write_listing-in-Ok-clause-text : goal.returns-in_err-write_listing-in-Ok-clause-text
returns-in_err-write_listing-in-Ok-clause-text g c =
    let geo = g.B.Board.geometry in
    let p = c.args.position.now in
    let old = stack_of c.args.lister.now in
    let all = c.lines_exist.ensures.some geo g.met.B.Board.numbers old.position old.moves in
    let rest = c.in-Ok.ensures.after.rest all.0 all.1 in
    let here = subst (λ z. Lines geo z old.moves all.0) c.requires.position all.1 in
    let why = err_from_is_err_and c.from_residual-in_err-write_listing-in-Ok.result
    c.from_residual-in_err-write_listing-in-Ok.ensures.1 in
    listed_fault geo p old.moves c.args.most (Some c.args.line.now) rest.0 (listed_after geo p old.moves c.args.most
    c.args.line.now all.0 rest.0 here rest.1) _ _
    c.write_listing.result c.from_residual-in_err-write_listing-in-Ok.result c.in_err-write_listing-in-Ok.field-0.0
    why.0 c.in_err-write_listing-in-Ok.was why.1 (sym why.2) (c.write_listing.ensures.text rest.0 rest.2)

pub returns-in-Err-Stopped-clause-text : goal.returns-in-Err-Stopped-clause-text
returns-in-Err-Stopped-clause-text g c =
    let geo = g.B.Board.geometry in
    let p = c.args.position.now in
    let old = stack_of c.args.lister.now in
    no_lines (IsListedText geo p old.moves c.args.most (Some c.args.line.now))
    (listed_some c.lines_exist.ensures c.line_or_place.ensures c.lines_have_texts.ensures geo g.met.B.Board.numbers p
    old.moves c.args.most (Some c.args.line.now) c.requires.some) (g.K.Sink.accepted c.args.sink.now)

pub returns-in_ok-write_listing-in-Ok-clause-text : goal.returns-in_ok-write_listing-in-Ok-clause-text
returns-in_ok-write_listing-in-Ok-clause-text g c =
    let geo = g.B.Board.geometry in
    let p = c.args.position.now in
    let old = stack_of c.args.lister.now in
    let all = c.lines_exist.ensures.some geo g.met.B.Board.numbers old.position old.moves in
    let rest = c.in-Ok.ensures.after.rest all.0 all.1 in
    let here = subst (λ z. Lines geo z old.moves all.0) c.requires.position all.1 in
    listed_written geo p old.moves c.args.most (Some c.args.line.now) rest.0 (listed_after geo p old.moves c.args.most
    c.args.line.now all.0 rest.0 here rest.1) _ _ (c.in_ok-write_listing-in-Ok.ensures.text rest.0 rest.2)

pub returns-in_err-write_all-in-Err-NotALine-clause-sink : goal.returns-in_err-write_all-in-Err-NotALine-clause-sink
returns-in_err-write_all-in-Err-NotALine-clause-sink g c =
    let why = err_from_is_err_and c.from_residual.result c.from_residual.ensures.1 in
    sink_failed (g.K.Sink.is_failed c.args.sink.now) (g.K.Sink.is_failed c.write_all.new.sink) c.from_residual.result
    (why.1 ∙ ap Err why.2) (c.in_err-write_all-in-Err-NotALine.ensures.failed refl)

pub returns-in_err-write_all-in-Err-NotALine-clause-spends : goal.returns-in_err-write_all-in-Err-NotALine-clause-spends
returns-in_err-write_all-in-Err-NotALine-clause-spends g c =
    let why = err_from_is_err_and c.from_residual.result c.from_residual.ensures.1 in
    spends_sink (solver_of c.args.lister.now) (solver_of c.after.new.self) c.from_residual.result (why.1 ∙ ap Err why.2)
    c.after.ensures.count

pub returns-in_err-write_listing-in-Ok-clause-sink : goal.returns-in_err-write_listing-in-Ok-clause-sink
returns-in_err-write_listing-in-Ok-clause-sink g c =
    let end = c.from_residual-in_err-write_listing-in-Ok in
    let why = err_from_is_err_and end.result end.ensures.1 in
    sink_same (g.K.Sink.is_failed c.args.sink.now) (g.K.Sink.is_failed c.write_listing.new.sink)
    c.write_listing.result end.result c.in_err-write_listing-in-Ok.field-0.0 why.0 c.in_err-write_listing-in-Ok.was
    why.1
    (sym why.2) c.write_listing.ensures.sink

pub returns-in_err-write_listing-in-Ok-clause-spends : goal.returns-in_err-write_listing-in-Ok-clause-spends
returns-in_err-write_listing-in-Ok-clause-spends g c =
    let end = c.from_residual-in_err-write_listing-in-Ok in
    let why = err_from_is_err_and end.result end.ensures.1 in
    let old = solver_of c.args.lister.now in
    let new = solver_of c.write_listing.new.lister in
    spends_same old new c.write_listing.result end.result c.in_err-write_listing-in-Ok.field-0.0 why.0
    c.in_err-write_listing-in-Ok.was why.1 (sym why.2) (spends_further old (solver_of c.after.new.self) new
    c.write_listing.result c.after.ensures.count c.write_listing.ensures.spends)

pub returns-in_ok-write_all-in-Err-NotALine-clause-spends : goal.returns-in_ok-write_all-in-Err-NotALine-clause-spends
returns-in_ok-write_all-in-Err-NotALine-clause-spends g c =
    spends_done (solver_of c.args.lister.now) (solver_of c.after.new.self) _ c.after.ensures.count

pub returns-in_ok-write_listing-in-Ok-clause-spends : goal.returns-in_ok-write_listing-in-Ok-clause-spends
returns-in_ok-write_listing-in-Ok-clause-spends g c =
    let old = solver_of c.args.lister.now in
    let new = solver_of c.write_listing.new.lister in
    spends_done old new _ (counted_then old (solver_of c.after.new.self) new c.after.ensures.count
    c.write_listing.ensures.spends.count)
