use Rattle.std.proofs.Common.{◌≡◌, ◌∙◌, ◌↔◌, sym, ap, subst, arith, Some, None, IsTrue, true, false}
use Rattle.std.specs.Prelude.{option_map}
use Rattle.std.proofs.lemmas.Result.{err_from_is_err_and}
use Rattle.dw_notation.specs.inner.Writes.{Writes}
use Rattle.dw_list.specs.Listing.{stack_of, solver_of}
use Rattle.dw_report.specs.ListedText.{IsListedText}
use Rattle.dw_report.specs.Running.{IsNoLine}
use Rattle.dw_report.specs.inner.Rows.{HasLines}
use Rattle.dw_report.specs.Request.{request_of}
use Rattle.dw_report.proofs.LineRowLemmas.{EndsListed, listed_all, listed_written, listed_fault, refused_as}
use Rattle.dw_report.proofs.FaultLemmas.{sink_same, spends_same, spends_ok}
use Rattle.dw_report.proofs.listing.write_requested.Goals as goal

pub write_listing-requires : goal.write_listing-requires
write_listing-requires g c =
    let before = c.requires.before in
    let all = c.lines_exist.ensures.some g.B.Board.geometry g.met.B.Board.numbers c.args.position.now
    c.args.settings.now.n in
    let ahead : HasLines g.B.Board.geometry c.args.position.now (stack_of c.args.lister.now) = record {
      position = before.position;
      lines = all.0;
      to_come = (before.to_come all.0).0 all.1;
    } in
    (omega arith, (c.requires.works, (c.requires.some, ahead)))

pub returns-in_err-write_listing-in-None-clause-text : goal.returns-in_err-write_listing-in-None-clause-text
returns-in_err-write_listing-in-None-clause-text g c =
    let geo = g.B.Board.geometry in
    let p = c.args.position.now in
    let n = c.args.settings.now.n in
    let most = c.args.settings.now.lines in
    let all = c.lines_exist.ensures.some geo g.met.B.Board.numbers p n in
    let none : (request_of c.args.settings.now).after ≡ None = ap (option_map (λ line. line.items)) c.in-None.is in
    let why = err_from_is_err_and c.from_residual.result c.from_residual.ensures.1 in
    subst (λ o. EndsListed geo p n most o (g.K.Sink.accepted c.args.sink.now)
    (g.K.Sink.accepted c.write_listing.new.sink)
    c.from_residual.result) (sym none)
    (listed_fault geo p n most None all.0 (listed_all geo p n most all.0 all.1) _ _ c.write_listing.result
    c.from_residual.result c.in_err-write_listing-in-None.field-0.0 why.0 c.in_err-write_listing-in-None.was why.1
    (sym why.2)
    (c.write_listing.ensures.text all.0 ((c.requires.before.to_come all.0).0 all.1)))

pub returns-in_ok-write_listing-in-None-clause-text : goal.returns-in_ok-write_listing-in-None-clause-text
returns-in_ok-write_listing-in-None-clause-text g c =
    let geo = g.B.Board.geometry in
    let p = c.args.position.now in
    let n = c.args.settings.now.n in
    let most = c.args.settings.now.lines in
    let all = c.lines_exist.ensures.some geo g.met.B.Board.numbers p n in
    let none : (request_of c.args.settings.now).after ≡ None = ap (option_map (λ line. line.items)) c.in-None.is in
    subst (λ o. Writes (IsListedText geo p n most o) (g.K.Sink.accepted c.args.sink.now)
    (g.K.Sink.accepted c.write_listing.new.sink)) (sym none)
    (listed_written geo p n most None all.0 (listed_all geo p n most all.0 all.1) _ _
    (c.in_ok-write_listing-in-None.ensures.text all.0 ((c.requires.before.to_come all.0).0 all.1)))

pub returns-in-Some-clause-refused : goal.returns-in-Some-clause-refused
returns-in-Some-clause-refused g c =
    let line : (request_of c.args.settings.now).after ≡ Some c.as_slice.result.now =
    ap (option_map (λ line. line.items)) c.in-Some.is ∙ ap Some (sym c.as_slice.ensures.value) in
    refused_as g.B.Board.geometry c.args.position.now c.args.settings.now.n (stack_of c.args.lister.now).moves
    (request_of c.args.settings.now).after (Some c.as_slice.result.now) c.write_after.result c.requires.before.moves
    (sym line) c.write_after.ensures.refused

pub returns-in_err-write_listing-in-None-clause-sink : goal.returns-in_err-write_listing-in-None-clause-sink
returns-in_err-write_listing-in-None-clause-sink g c =
    let why = err_from_is_err_and c.from_residual.result c.from_residual.ensures.1 in
    sink_same (g.K.Sink.is_failed c.args.sink.now) (g.K.Sink.is_failed c.write_listing.new.sink)
    c.write_listing.result c.from_residual.result c.in_err-write_listing-in-None.field-0.0 why.0
    c.in_err-write_listing-in-None.was why.1 (sym why.2) c.write_listing.ensures.sink

pub returns-in_err-write_listing-in-None-clause-spends : goal.returns-in_err-write_listing-in-None-clause-spends
returns-in_err-write_listing-in-None-clause-spends g c =
    let why = err_from_is_err_and c.from_residual.result c.from_residual.ensures.1 in
    spends_same (solver_of c.args.lister.now) (solver_of c.write_listing.new.lister) c.write_listing.result
    c.from_residual.result c.in_err-write_listing-in-None.field-0.0 why.0 c.in_err-write_listing-in-None.was why.1
    (sym why.2) c.write_listing.ensures.spends

pub returns-in_ok-write_listing-in-None-clause-spends : goal.returns-in_ok-write_listing-in-None-clause-spends
returns-in_ok-write_listing-in-None-clause-spends g c =
    spends_ok (solver_of c.args.lister.now) (solver_of c.write_listing.new.lister) c.write_listing.result _
    c.write_listing.ensures.spends

pub returns-in-Some-clause-text : goal.returns-in-Some-clause-text
returns-in-Some-clause-text g c =
    let geo = g.B.Board.geometry in
    let p = c.args.position.now in
    let most = c.args.settings.now.lines in
    let old = g.K.Sink.accepted c.args.sink.now in
    let new = g.K.Sink.accepted c.write_after.new.sink in
    let line : (request_of c.args.settings.now).after ≡ Some c.as_slice.result.now =
    ap (option_map (λ line. line.items)) c.in-Some.is ∙ ap Some (sym c.as_slice.ensures.value) in
    subst (λ o. EndsListed geo p c.args.settings.now.n most o old new c.write_after.result) (sym line)
    (subst (λ k. EndsListed geo p k most (Some c.as_slice.result.now) old new c.write_after.result)
    c.requires.before.moves c.write_after.ensures.text)

pub returns-in-Some-clause-sink : goal.returns-in-Some-clause-sink
returns-in-Some-clause-sink g c = c.write_after.ensures.sink

pub returns-in-Some-clause-spends : goal.returns-in-Some-clause-spends
returns-in-Some-clause-spends g c = c.write_after.ensures.spends

pub returns-in_ok-write_listing-in-None-clause-refused : goal.returns-in_ok-write_listing-in-None-clause-refused
returns-in_ok-write_listing-in-None-clause-refused g c =
    let none : (request_of c.args.settings.now).after ≡ None = ap (option_map (λ line. line.items)) c.in-None.is in
    subst (λ o. IsTrue false ↔ IsNoLine g.B.Board.geometry c.args.position.now c.args.settings.now.n o) (sym none)
    (λ t. let bad : false ≡ true = t in cc, λ h. absurd h)
