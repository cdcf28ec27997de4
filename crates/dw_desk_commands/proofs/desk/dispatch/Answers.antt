use Rattle.std.proofs.Common.{◌≡◌, ◌-◌, ℕ, List, [], Option, ap, false, sym, subst}
use Rattle.std.proofs.lemmas.Result.{IfErr-weaker, err_from_is_err_and}
use Rattle.std.specs.Borrow.{Bor}
use Rattle.dw_desk_commands.specs.Certify.{IsCertifyOf}
use Rattle.dw_desk_commands.specs.Check.{IsCheckOf}
use Rattle.dw_desk_commands.specs.Commands.{Leaves, RunsCommand, Tells}
use Rattle.dw_desk_commands.specs.Ending.{HasCause}
use Rattle.dw_desk_commands.specs.Find.{IsFindOf}
use Rattle.dw_desk_commands.specs.Mend.{IsMendOf}
use Rattle.dw_desk_commands.specs.Moves.{IsMovesOf}
use Rattle.dw_desk_commands.specs.Page.{IsPageOf}
use Rattle.dw_desk_commands.specs.ProblemText.{IsHeading, IsPartOfFirst, IsReportOnOne}
use Rattle.dw_desk_commands.specs.Same.{IsSameOf}
use Rattle.dw_desk_commands.specs.Solution.{IsSolutionOf}
use Rattle.dw_desk_commands.specs.Token.{IsTokenFor}
use Rattle.dw_desk_commands.specs.inner.Choosing.{AreToCome, MayBe, source_of}
use Rattle.dw_desk_commands.specs.inner.Faults.{run_fault}
use Rattle.dw_desk_commands.specs.inner.Standing.{StandsOf}
use Rattle.dw_arguments.specs.declared.desk.Task.TheVariants as tasks
use Rattle.dw_desk_commands.specs.inner.NextGame.{IsNext, as_list}
use Rattle.dw_desk_commands.proofs.CommandLemmas.{IsAll, all_left, does_all, does_it, does_one, nothing_left}
use Rattle.dw_desk_commands.proofs.CommandLemmas.{one_left, page_left, same_left}
use Rattle.dw_desk_commands.proofs.ProblemLemmas.{is_err, ok_so}
use Rattle.dw_games.specs.Games.{NumberedGame, problem_of}
use Rattle.dw_notation.specs.Streams.{Appends}
use Rattle.dw_desk_commands.proofs.desk.dispatch.Goals as goal

pub returns-in-Find-clause-does : goal.returns-in-Find-clause-does
returns-in-Find-clause-does g c =
    let geo = g.B.Board.geometry in
    let args = c.args.args.now in
    let expanded = c.report_all.new.desk.solver.expanded - c.args.desk.now.solver.expanded in
    let One = λ (spent : ℕ) (game : NumberedGame). IsFindOf geo c.in-Find.query spent (problem_of game) in
    does_all geo g.S.Source.supply args expanded c.args.chosen.now c.report_all.new.chosen
    (g.K.Sink.accepted c.args.sink.now) (g.K.Sink.accepted c.report_all.new.sink) One
    c.in_ok-report_all-in-Find.field-0 c.ending.result c.requires.fresh c.in_ok-report_all-in-Find.ensures.on
    c.in_ok-report_all-in-Find.ensures.report c.ending.ensures
    (λ games text all. subst (λ t. Tells geo args.portion t expanded games c.ending.result text) (sym c.in-Find.is) all)

pub returns-in-Check-clause-does : goal.returns-in-Check-clause-does
returns-in-Check-clause-does g c =
    let geo = g.B.Board.geometry in
    let args = c.args.args.now in
    let expanded = c.report_all-in-Check.new.desk.solver.expanded - c.args.desk.now.solver.expanded in
    let One = λ (spent : ℕ). IsCheckOf geo c.in-Check.query in
    does_all geo g.S.Source.supply args expanded c.args.chosen.now c.report_all-in-Check.new.chosen
    (g.K.Sink.accepted c.args.sink.now) (g.K.Sink.accepted c.report_all-in-Check.new.sink) One
    c.in_ok-report_all-in-Check.field-0 c.ending-in-Check.result c.requires.fresh c.in_ok-report_all-in-Check.ensures.on
    c.in_ok-report_all-in-Check.ensures.report c.ending-in-Check.ensures
    (λ games text all. subst (λ t. Tells geo args.portion t expanded games c.ending-in-Check.result text)
    (sym c.in-Check.is) all)

pub returns-in-Solution-clause-does : goal.returns-in-Solution-clause-does
returns-in-Solution-clause-does g c =
    let geo = g.B.Board.geometry in
    let args = c.args.args.now in
    let expanded = c.report_all-in-Solution.new.desk.solver.expanded - c.args.desk.now.solver.expanded in
    let One = λ (spent : ℕ). IsSolutionOf geo c.in-Solution.query in
    does_all geo g.S.Source.supply args expanded c.args.chosen.now c.report_all-in-Solution.new.chosen
    (g.K.Sink.accepted c.args.sink.now) (g.K.Sink.accepted c.report_all-in-Solution.new.sink) One
    c.in_ok-report_all-in-Solution.field-0 c.ending-in-Solution.result c.requires.fresh
    c.in_ok-report_all-in-Solution.ensures.on
    c.in_ok-report_all-in-Solution.ensures.report c.ending-in-Solution.ensures
    (λ games text all. subst (λ t. Tells geo args.portion t expanded games c.ending-in-Solution.result text)
    (sym c.in-Solution.is) all)

pub returns-in-Page-clause-does : goal.returns-in-Page-clause-does
returns-in-Page-clause-does g c =
    let geo = g.B.Board.geometry in
    let args = c.args.args.now in
    let expanded = c.page_problems.new.desk.solver.expanded - c.args.desk.now.solver.expanded in
    let page = c.in_ok-page_problems-in-Page in
    let counts = page.field-0 in
    let r = page.ensures.report in
    does_it geo g.S.Source.supply args expanded c.args.chosen.now c.page_problems.new.chosen
    (g.K.Sink.accepted c.args.sink.now) (g.K.Sink.accepted c.page_problems.new.sink) c.ending-in-Page.result r.1
    c.requires.fresh page.ensures.on r.4
    (λ whole may. (
      r.0,
      r.2 whole may,
      subst (λ t. Tells geo args.portion t expanded r.0 c.ending-in-Page.result r.1) (sym c.in-Page.is) (
        counts,
        subst (λ z. IsPageOf geo c.in-Page.query z r.0 counts r.1) c.requires.fresh.portion r.3,
        c.ending-in-Page.ensures,
      ),
    ))

pub returns-in-Same-clause-does : goal.returns-in-Same-clause-does
returns-in-Same-clause-does g c =
    let geo = g.B.Board.geometry in
    let args = c.args.args.now in
    let expanded = c.args.desk.now.solver.expanded - c.args.desk.now.solver.expanded in
    let all = c.in_ok-same_problems-in-Same in
    let counts = all.field-0 in
    let r = all.ensures.report in
    does_it geo g.S.Source.supply args expanded c.args.chosen.now c.same_problems.new.chosen
    (g.K.Sink.accepted c.args.sink.now) (g.K.Sink.accepted c.same_problems.new.sink) c.ending-in-Same.result r.1
    c.requires.fresh all.ensures.on r.4
    (λ whole may. (
      r.0,
      r.2 whole may,
      subst (λ t. Tells geo args.portion t expanded r.0 c.ending-in-Same.result r.1) (sym c.in-Same.is) (
        counts,
        subst (λ z. IsSameOf geo c.in-Same.query z r.0 counts r.1) c.requires.fresh.portion r.3,
        c.ending-in-Same.ensures,
      ),
    ))

pub returns-in-Certify-clause-does : goal.returns-in-Certify-clause-does
returns-in-Certify-clause-does g c =
    let geo = g.B.Board.geometry in
    let supply = g.S.Source.supply in
    let args = c.args.args.now in
    let expanded = c.report_first.new.desk.solver.expanded - c.args.desk.now.solver.expanded in
    let chosen = c.args.chosen.now in
    let after = c.report_first.new.chosen in
    let before_text = g.K.Sink.accepted c.args.sink.now in
    let after_text = g.K.Sink.accepted c.report_first.new.sink in
    let One = λ (game : NumberedGame). IsCertifyOf geo c.in-Certify.query.n.value (problem_of game) in
    ok_so (λ ending. (next : Option NumberedGame) × (text : List ℕ) × IsNext geo supply chosen after next
    × IsReportOnOne One chosen.portion.first (as_list next) ending text × Appends before_text after_text text)
    (RunsCommand geo args expanded (supply (source_of chosen.text)) (supply (source_of after.text)) before_text
    after_text)
    c.report_first.result
    (λ ending told. does_one geo supply args expanded chosen after before_text after_text One ending c.requires.fresh
    told (λ games text one. subst (λ t. Tells geo args.portion t expanded games ending text) (sym c.in-Certify.is) one))
    c.report_first.ensures.report

pub returns-in-Moves-clause-does : goal.returns-in-Moves-clause-does
returns-in-Moves-clause-does g c =
    let geo = g.B.Board.geometry in
    let supply = g.S.Source.supply in
    let args = c.args.args.now in
    let expanded = c.report_first-in-Moves.new.desk.solver.expanded - c.args.desk.now.solver.expanded in
    let chosen = c.args.chosen.now in
    let after = c.report_first-in-Moves.new.chosen in
    let before_text = g.K.Sink.accepted c.args.sink.now in
    let after_text = g.K.Sink.accepted c.report_first-in-Moves.new.sink in
    let One = λ (game : NumberedGame). IsMovesOf geo c.in-Moves.query (problem_of game) in
    ok_so (λ ending. (next : Option NumberedGame) × (text : List ℕ) × IsNext geo supply chosen after next
    × IsReportOnOne One chosen.portion.first (as_list next) ending text × Appends before_text after_text text)
    (RunsCommand geo args expanded (supply (source_of chosen.text)) (supply (source_of after.text)) before_text
    after_text)
    c.report_first-in-Moves.result
    (λ ending told. does_one geo supply args expanded chosen after before_text after_text One ending c.requires.fresh
    told (λ games text one. subst (λ t. Tells geo args.portion t expanded games ending text) (sym c.in-Moves.is) one))
    c.report_first-in-Moves.ensures.report

pub returns-in-Mend-clause-does : goal.returns-in-Mend-clause-does
returns-in-Mend-clause-does g c =
    let geo = g.B.Board.geometry in
    let supply = g.S.Source.supply in
    let args = c.args.args.now in
    let expanded = c.report_first-in-Mend.new.desk.solver.expanded - c.args.desk.now.solver.expanded in
    let chosen = c.args.chosen.now in
    let after = c.report_first-in-Mend.new.chosen in
    let before_text = g.K.Sink.accepted c.args.sink.now in
    let after_text = g.K.Sink.accepted c.report_first-in-Mend.new.sink in
    let One = λ (game : NumberedGame). IsMendOf geo c.in-Mend.query expanded (problem_of game) in
    ok_so (λ ending. (next : Option NumberedGame) × (text : List ℕ) × IsNext geo supply chosen after next
    × IsReportOnOne One chosen.portion.first (as_list next) ending text × Appends before_text after_text text)
    (RunsCommand geo args expanded (supply (source_of chosen.text)) (supply (source_of after.text)) before_text
    after_text)
    c.report_first-in-Mend.result
    (λ ending told. does_one geo supply args expanded chosen after before_text after_text One ending c.requires.fresh
    told (λ games text one. subst (λ t. Tells geo args.portion t expanded games ending text) (sym c.in-Mend.is) one))
    c.report_first-in-Mend.ensures.report

pub returns-in-Token-clause-does : goal.returns-in-Token-clause-does
returns-in-Token-clause-does g c =
    let geo = g.B.Board.geometry in
    let supply = g.S.Source.supply in
    let args = c.args.args.now in
    let expanded = c.report_first-in-Token.new.desk.solver.expanded - c.args.desk.now.solver.expanded in
    let chosen = c.args.chosen.now in
    let after = c.report_first-in-Token.new.chosen in
    let before_text = g.K.Sink.accepted c.args.sink.now in
    let after_text = g.K.Sink.accepted c.report_first-in-Token.new.sink in
    let One = λ (game : NumberedGame). IsTokenFor geo c.in-Token.line.now game.said.found in
    ok_so (λ ending. (next : Option NumberedGame) × (text : List ℕ) × IsNext geo supply chosen after next
    × IsReportOnOne One chosen.portion.first (as_list next) ending text × Appends before_text after_text text)
    (RunsCommand geo args expanded (supply (source_of chosen.text)) (supply (source_of after.text)) before_text
    after_text)
    c.report_first-in-Token.result
    (λ ending told. does_one geo supply args expanded chosen after before_text after_text One ending c.requires.fresh
    told (λ games text one. subst (λ t. Tells geo args.portion t expanded games ending text) (sym c.in-Token.is) one))
    c.report_first-in-Token.ensures.report

pub returns-in_err-report_all-in-Find-clause-stands : goal.returns-in_err-report_all-in-Find-clause-stands
returns-in_err-report_all-in-Find-clause-stands g c =
    let geo = g.B.Board.geometry in
    let supply = g.S.Source.supply in
    let args = c.args.args.now in
    let start = g.K.Sink.accepted c.args.sink.now in
    let new = g.K.Sink.accepted c.report_all.new.sink in
    let may = MayBe supply c.report_all.new.chosen in
    let Old = AreToCome geo supply c.args.chosen.now in
    let task = tasks.Find c.in-Find.query in
    let fault = c.in_err-report_all-in-Find.field-0.0 in
    let why = err_from_is_err_and c.from_residual.result c.from_residual.ensures.1 in
    is_err (StandsOf (Leaves geo args.task) (IsAll (Bor (List ℕ)) geo args.portion args.task) may Old start new)
    c.from_residual.result why.0 fault why.1 why.2
    (all_left (Bor (List ℕ)) geo args.portion args.task task may Old start new fault (Leaves geo task) c.in-Find.is
    (λ games text left. left) c.in_err-report_all-in-Find.ensures.stands)

pub returns-in_err-report_all-in-Check-clause-stands : goal.returns-in_err-report_all-in-Check-clause-stands
returns-in_err-report_all-in-Check-clause-stands g c =
    let geo = g.B.Board.geometry in
    let supply = g.S.Source.supply in
    let args = c.args.args.now in
    let start = g.K.Sink.accepted c.args.sink.now in
    let new = g.K.Sink.accepted c.report_all-in-Check.new.sink in
    let may = MayBe supply c.report_all-in-Check.new.chosen in
    let Old = AreToCome geo supply c.args.chosen.now in
    let task = tasks.Check c.in-Check.query in
    let fault = c.in_err-report_all-in-Check.field-0.0 in
    let why = err_from_is_err_and c.from_residual-in_err-report_all-in-Check.result
    c.from_residual-in_err-report_all-in-Check.ensures.1 in
    is_err (StandsOf (Leaves geo args.task) (IsAll (Bor (List ℕ)) geo args.portion args.task) may Old start new)
    c.from_residual-in_err-report_all-in-Check.result why.0 fault why.1 why.2
    (all_left (Bor (List ℕ)) geo args.portion args.task task may Old start new fault (Leaves geo task) c.in-Check.is
    (λ games text left. left) c.in_err-report_all-in-Check.ensures.stands)

pub returns-in_err-report_all-in-Solution-clause-stands : goal.returns-in_err-report_all-in-Solution-clause-stands
returns-in_err-report_all-in-Solution-clause-stands g c =
    let geo = g.B.Board.geometry in
    let supply = g.S.Source.supply in
    let args = c.args.args.now in
    let start = g.K.Sink.accepted c.args.sink.now in
    let new = g.K.Sink.accepted c.report_all-in-Solution.new.sink in
    let may = MayBe supply c.report_all-in-Solution.new.chosen in
    let Old = AreToCome geo supply c.args.chosen.now in
    let task = tasks.Solution c.in-Solution.query in
    let fault = c.in_err-report_all-in-Solution.field-0.0 in
    let why = err_from_is_err_and c.from_residual-in_err-report_all-in-Solution.result
    c.from_residual-in_err-report_all-in-Solution.ensures.1 in
    is_err (StandsOf (Leaves geo args.task) (IsAll (Bor (List ℕ)) geo args.portion args.task) may Old start new)
    c.from_residual-in_err-report_all-in-Solution.result why.0 fault why.1 why.2
    (all_left (Bor (List ℕ)) geo args.portion args.task task may Old start new fault (Leaves geo task) c.in-Solution.is
    (λ games text left. left) c.in_err-report_all-in-Solution.ensures.stands)

pub returns-in_err-page_problems-in-Page-clause-stands : goal.returns-in_err-page_problems-in-Page-clause-stands
returns-in_err-page_problems-in-Page-clause-stands g c =
    let geo = g.B.Board.geometry in
    let supply = g.S.Source.supply in
    let args = c.args.args.now in
    let start = g.K.Sink.accepted c.args.sink.now in
    let new = g.K.Sink.accepted c.page_problems.new.sink in
    let may = MayBe supply c.page_problems.new.chosen in
    let Old = AreToCome geo supply c.args.chosen.now in
    let query = c.in-Page.query in
    let fault = c.in_err-page_problems-in-Page.field-0.0 in
    let why = err_from_is_err_and c.from_residual-in_err-page_problems-in-Page.result
    c.from_residual-in_err-page_problems-in-Page.ensures.1 in
    is_err (StandsOf (Leaves geo args.task) (IsAll (Bor (List ℕ)) geo args.portion args.task) may Old start new)
    c.from_residual-in_err-page_problems-in-Page.result why.0 fault why.1 why.2
    (page_left (Bor (List ℕ)) geo args.portion c.args.chosen.now.portion args.task query may Old start new fault
    c.in-Page.is c.requires.fresh.portion c.in_err-page_problems-in-Page.ensures.stands)

pub returns-in_err-same_problems-in-Same-clause-stands : goal.returns-in_err-same_problems-in-Same-clause-stands
returns-in_err-same_problems-in-Same-clause-stands g c =
    let geo = g.B.Board.geometry in
    let supply = g.S.Source.supply in
    let args = c.args.args.now in
    let start = g.K.Sink.accepted c.args.sink.now in
    let new = g.K.Sink.accepted c.same_problems.new.sink in
    let may = MayBe supply c.same_problems.new.chosen in
    let Old = AreToCome geo supply c.args.chosen.now in
    let query = c.in-Same.query in
    let fault = c.in_err-same_problems-in-Same.field-0.0 in
    let why = err_from_is_err_and c.from_residual-in_err-same_problems-in-Same.result
    c.from_residual-in_err-same_problems-in-Same.ensures.1 in
    is_err (StandsOf (Leaves geo args.task) (IsAll (Bor (List ℕ)) geo args.portion args.task) may Old start new)
    c.from_residual-in_err-same_problems-in-Same.result why.0 fault why.1 why.2
    (same_left (Bor (List ℕ)) geo args.portion c.args.chosen.now.portion args.task query may Old start new fault
    c.in-Same.is c.requires.fresh.portion c.in_err-same_problems-in-Same.ensures.stands)

pub returns-in-Certify-clause-stands : goal.returns-in-Certify-clause-stands
returns-in-Certify-clause-stands g c =
    let geo = g.B.Board.geometry in
    let supply = g.S.Source.supply in
    let args = c.args.args.now in
    let start = g.K.Sink.accepted c.args.sink.now in
    let new = g.K.Sink.accepted c.report_first.new.sink in
    let may = MayBe supply c.report_first.new.chosen in
    let Old = AreToCome geo supply c.args.chosen.now in
    let One = λ (spent : ℕ) (game : NumberedGame). IsCertifyOf geo c.in-Certify.query.n.value (problem_of game) in
    IfErr-weaker c.report_first.result _ _ (λ fault stands. one_left (Bor (List ℕ)) geo args.portion args.task
    (tasks.Certify c.in-Certify.query) may Old start new fault (IsPartOfFirst
    (IsHeading geo false)) One c.args.chosen.now.portion.first c.in-Certify.is
    (ap (λ z. z.first) c.requires.fresh.portion) nothing_left (λ games text expanded ending one. one) stands)
    c.report_first.ensures.stands

pub returns-in-Moves-clause-stands : goal.returns-in-Moves-clause-stands
returns-in-Moves-clause-stands g c =
    let geo = g.B.Board.geometry in
    let supply = g.S.Source.supply in
    let args = c.args.args.now in
    let start = g.K.Sink.accepted c.args.sink.now in
    let new = g.K.Sink.accepted c.report_first-in-Moves.new.sink in
    let may = MayBe supply c.report_first-in-Moves.new.chosen in
    let Old = AreToCome geo supply c.args.chosen.now in
    let One = λ (spent : ℕ) (game : NumberedGame). IsMovesOf geo c.in-Moves.query (problem_of game) in
    IfErr-weaker c.report_first-in-Moves.result _ _ (λ fault stands. one_left (Bor (List ℕ)) geo args.portion args.task
    (tasks.Moves c.in-Moves.query) may Old start new fault (Leaves geo
    (tasks.Moves c.in-Moves.query)) One c.args.chosen.now.portion.first c.in-Moves.is
    (ap (λ z. z.first) c.requires.fresh.portion) (λ games text left. left)
    (λ games text expanded ending one. one) stands)
    c.report_first-in-Moves.ensures.stands

pub returns-in-Mend-clause-stands : goal.returns-in-Mend-clause-stands
returns-in-Mend-clause-stands g c =
    let geo = g.B.Board.geometry in
    let supply = g.S.Source.supply in
    let args = c.args.args.now in
    let start = g.K.Sink.accepted c.args.sink.now in
    let new = g.K.Sink.accepted c.report_first-in-Mend.new.sink in
    let may = MayBe supply c.report_first-in-Mend.new.chosen in
    let Old = AreToCome geo supply c.args.chosen.now in
    let One = λ (spent : ℕ) (game : NumberedGame). IsMendOf geo c.in-Mend.query spent (problem_of game) in
    IfErr-weaker c.report_first-in-Mend.result _ _ (λ fault stands. one_left (Bor (List ℕ)) geo args.portion args.task
    (tasks.Mend c.in-Mend.query) may Old start new fault (Leaves geo
    (tasks.Mend c.in-Mend.query)) One c.args.chosen.now.portion.first c.in-Mend.is
    (ap (λ z. z.first) c.requires.fresh.portion) (λ games text left. left)
    (λ games text expanded ending one. one) stands)
    c.report_first-in-Mend.ensures.stands

pub returns-in-Token-clause-stands : goal.returns-in-Token-clause-stands
returns-in-Token-clause-stands g c =
    let geo = g.B.Board.geometry in
    let supply = g.S.Source.supply in
    let args = c.args.args.now in
    let start = g.K.Sink.accepted c.args.sink.now in
    let new = g.K.Sink.accepted c.report_first-in-Token.new.sink in
    let may = MayBe supply c.report_first-in-Token.new.chosen in
    let Old = AreToCome geo supply c.args.chosen.now in
    let One = λ (spent : ℕ) (game : NumberedGame). IsTokenFor geo c.in-Token.line.now game.said.found in
    IfErr-weaker c.report_first-in-Token.result _ _ (λ fault stands. one_left (Bor (List ℕ)) geo args.portion args.task
    (tasks.Token c.in-Token.line) may Old start new fault (IsPartOfFirst
    (λ game text. text ≡ [])) One c.args.chosen.now.portion.first c.in-Token.is
    (ap (λ z. z.first) c.requires.fresh.portion) nothing_left (λ games text expanded ending one. one) stands)
    c.report_first-in-Token.ensures.stands

pub returns-in-Same-clause-ends : goal.returns-in-Same-clause-ends
returns-in-Same-clause-ends g c = record {
  source = (c.same_problems.ensures.ends c.args.desk.now.solver.expanded).source;
  cause = tt;
}

pub returns-in_err-same_problems-in-Same-clause-ends : goal.returns-in_err-same_problems-in-Same-clause-ends
returns-in_err-same_problems-in-Same-clause-ends g c =
    let expanded = c.args.desk.now.solver.expanded in
    let fault = c.in_err-same_problems-in-Same.field-0.0 in
    let read_failed = g.S.Source.is_failed (source_of c.same_problems.new.chosen.text) in
    let write_failed = g.K.Sink.is_failed c.same_problems.new.sink in
    let why = err_from_is_err_and c.from_residual-in_err-same_problems-in-Same.result
    c.from_residual-in_err-same_problems-in-Same.ensures.1 in
    record {
      source = (c.same_problems.ensures.ends expanded).source;
      cause = is_err (λ f. HasCause read_failed write_failed (run_fault f expanded))
          c.from_residual-in_err-same_problems-in-Same.result why.0 fault why.1 why.2
          (c.in_err-same_problems-in-Same.ensures.ends expanded).cause;
    }
