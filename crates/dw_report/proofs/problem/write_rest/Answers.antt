use Rattle.std.proofs.Common.{◌≡◌, ◌∙◌, List, [], ℕ, ap, sym, subst, arith, refl}
use Rattle.dw_notation.specs.inner.StreamLemmas.{Appends-nil}
use Rattle.std.proofs.lemmas.Result.{err_from_is_err_and}
use Rattle.dw_notation.specs.inner.Writes.{Writes}
use Rattle.dw_report.specs.Request.{request_of}
use Rattle.dw_report.specs.declared.settings.Command.{Command}
use Rattle.dw_report.specs.Running.{AreLinesOf}
use Rattle.dw_report.specs.inner.Running.{TextEnds, IsSaidThen}
use Rattle.dw_report.specs.declared.settings.Command.TheVariants.{Moves, MovesRow, Judge, Show, ShowRow, List as Lists}
use Rattle.dw_report.proofs.SearchLemmas.{same_fault, searches_none}
use Rattle.dw_report.proofs.FaultLemmas.{fault_same, sink_same, spends_same, ok_not_stopped, spends_ok, searches_for}
use Rattle.dw_report.proofs.FaultLemmas.{searches_moves, refused_none, refused_lists, refused_row}
use Rattle.dw_report.proofs.FaultLemmas.{searches_row, spends_after}
use Rattle.dw_report.proofs.WritingLemmas.{row_ends}
use Rattle.dw_report.specs.Request.{writes_rows}
use Rattle.std.specs.String.{string_bytes}
use Rattle.dw_solve.specs.Questions.{moment_of}
use Rattle.dw_solve.specs.Work.{cut_off}
use Rattle.dw_report.proofs.WorkLemmas.{cut_few, ended}
use Rattle.dw_report.proofs.problem.write_rest.Goals as goal

pub returns-in_ok-write_moves-in-Moves-clause-text : goal.returns-in_ok-write_moves-in-Moves-clause-text
returns-in_ok-write_moves-in-Moves-clause-text g c =
    let request = request_of c.args.settings.now in
    let said : Command → List ℕ → Type 0 = λ z. IsSaidThen g.B.Board.geometry z request c.args.number
    c.args.position.now in
    subst (λ z. Writes (said z) (g.K.Sink.accepted c.args.sink.now) (g.K.Sink.accepted c.write_moves.new.sink))
    (sym c.in-Moves.is) c.in_ok-write_moves-in-Moves.ensures.text

pub returns-in_ok-write_judged-in-Judge-clause-text : goal.returns-in_ok-write_judged-in-Judge-clause-text
returns-in_ok-write_judged-in-Judge-clause-text g c =
    let request = request_of c.args.settings.now in
    let said : Command → List ℕ → Type 0 = λ z. IsSaidThen g.B.Board.geometry z request c.args.number
    c.args.position.now in
    subst (λ z. Writes (said z) (g.K.Sink.accepted c.args.sink.now) (g.K.Sink.accepted c.write_judged.new.sink))
    (sym c.in-Judge.is) c.in_ok-write_judged-in-Judge.ensures.text

pub returns-in-List-clause-text : goal.returns-in-List-clause-text
returns-in-List-clause-text g c =
    let request = request_of c.args.settings.now in
    let said : Command → List ℕ → Type 0 = λ z. IsSaidThen g.B.Board.geometry z request c.args.number
    c.args.position.now in
    subst (λ z. TextEnds (said z) (AreLinesOf (said z)) (g.K.Sink.accepted c.args.sink.now)
    (g.K.Sink.accepted c.write_lines.new.sink) c.write_lines.result) (sym c.in-List.is) c.write_lines.ensures.text

pub returns-in_err-write_moves-in-Moves-clause-text : goal.returns-in_err-write_moves-in-Moves-clause-text
returns-in_err-write_moves-in-Moves-clause-text g c =
    let request = request_of c.args.settings.now in
    let said : Command → List ℕ → Type 0 = λ z. IsSaidThen g.B.Board.geometry z request c.args.number
    c.args.position.now in
    let old = g.K.Sink.accepted c.args.sink.now in
    let new = g.K.Sink.accepted c.write_moves.new.sink in
    let why = err_from_is_err_and c.from_residual.result c.from_residual.ensures.1 in
    subst (λ z. TextEnds (said z) (AreLinesOf (said z)) old new c.from_residual.result) (sym c.in-Moves.is)
    (fault_same (said Moves) (AreLinesOf (said Moves)) old new c.write_moves.result c.from_residual.result
    c.in_err-write_moves-in-Moves.field-0.0 why.0 c.in_err-write_moves-in-Moves.was why.1 (sym why.2)
    c.write_moves.ensures.text)

pub returns-in_err-write_moves-in-Moves-clause-sink : goal.returns-in_err-write_moves-in-Moves-clause-sink
returns-in_err-write_moves-in-Moves-clause-sink g c =
    let why = err_from_is_err_and c.from_residual.result c.from_residual.ensures.1 in
    sink_same (g.K.Sink.is_failed c.args.sink.now) (g.K.Sink.is_failed c.write_moves.new.sink) c.write_moves.result
    c.from_residual.result c.in_err-write_moves-in-Moves.field-0.0 why.0 c.in_err-write_moves-in-Moves.was why.1 (sym
    why.2)
    c.write_moves.ensures.sink

pub returns-in_err-write_judged-in-Judge-clause-text : goal.returns-in_err-write_judged-in-Judge-clause-text
returns-in_err-write_judged-in-Judge-clause-text g c =
    let request = request_of c.args.settings.now in
    let said : Command → List ℕ → Type 0 = λ z. IsSaidThen g.B.Board.geometry z request c.args.number
    c.args.position.now in
    let old = g.K.Sink.accepted c.args.sink.now in
    let new = g.K.Sink.accepted c.write_judged.new.sink in
    let why = err_from_is_err_and c.from_residual-in_err-write_judged-in-Judge.result
    c.from_residual-in_err-write_judged-in-Judge.ensures.1 in
    subst (λ z. TextEnds (said z) (AreLinesOf (said z)) old new c.from_residual-in_err-write_judged-in-Judge.result)
    (sym c.in-Judge.is)
    (fault_same (said Judge) (AreLinesOf (said Judge)) old new c.write_judged.result
    c.from_residual-in_err-write_judged-in-Judge.result
    c.in_err-write_judged-in-Judge.field-0.0 why.0 c.in_err-write_judged-in-Judge.was why.1 (sym why.2)
    c.write_judged.ensures.text)

pub returns-in_err-write_judged-in-Judge-clause-sink : goal.returns-in_err-write_judged-in-Judge-clause-sink
returns-in_err-write_judged-in-Judge-clause-sink g c =
    let why = err_from_is_err_and c.from_residual-in_err-write_judged-in-Judge.result
    c.from_residual-in_err-write_judged-in-Judge.ensures.1 in
    sink_same (g.K.Sink.is_failed c.args.sink.now) (g.K.Sink.is_failed c.write_judged.new.sink) c.write_judged.result
    c.from_residual-in_err-write_judged-in-Judge.result c.in_err-write_judged-in-Judge.field-0.0 why.0
    c.in_err-write_judged-in-Judge.was why.1 (sym why.2)
    c.write_judged.ensures.sink

pub returns-in_err-write_moves-in-Moves-clause-searches : goal.returns-in_err-write_moves-in-Moves-clause-searches
returns-in_err-write_moves-in-Moves-clause-searches g c =
    let why = err_from_is_err_and c.from_residual.result c.from_residual.ensures.1 in
    searches_moves c.args.settings.now.command c.args.solver.now c.from_residual.result c.in-Moves.is
    (λ stop e. c.write_moves.ensures.memory stop (same_fault c.write_moves.result c.from_residual.result
    c.in_err-write_moves-in-Moves.field-0.0 why.0 c.in_err-write_moves-in-Moves.was why.1 (sym why.2) stop e))

pub returns-in_err-write_judged-in-Judge-clause-searches : goal.returns-in_err-write_judged-in-Judge-clause-searches
returns-in_err-write_judged-in-Judge-clause-searches g c =
    let end = c.from_residual-in_err-write_judged-in-Judge in
    let why = err_from_is_err_and end.result end.ensures.1 in
    searches_for c.args.settings.now.command Judge c.args.solver.now c.write_judged.new.solver end.result c.in-Judge.is
    (spends_same c.args.solver.now c.write_judged.new.solver c.write_judged.result end.result
    c.in_err-write_judged-in-Judge.field-0.0 why.0 c.in_err-write_judged-in-Judge.was why.1 (sym why.2)
    (spends_after c.args.solver.now c.forget.new.self c.write_judged.new.solver c.write_judged.result
    c.forget.ensures.expanded c.forget.ensures.limit c.write_judged.ensures.spends))

pub write_lines-requires : goal.write_lines-requires
write_lines-requires g c = (omega arith, (c.requires.works, (c.in-List.is, c.requires.sound)))

pub returns-in_ok-write_moves-in-Moves-clause-searches : goal.returns-in_ok-write_moves-in-Moves-clause-searches
returns-in_ok-write_moves-in-Moves-clause-searches g c =
    searches_moves c.args.settings.now.command c.args.solver.now _ c.in-Moves.is
    (λ why e. absurd (ok_not_stopped _ why e))

pub returns-in_ok-write_judged-in-Judge-clause-searches : goal.returns-in_ok-write_judged-in-Judge-clause-searches
returns-in_ok-write_judged-in-Judge-clause-searches g c =
    searches_for c.args.settings.now.command Judge c.args.solver.now c.write_judged.new.solver _ c.in-Judge.is
    (spends_ok c.args.solver.now c.write_judged.new.solver c.write_judged.result _
    (spends_after c.args.solver.now c.forget.new.self c.write_judged.new.solver c.write_judged.result
    c.forget.ensures.expanded c.forget.ensures.limit c.write_judged.ensures.spends))

pub returns-in-List-clause-searches : goal.returns-in-List-clause-searches
returns-in-List-clause-searches g c =
    searches_for c.args.settings.now.command Lists c.args.solver.now c.write_lines.new.solver c.write_lines.result
    c.in-List.is
    (spends_after c.args.solver.now c.forget-in-List.new.self c.write_lines.new.solver c.write_lines.result
    c.forget-in-List.ensures.expanded c.forget-in-List.ensures.limit c.write_lines.ensures.spends)

pub returns-in-Show-clause-text : goal.returns-in-Show-clause-text
returns-in-Show-clause-text g c =
    let request = request_of c.args.settings.now in
    let old = g.K.Sink.accepted c.args.sink.now in
    let said : Command → List ℕ → Type 0 = λ z. IsSaidThen g.B.Board.geometry z request c.args.number
    c.args.position.now in
    subst (λ z. Writes (said z) old old) (sym c.in-Show.is)
    (record { text = []; is = refl; wrote = Appends-nil old })

pub returns-in-Show-clause-searches : goal.returns-in-Show-clause-searches
returns-in-Show-clause-searches g c =
    searches_none c.args.settings.now.command c.args.solver.now c.args.solver.now _ refl c.keeps_its_limit.ensures
    (ok_not_stopped _)

pub returns-in-Show-clause-refused : goal.returns-in-Show-clause-refused
returns-in-Show-clause-refused g c =
    refused_none c.args.settings.now.command (λ e. let bad : Show ≡ Lists = sym c.in-Show.is ∙ e in cc)

pub returns-in_ok-write_moves-in-Moves-clause-refused : goal.returns-in_ok-write_moves-in-Moves-clause-refused
returns-in_ok-write_moves-in-Moves-clause-refused g c =
    refused_none c.args.settings.now.command (λ e. let bad : Moves ≡ Lists = sym c.in-Moves.is ∙ e in cc)

pub returns-in_ok-write_judged-in-Judge-clause-refused : goal.returns-in_ok-write_judged-in-Judge-clause-refused
returns-in_ok-write_judged-in-Judge-clause-refused g c =
    refused_none c.args.settings.now.command (λ e. let bad : Judge ≡ Lists = sym c.in-Judge.is ∙ e in cc)

pub returns-in-List-clause-refused : goal.returns-in-List-clause-refused
returns-in-List-clause-refused g c =
    refused_lists _ c.args.settings.now.command c.write_lines.result c.in-List.is c.write_lines.ensures.refused

pub returns-in-ShowRow-clause-text : goal.returns-in-ShowRow-clause-text
returns-in-ShowRow-clause-text g c =
    let geo = g.B.Board.geometry in
    let request = request_of c.args.settings.now in
    let p = c.args.position.now in
    row_ends string_bytes geo request c.args.number p ShowRow (g.K.Sink.accepted c.args.sink.now)
    (g.K.Sink.accepted c.write_row.new.sink) c.shown_row.result c.write_row.result c.in-ShowRow.is
    (c.one_report.ensures.texts geo g.met.B.Board.numbers request c.requires.sound.lines) c.shown_row.ensures refl
    c.write_row.ensures.text

pub returns-in-ShowRow-clause-searches : goal.returns-in-ShowRow-clause-searches
returns-in-ShowRow-clause-searches g c =
    searches_row c.args.settings.now.command c.args.solver.now c.write_row.result (ap writes_rows c.in-ShowRow.is)
    c.write_row.ensures.memory

pub returns-in-ShowRow-clause-refused : goal.returns-in-ShowRow-clause-refused
returns-in-ShowRow-clause-refused g c =
    refused_row _ c.args.settings.now.command c.write_row.result
    (λ e. let bad : ShowRow ≡ Lists = sym c.in-ShowRow.is ∙ e in cc) c.write_row.ensures.refused

pub returns-in-MovesRow-clause-text : goal.returns-in-MovesRow-clause-text
returns-in-MovesRow-clause-text g c =
    let geo = g.B.Board.geometry in
    let request = request_of c.args.settings.now in
    let p = c.args.position.now in
    row_ends string_bytes geo request c.args.number p MovesRow (g.K.Sink.accepted c.args.sink.now)
    (g.K.Sink.accepted c.write_row-in-MovesRow.new.sink) c.moves_row.result c.write_row-in-MovesRow.result
    c.in-MovesRow.is
    (c.one_report.ensures.texts geo g.met.B.Board.numbers request c.requires.sound.lines) c.moves_row.ensures refl
    c.write_row-in-MovesRow.ensures.text

pub returns-in-MovesRow-clause-searches : goal.returns-in-MovesRow-clause-searches
returns-in-MovesRow-clause-searches g c =
    searches_row c.args.settings.now.command c.args.solver.now c.write_row-in-MovesRow.result
    (ap writes_rows c.in-MovesRow.is) c.write_row-in-MovesRow.ensures.memory

pub returns-in-MovesRow-clause-refused : goal.returns-in-MovesRow-clause-refused
returns-in-MovesRow-clause-refused g c =
    refused_row _ c.args.settings.now.command c.write_row-in-MovesRow.result
    (λ e. let bad : MovesRow ≡ Lists = sym c.in-MovesRow.is ∙ e in cc) c.write_row-in-MovesRow.ensures.refused

pub returns-in_err-write_judged-in-Judge-clause-works : goal.returns-in_err-write_judged-in-Judge-clause-works
returns-in_err-write_judged-in-Judge-clause-works g c = λ judges.
    let n = c.args.settings.now.n in
    let end = c.from_residual-in_err-write_judged-in-Judge in
    let why = err_from_is_err_and end.result end.ensures.1 in
    record {
      then = moment_of g.M.Memo.content g.M.Memo.dropped c.forget.new.self;
      forgot = c.forget.ensures.forgets;
      kept = c.forget.ensures.keeps;
      lost = c.forget.ensures.dropped;
      expanded = c.forget.ensures.expanded;
      searched = ended g.B.Board.geometry n (cut_off c.write_judged.result n) end.result why.0 _ _ why.1
          (cut_few c.write_judged.result n) c.write_judged.ensures.searched;
    }

pub returns-in_ok-write_judged-in-Judge-clause-works : goal.returns-in_ok-write_judged-in-Judge-clause-works
returns-in_ok-write_judged-in-Judge-clause-works g c = λ judges. record {
  then = moment_of g.M.Memo.content g.M.Memo.dropped c.forget.new.self;
  forgot = c.forget.ensures.forgets;
  kept = c.forget.ensures.keeps;
  lost = c.forget.ensures.dropped;
  expanded = c.forget.ensures.expanded;
  searched = c.in_ok-write_judged-in-Judge.ensures.searched;
}

pub returns-in-List-clause-works : goal.returns-in-List-clause-works
returns-in-List-clause-works g c = λ judges. absurd (let bad : Lists ≡ Judge = sym c.in-List.is ∙ judges in cc)

pub returns-in-Show-clause-works : goal.returns-in-Show-clause-works
returns-in-Show-clause-works g c = λ judges. absurd (let bad : Show ≡ Judge = sym c.in-Show.is ∙ judges in cc)

pub returns-in-ShowRow-clause-works : goal.returns-in-ShowRow-clause-works
returns-in-ShowRow-clause-works g c = λ judges. absurd (let bad : ShowRow ≡ Judge = sym c.in-ShowRow.is ∙ judges in cc)

pub returns-in-MovesRow-clause-works : goal.returns-in-MovesRow-clause-works
returns-in-MovesRow-clause-works g c = λ judges. absurd (let bad : MovesRow ≡ Judge = sym c.in-MovesRow.is ∙ judges in
    cc)

pub returns-in_err-write_moves-in-Moves-clause-works : goal.returns-in_err-write_moves-in-Moves-clause-works
returns-in_err-write_moves-in-Moves-clause-works g c = λ judges. absurd (let bad : Moves ≡ Judge = sym c.in-Moves.is
    ∙ judges in cc)

pub returns-in_ok-write_moves-in-Moves-clause-works : goal.returns-in_ok-write_moves-in-Moves-clause-works
returns-in_ok-write_moves-in-Moves-clause-works g c = λ judges. absurd (let bad : Moves ≡ Judge = sym c.in-Moves.is
    ∙ judges in cc)
