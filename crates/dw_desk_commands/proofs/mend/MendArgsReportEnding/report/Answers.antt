use Rattle.std.proofs.Common.{◌∙◌, ◌-◌, ◌==◌, ◌++◌, ℕ, List, [], Err, append-nil, ap, inl, inr, not, refl}
use Rattle.std.proofs.Common.{subst, sym}
use Rattle.std.proofs.Common.{true}
use Rattle.std.proofs.lemmas.Result.{err_from_is_err_and}
use Rattle.dw_commands.specs.declared.ending.Ending.{Ending}
use Rattle.dw_commands.specs.declared.ending.Ending.TheVariants.{Refused}
use Rattle.dw_mend.specs.Changes.{AreNeighbours}
use Rattle.dw_notation.specs.Writes.{StopsShort}
use Rattle.dw_parts.specs.Parts.{part_of}
use Rattle.dw_desk_commands.specs.declared.desk.DeskFault.TheVariants as because
use Rattle.dw_desk_commands.specs.inner.Faults.{of_mend}
use Rattle.dw_desk_commands.specs.inner.Standing.{MayLeave, Stands}
use Rattle.dw_notation.specs.inner.StreamLemmas.{Appends-trans}
use Rattle.dw_mend.specs.Mending.{IsMendStop, IsMendText}
use Rattle.dw_notation.specs.Problems.{numbered}
use Rattle.dw_desk_commands.specs.Mend.{IsMendOf, IsMendPart, IsMended, wording_for}
use Rattle.dw_desk_commands.specs.ProblemText.{heading}
use Rattle.dw_desk_commands.proofs.MendLemmas.{all_told, lines_left, mend_stands, no_lines}
use Rattle.dw_desk_commands.proofs.ProblemLemmas.{bounded_from, is_err}
use Rattle.dw_desk_commands.proofs.StandingLemmas.{short_stands}
use Rattle.dw_desk_commands.proofs.mend.MendArgsReportEnding.report.Goals as goal

pub returns-clause-text : goal.returns-clause-text
returns-clause-text g c =
    let geo = g.B.Board.geometry in
    let taken = g.K.Sink.accepted in
    let query = c.args.self.now in
    let problem = numbered c.args.game.now.problem in
    let mended = c.in_ok-mended.field-0 in
    let text = c.in_ok-mended.ensures.text in
    let refused = not (mended.undecided == 0) in
    let expanded = c.mend-mended.new.solver.expanded - c.args.desk.now.solver.expanded in
    let before = heading geo (not query.json) problem in
    let whole = before ++ text.0 in (
      whole,
      (
        refused,
        subst (λ z. IsMended geo query expanded problem z refused whole) (sym c.in-Ok.is) (
          text.0,
          (
            mended.all,
            mended.sound,
            mended.undecided,
            subst (λ z. IsMendText (wording_for query.json) geo c.in-Ok.position query.n.value query.each query.part
                query.parts mended.all mended.sound mended.undecided (c.mend-mended.new.solver.expanded - z) text.0)
                c.begin.ensures (subst (λ z. IsMendText z geo c.in-Ok.position query.n.value query.each query.part
                query.parts mended.all mended.sound mended.undecided
                (c.mend-mended.new.solver.expanded - c.begin.new.self.solver.expanded) text.0) c.wording_for.ensures
                text.1),
            bounded_from query.each mended.all mended.undecided c.begin.new.self.solver.expanded
                c.args.desk.now.solver.expanded c.mend-mended.new.solver.expanded c.begin.ensures
                c.in_ok-mended.ensures.bounded,
            refl,
          ),
          refl,
        ),
        c.ending_with.ensures,
      ),
      Appends-trans (taken c.args.sink.now) (taken c.write_heading.new.sink)
          (taken c.mend-mended.new.sink) before text.0
          c.in_ok-write_heading.ensures.text text.2,
    )

pub returns-in_err-write_all-in-Err-clause-stands : goal.returns-in_err-write_all-in-Err-clause-stands
returns-in_err-write_all-in-Err-clause-stands g c =
    let geo = g.B.Board.geometry in
    let start = g.K.Sink.accepted c.args.sink.now in
    let new = g.K.Sink.accepted c.write_all.new.sink in
    let query = c.args.self.now in
    let problem = numbered c.args.game.now.problem in
    let text = c.in_ok-text-in-Err.text.items in
    let Part = MayLeave (IsMendPart geo query problem) in
    let Whole = λ (text : List ℕ). (expanded : ℕ) × (ending : Ending g.row.E.Denot)
    × IsMendOf geo query expanded problem ending text in
    let why = err_from_is_err_and c.from_residual-in_err-write_all-in-Err.result
    c.from_residual-in_err-write_all-in-Err.ensures.1 in
    is_err (Stands Part Whole start new) c.from_residual-in_err-write_all-in-Err.result why.0 because.Write why.1 why.2
    (short_stands Part Whole start new text because.Write refl
    (subst (StopsShort start new) c.as_slice.ensures.value c.in_err-write_all-in-Err.ensures.err)
    (inr (
      0,
      Refused,
      (
        true,
        subst (λ z. IsMended geo query 0 problem z true text) (sym c.in-Err.is) (refl, c.in_ok-text-in-Err.ensures),
        refl,
      ),
    )))

pub returns-in_err-write_heading-clause-stands : goal.returns-in_err-write_heading-clause-stands
returns-in_err-write_heading-clause-stands g c =
    let geo = g.B.Board.geometry in
    let start = g.K.Sink.accepted c.args.sink.now in
    let new = g.K.Sink.accepted c.write_heading.new.sink in
    let query = c.args.self.now in
    let problem = numbered c.args.game.now.problem in
    let first = heading geo (not query.json) problem in
    let Part = MayLeave (IsMendPart geo query problem) in
    let Whole = λ (text : List ℕ). (expanded : ℕ) × (ending : Ending g.row.E.Denot)
    × IsMendOf geo query expanded problem ending text in
    let why = err_from_is_err_and c.from_residual-in_err-write_heading.result
    c.from_residual-in_err-write_heading.ensures.1 in
    is_err (Stands Part Whole start new) c.from_residual-in_err-write_heading.result why.0
    c.in_err-write_heading.field-0.0 why.1 why.2
    (short_stands Part Whole start new first c.in_err-write_heading.field-0.0 c.in_err-write_heading.ensures.write
    c.in_err-write_heading.ensures.short
    (inl (inr (subst (IsMendPart geo query problem) (append-nil first)
    (lines_left geo query problem c.in-Ok.position [] c.in-Ok.is (no_lines geo query c.in-Ok.position))))))

pub returns-in_err-mended-clause-stands : goal.returns-in_err-mended-clause-stands
returns-in_err-mended-clause-stands g c =
    let geo = g.B.Board.geometry in
    let taken = g.K.Sink.accepted in
    let start = taken c.args.sink.now in
    let mid = taken c.write_heading.new.sink in
    let new = taken c.mend-mended.new.sink in
    let query = c.args.self.now in
    let problem = numbered c.args.game.now.problem in
    let p = c.in-Ok.position in
    let Part = MayLeave (IsMendPart geo query problem) in
    let Whole = λ (text : List ℕ). (expanded : ℕ) × (ending : Ending g.row.E.Denot)
    × IsMendOf geo query expanded problem ending text in
    let fault = c.in_err-mended.field-0.0 in
    let worded = c.wording_for.ensures in
    let why = err_from_is_err_and c.from_residual-in_err-mended.result c.from_residual-in_err-mended.ensures.1 in
    is_err (Stands Part Whole start new) c.from_residual-in_err-mended.result why.0 (of_mend fault) why.1 why.2
    (mend_stands geo query problem p Whole start mid new fault c.in-Ok.is c.in_ok-write_heading.ensures.text
    (λ stop is. let s = c.mend-mended.ensures.stopped stop (c.in_err-mended.was ∙ ap Err is) in (
      s.0,
      subst (λ z. (all : _) → AreNeighbours geo p all
          → IsMendStop z geo query.n.value query.each (part_of query.part query.parts all) s.0) worded s.1,
      s.2,
    ))
    (λ is. let s = c.mend-mended.ensures.short (c.in_err-mended.was ∙ ap Err is) in (
      s.0,
      s.1,
      elim s.2 [
        | inl lines ↦ inl (subst (λ z. (all : _) → AreNeighbours geo p all
            → IsMendStop z geo query.n.value query.each (part_of query.part query.parts all) s.0) worded lines)
        | inr (all, sound, undecided, text, bounded) ↦ inr (record {
          all = all;
          sound = sound;
          undecided = undecided;
          before = c.begin.new.self.solver.expanded;
          after = c.mend-mended.new.solver.expanded;
          text = subst (λ z. IsMendText z geo p query.n.value query.each query.part query.parts all sound undecided
              (c.mend-mended.new.solver.expanded - c.begin.new.self.solver.expanded) s.0) worded text;
          bounded = bounded;
        })
      ],
    ))
    (λ text all. all_told g.row.E.Denot geo query problem p text c.in-Ok.is all))
