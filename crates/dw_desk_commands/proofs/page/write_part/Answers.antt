use Rattle.std.proofs.Common.{◌≡◌, ◌∙◌, ℕ, Bool, List, [], inr, subst, sym}
use Rattle.std.proofs.lemmas.Result.{err_from_is_err_and}
use Rattle.dw_games.specs.GameReading.{numbered_game}
use Rattle.dw_notation.specs.inner.StreamLemmas.{Appends-nil}
use Rattle.dw_desk_commands.specs.Page.{IsPart}
use Rattle.dw_desk_commands.specs.inner.Standing.{Stands}
use Rattle.dw_desk_commands.proofs.ProblemLemmas.{is_err}
use Rattle.dw_desk_commands.proofs.StandingLemmas.{then_stands}
use Rattle.dw_desk_commands.proofs.page.write_part.Goals as goal

pub returns-in_err-write_piece-clause-stands : goal.returns-in_err-write_piece-clause-stands
returns-in_err-write_piece-clause-stands g c =
    let start = g.K.Sink.accepted c.args.sink.now in
    let new = g.K.Sink.accepted c.write_piece.new.sink in
    let game = numbered_game c.args.game.now in
    let Nothing = λ (text : List ℕ). text ≡ [] in
    let One = λ (part : List ℕ) (is_refused : Bool) (new : List ℕ). IsPart g.B.Board.geometry c.args.query.now
    game.number game.said.found game.said.tags is_refused part new in
    let Whole = λ (part : List ℕ). (is_refused : Bool) × (new : List ℕ) × One part is_refused new in
    let made = c.in_ok-part.ensures.part in
    let why = err_from_is_err_and c.from_residual-in_err-write_piece.result
    c.from_residual-in_err-write_piece.ensures.1 in
    is_err (Stands Nothing Whole start new) c.from_residual-in_err-write_piece.result why.0
    c.in_err-write_piece.field-0.0 why.1 why.2
    (then_stands Nothing Whole Nothing (λ text. text ≡ c.as_slice.result.now) start start new []
    c.in_err-write_piece.field-0.0 (Appends-nil start) c.in_err-write_piece.ensures.stands (λ text none. none)
    (λ text is. inr (
      c.in_ok-part.is_refused,
      made.0,
      subst (λ z. One z c.in_ok-part.is_refused made.0) (sym (is ∙ c.as_slice.ensures.value)) made.1,
    )))
