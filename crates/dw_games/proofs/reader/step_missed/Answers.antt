use Rattle.std.proofs.Common.{Err, subst, sym, ◌∙◌}
use Rattle.std.proofs.lemmas.Bool.{leb-true, leb-false, true≢false}
use Rattle.dw_notation.specs.MoveReading.{IsRead}
use Rattle.dw_games.specs.Play.{plain}
use Rattle.dw_games.specs.inner.Ahead.{token_value}
use Rattle.dw_games.proofs.TakenLemmas.{missed_forced, missed_refused}
use Rattle.dw_games.proofs.reader.step_missed.Goals as goal

pub returns-then-may_be_left_out : goal.returns-then-may_be_left_out
returns-then-may_be_left_out g c = λ p path at.
    let left = c.may_be_left_out.ensures.0 c.if-may_be_left_out.true in
    missed_forced g.B.Board.geometry p path (token_value c.args.token) c.args.place.now at c.requires.written
    c.requires.no_result
    (subst (λ w. IsRead g.B.Board.geometry c.args.place.now.position (plain c.args.token.text.now) (Err w)) left.0
    c.requires.none) (leb-false 39 _ left.1) left.2 c.forced_step.result c.forced_step.ensures

pub returns-else-may_be_left_out : goal.returns-else-may_be_left_out
returns-else-may_be_left_out g c = λ p path at.
    rw c.refusal.ensures (missed_refused g.B.Board.geometry p path (token_value c.args.token) c.args.place.now at
    c.requires.written c.requires.no_result c.args.why _ c.requires.none c.requires.room (λ e. leb-true 39 _ e)
    (λ e. leb-false 39 _ e)
    (λ left. true≢false (sym (sym c.if-may_be_left_out.false ∙ c.may_be_left_out.ensures.1 left))))
