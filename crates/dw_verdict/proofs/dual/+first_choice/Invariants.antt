use Rattle.std.proofs.Common.{◌+◌, ◌*◌}
use Rattle.dw_solve.specs.Questions.{Asked}
use Rattle.dw_solve.specs.inner.QuestionLemmas.{answered}
use Rattle.dw_verdict.specs.inner.Judging.{LeadsToChoices, RepliesToChoices}
use Rattle.dw_verdict.proofs.ChoiceLoopLemmas.{NoneTo}
use Rattle.dw_verdict.proofs.dual.+first_choice.Given as goal

abbrev pub decreases-first_choice : goal.decreases-first_choice
decreases-first_choice g l = 3 * l.moves

abbrev pub decreases-choice_after_reply : goal.decreases-choice_after_reply
decreases-choice_after_reply g l = 3 * l.left + 2

abbrev pub decreases-choice_from : goal.decreases-choice_from
decreases-choice_from g l = 3 * l.left + 1

abbrev pub invariant-first_choice-keys : goal.invariant-first_choice-keys
invariant-first_choice-keys g l = record {
  none : NoneTo (λ m. m) (LeadsToChoices g.B.Board.geometry l.moves l.position) l.keys l.key-index;
  asked : Asked g.B.Board.geometry g.M.Memo.content g.M.Memo.dropped l.moves l.initial.solver l.solver answered;
}

abbrev pub invariant-choice_after_reply-replies : goal.invariant-choice_after_reply-replies
invariant-choice_after_reply-replies g l = record {
  none : NoneTo (λ item. item.step) (RepliesToChoices g.B.Board.geometry l.left l.position) l.item-items l.item-index;
  asked : Asked g.B.Board.geometry g.M.Memo.content g.M.Memo.dropped l.left l.initial.solver l.solver answered;
}
