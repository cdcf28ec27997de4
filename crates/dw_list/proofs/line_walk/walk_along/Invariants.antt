use Rattle.std.proofs.Common.{◌≡◌, ◌+◌}
use Rattle.dw_solve.specs.Questions.{Asked}
use Rattle.dw_solve.specs.inner.QuestionLemmas.{answered}
use Rattle.dw_list.proofs.FollowLemmas.{Follows}
use Rattle.dw_list.proofs.line_walk.walk_along.Given as goal

abbrev pub invariant-line : goal.invariant-line
invariant-line g l = record {
  follows : Follows g.B.Board.geometry l.position l.moves l.line l.mv-index l.stack;
  place : l.place ≡ l.mv-index + 1;
  asked : Asked g.B.Board.geometry g.M.Memo.content g.M.Memo.dropped l.moves l.initial.solver l.solver answered;
}
