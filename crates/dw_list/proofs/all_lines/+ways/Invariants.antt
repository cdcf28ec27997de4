use Rattle.std.proofs.Common.{◌≡◌, ◌+◌, ◌*◌, ◌<◌, ◌⊎◌, true, cond, map, length, take}
use Rattle.dw_list.specs.inner.Ways.{AreWaysAmong}
use Rattle.dw_solve.specs.Questions.{Asked}
use Rattle.dw_solve.specs.inner.QuestionLemmas.{answered}
use Rattle.dw_list.proofs.all_lines.+ways.Given as goal

abbrev pub decreases-push_ways : goal.decreases-push_ways
decreases-push_ways g l = 4 * l.left + cond l.attacks 3 1

abbrev pub decreases-ways : goal.decreases-ways
decreases-ways g l = 4 * l.moves + cond l.attacks 0 2

abbrev pub invariant-ways-moves : goal.invariant-ways-moves
invariant-ways-moves g l = record {
  among : (l.attacks ≡ true) ⊎ (0 < length l.item-items) → AreWaysAmong g.B.Board.geometry l.attacks l.position l.moves
      (map (λ item. item.step) (take l.item-index l.item-items)) (map (λ list. list.items) l.lists.items);
  none : length l.item-items ≡ 0 → map (λ list. list.items) l.lists.items
      ≡ map (λ list. list.items) l.initial.lists.items;
  asked : Asked g.B.Board.geometry g.M.Memo.content g.M.Memo.dropped l.moves l.initial.solver l.solver answered;
}
