use Rattle.std.proofs.Common.{◌≡◌, ◌≤◌, take}
use Rattle.std.specs.Prelude.{count_by}
use Rattle.dw_notation.specs.Text.{has_ends}
use Rattle.dw_notation.proofs.move_text.is_shared.Given as goal

abbrev pub invariant-list : goal.invariant-list
invariant-list g l = record {
  counted : l.count ≡ count_by (has_ends l.mv) (take l.other-index l.list);
  few : l.count ≤ l.other-index;
}
