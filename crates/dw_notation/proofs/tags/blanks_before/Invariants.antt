use Rattle.std.proofs.Common.{◌≡◌, ◌≤◌, ◌-◌, true, length, take}
use Rattle.std.specs.List.{list_all}
use Rattle.dw_board.specs.FenTokens.{is_blank}
use Rattle.dw_notation.proofs.tags.blanks_before.Given as goal

abbrev pub invariant-blanks : goal.invariant-blanks
invariant-blanks l = record {
  within : l.count ≤ length l.text;
  all : list_all is_blank (take l.count l.text) ≡ true;
}

abbrev pub decreases-blanks : goal.decreases-blanks
decreases-blanks l = length l.text - l.count
