use Rattle.std.proofs.Common.{◌≡◌, ◌≤◌, length, drop, true}
use Rattle.std.specs.List.{list_all}
use Rattle.dw_notation.specs.Tags.{is_space}
use Rattle.dw_games.proofs.section.spaces_at.Given as goal

abbrev pub invariant-spaces : goal.invariant-spaces
invariant-spaces l = record {
  within : l.start ≤ length l.text;
  spaces : list_all is_space (drop l.start l.text) ≡ true;
}

abbrev pub decreases-spaces : goal.decreases-spaces
decreases-spaces l = l.start
