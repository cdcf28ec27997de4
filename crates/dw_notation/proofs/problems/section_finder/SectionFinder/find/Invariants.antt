use Rattle.std.proofs.Common.{length, take, ◌-◌, ◌≤◌}
use Rattle.dw_notation.specs.Between.{IsBetween}
use Rattle.dw_notation.proofs.problems.section_finder.SectionFinder.find.Given as goal

abbrev pub invariant-bytes : goal.invariant-bytes
invariant-bytes l = record {
  within : l.at ≤ length l.bytes;
  passed : IsBetween l.initial.self.is_comment l.self.is_comment (take l.at l.bytes);
}

abbrev pub decreases-bytes : goal.decreases-bytes
decreases-bytes l = length l.bytes - l.at
