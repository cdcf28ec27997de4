use Rattle.std.proofs.Common.{◌≤◌, length, ◌-◌, ◌<◌}
use Rattle.dw_solution.specs.inner.Drafts.{IsDraftOf, IsPassed}
use Rattle.dw_solution.proofs.movetext.Draft.cut_text.Given as goal

abbrev pub invariant-cuts : goal.invariant-cuts
invariant-cuts g l = record {
  is : IsDraftOf g.B.Board.geometry l.self l.many l.text.items;
  short : length l.text.items ≤ 1000000;
  low : l.many < l.too_many;
  within : l.too_many ≤ length l.self.first.now.lines;
  passed : IsPassed g.B.Board.geometry l.self l.too_many;
}

abbrev pub decreases-cuts : goal.decreases-cuts
decreases-cuts g l = l.too_many - l.many
