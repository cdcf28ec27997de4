use Rattle.std.proofs.Common.{◌≡◌, List, Some, map, take}
use Rattle.dw_moves.specs.Moves.{Move}
use Rattle.dw_study.specs.Remarks.{Remark}
use Rattle.dw_study.specs.Telling.{remark_in}
use Rattle.dw_desk_commands.specs.Check.{counted}
use Rattle.dw_desk_commands.specs.inner.Tallies.{tallied, total}
use Rattle.dw_desk_commands.proofs.check.tally_of.Given as goal

abbrev pub invariant-remarks : goal.invariant-remarks
invariant-remarks g l = record {
  counts : (tree : List (List Move)) (said : List Remark) → map (remark_in tree) l.remarks ≡ map (λ r. Some r) said
      → tallied l.tally ≡ counted (take l.remark-index said);
  total : total l.tally ≡ l.remark-index;
}
