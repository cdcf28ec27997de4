use Rattle.std.proofs.Common.{◌≡◌, ℕ, List, Some, map, take}
use Rattle.dw_notation.specs.Streams.{Appends}
use Rattle.dw_board.specs.Lists.{Member}
use Rattle.dw_study.specs.RemarkText.{HasTexts, IsRemarkText}
use Rattle.dw_study.specs.Remarks.{Remark}
use Rattle.dw_study.specs.Telling.{remark_in}
use Rattle.dw_desk_commands.specs.ProblemText.{AreTexts}
use Rattle.dw_desk_commands.proofs.check.push_remarks.Given as goal

abbrev pub invariant-remarks : goal.invariant-remarks
invariant-remarks g l = record {
  texts : (said : List Remark) → map (remark_in l.tree.paths) l.remarks ≡ map (λ r. Some r) said
      → ((r : Remark) → Member r said → HasTexts g.B.Board.geometry l.tree.start r)
      → (told : List ℕ)
      × AreTexts (IsRemarkText g.B.Board.geometry l.tree.start) (take l.remark-index said) told
      × Appends l.initial.text.items l.text.items told;
}
