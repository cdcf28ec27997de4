use Rattle.std.proofs.Common.{◌≡◌, List, Some, map, take}
use Rattle.dw_json.specs.Rows.{AreObjects}
use Rattle.dw_rows.specs.CheckRow.{IsRemarkObject}
use Rattle.dw_rows.specs.inner.Remarking.{members_told}
use Rattle.dw_study.specs.Remarks.{Remark}
use Rattle.dw_study.specs.Telling.{remark_in}
use Rattle.dw_rows.proofs.checked.remark_rows.Given as goal

abbrev pub invariant-remarks : goal.invariant-remarks
invariant-remarks g l = (said : List Remark) → map (remark_in l.tree.paths) l.remarks ≡ map (λ r. Some r) said
    → AreObjects (IsRemarkObject g.B.Board.geometry l.tree.start) (take l.remark-index said)
    (map members_told l.told.items)
