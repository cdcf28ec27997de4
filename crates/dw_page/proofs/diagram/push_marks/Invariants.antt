use Rattle.std.proofs.Common.{◌≡◌, ◌++◌, flat_map}
use Rattle.std.specs.List.{range_with_len}
use Rattle.dw_page.specs.Drawing.{square_mark}
use Rattle.dw_page.proofs.diagram.push_marks.Given as goal

abbrev pub invariant-squares : goal.invariant-squares
invariant-squares g l = l.page.items
    ≡ l.initial.page.items ++ flat_map (square_mark g.B.Board.geometry l.position) (range_with_len 1 l.number)
