use Rattle.std.proofs.Common.{◌≡◌, ◌++◌, flat_map}
use Rattle.std.specs.List.{range_with_len}
use Rattle.dw_page.specs.Pictures.{outline}
use Rattle.dw_page.proofs.pictures.push_outlines.Given as goal

abbrev pub invariant-squares : goal.invariant-squares
invariant-squares g l =
    l.page.items ≡ l.initial.page.items ++ flat_map (outline g.B.Board.geometry) (range_with_len 1 l.number)
