use Rattle.std.proofs.Common.{◌≡◌, ◌++◌, flat_map}
use Rattle.std.specs.List.{range_with_len}
use Rattle.dw_page.specs.Pictures.{label}
use Rattle.dw_page.proofs.pictures.push_labels.Given as goal

abbrev pub invariant-squares : goal.invariant-squares
invariant-squares g l =
    l.page.items ≡ l.initial.page.items ++ flat_map (label g.B.Board.geometry) (range_with_len 1 l.number)
