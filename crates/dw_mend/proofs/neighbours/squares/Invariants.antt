use Rattle.std.proofs.Common.{◌≡◌}
use Rattle.std.specs.List.{range_with_len}
use Rattle.dw_mend.proofs.neighbours.squares.Given as goal

abbrev pub invariant-squares : goal.invariant-squares
invariant-squares g l = l.squares.items ≡ range_with_len 1 l.behind
