use Rattle.std.proofs.Common.{map, take}
use Rattle.dw_mend.specs.Changes.{AreMade}
use Rattle.dw_mend.specs.Telling.{told, told_by}
use Rattle.dw_mend.proofs.neighbours.made_by.Given as goal

abbrev pub invariant-changes : goal.invariant-changes
invariant-changes g l = AreMade g.B.Board.geometry l.position (map told (take l.change-index l.changes))
    (map told_by l.all.items)
