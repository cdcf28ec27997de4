use Rattle.std.proofs.Common.{◌≡◌, take}
use Rattle.dw_parts.specs.Parts.{part_of}
use Rattle.dw_parts.proofs.part_of.Given as goal

abbrev pub invariant-all : goal.invariant-all
invariant-all g l = l.some.items ≡ part_of l.part.number l.part.parts (take l.place l.all)
