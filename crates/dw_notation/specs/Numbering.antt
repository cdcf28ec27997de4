-- The numbers of problems, as callers see them.
use Rattle.std.specs.Prelude.{ℕ}
use Rattle.dw_notation.specs.declared.problems.numbering.Numbering.{Numbering}

-- the number of problems that were numbered
abbrev pub handed_out : Numbering → ℕ
handed_out numbers = numbers.handed
