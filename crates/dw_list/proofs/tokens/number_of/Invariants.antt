use Rattle.std.proofs.Common.{◌≡◌}
use Rattle.dw_list.specs.Tokens.{number_below}
use Rattle.dw_list.proofs.tokens.number_of.Given as goal

abbrev pub invariant-bits : goal.invariant-bits
invariant-bits g l = l.number ≡ number_below l.taken l.index
