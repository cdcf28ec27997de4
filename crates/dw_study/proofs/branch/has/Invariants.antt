use Rattle.std.proofs.Common.{map, take}
use Rattle.dw_board.specs.Lists.{Member}
use Rattle.dw_study.proofs.branch.has.Given as goal

abbrev pub invariant-children : goal.invariant-children
invariant-children g l = Member l.mv (map (λ c. c.mv) (take l.child-index l.children)) → ⊥
