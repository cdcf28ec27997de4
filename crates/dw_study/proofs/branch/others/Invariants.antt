use Rattle.std.proofs.Common.{map}
use Rattle.dw_board.specs.Lists.{Member}
use Rattle.dw_moves.specs.Order.{Precedes}
use Rattle.dw_verdict.specs.inner.GatheredLemmas.{GatheredTo}
use Rattle.dw_study.proofs.branch.others.Given as goal

abbrev pub invariant-moves : goal.invariant-moves
invariant-moves g l = GatheredTo (λ item. item.step) (Precedes g.B.Board.geometry l.position) (λ m. m)
    (λ m. Member m (map (λ c. c.mv) l.children) → ⊥) l.item-items l.item-index l.others.items
