use Rattle.std.proofs.Common.{sym, subst}
use Rattle.dw_moves.specs.Order.{AreListed}
use Rattle.dw_list.proofs.WayLemmas.{none_ahead}
use Rattle.dw_list.proofs.frame.fill.Goals as goal

pub returns-then-is_over : goal.returns-then-is_over
returns-then-is_over g c = subst (AreListed g.B.Board.geometry c.args.position.now) (sym c.clear.ensures.items)
    (none_ahead g.B.Board.geometry c.args.position.now (c.requires c.if-is_over.true))
