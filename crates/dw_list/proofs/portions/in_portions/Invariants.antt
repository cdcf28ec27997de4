use Rattle.std.proofs.Common.{◌≡◌, ◌+◌, ◌<◌, ◌≤◌, [], length, map, take}
use Rattle.dw_list.specs.Listing.{lender, solver_of, stack_of, LimitIsLast}
use Rattle.dw_list.specs.LineStack.{AreToCome}
use Rattle.dw_list.specs.StackWalk.{Gives}
use Rattle.dw_list.proofs.portions.in_portions.Given as goal

abbrev pub invariant-limits : goal.invariant-limits
invariant-limits g l = record {
  lender : lender l.lister ≡ lender l.initial.lister;
  lines : Gives g.B.Board.geometry (stack_of l.initial.lister) (stack_of l.lister)
      (map (λ line. line.items) l.portions.lines.items);
  turns : length l.portions.lines.items + l.portions.stops + l.portions.ends ≡ l.limit-index;
  end : 0 < l.portions.ends → AreToCome g.B.Board.geometry (stack_of l.lister) [];
  count : (solver_of l.initial.lister).expanded ≤ (solver_of l.lister).expanded;
  limit : LimitIsLast (take l.limit-index l.limits) (solver_of l.initial.lister) (solver_of l.lister);
}
