use Rattle.std.proofs.Common.{◌≡◌, ◌≤◌, ◌-◌, [], length, ℕ}
use Rattle.dw_board.specs.Placement.{Placement}
use Rattle.dw_solve.specs.Searching.{IsCounted}
use Rattle.dw_list.specs.Listing.{lender, solver_of, stack_of}
use Rattle.dw_solution.specs.inner.Taking.{AreTaken}
use Rattle.dw_solution.proofs.first.taken.Given as goal

abbrev pub invariant-lines : goal.invariant-lines
invariant-lines g l = record {
  lender : lender l.lister ≡ lender l.initial.lister;
  few : length l.tree ≤ l.most;
  first : (p : Placement) (n : ℕ) → AreTaken g.B.Board.geometry p n (stack_of l.initial.lister) []
      → AreTaken g.B.Board.geometry p n (stack_of l.lister) l.tree;
  count : IsCounted (solver_of l.initial.lister).expanded (solver_of l.initial.lister).limit
      (solver_of l.lister).expanded (solver_of l.lister).limit;
}

abbrev pub decreases-lines : goal.decreases-lines
decreases-lines g l = l.most - length l.tree
