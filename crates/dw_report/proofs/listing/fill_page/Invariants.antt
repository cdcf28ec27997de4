use Rattle.std.proofs.Common.{◌≡◌, ◌≤◌, ◌<◌, ◌-◌}
use Rattle.dw_list.specs.Listing.{lender, solver_of, stack_of}
use Rattle.dw_report.specs.inner.Rows.{EndsWith, RowsOf}
use Rattle.dw_report.proofs.listing.fill_page.Given as goal

abbrev pub invariant-rows : goal.invariant-rows
invariant-rows g l = record {
  lender : lender l.lister ≡ lender l.initial.lister;
  start : l.page.text.start ≡ l.initial.page.text.start;
  rows : RowsOf g.B.Board.geometry l.initial.page.text.start (stack_of l.initial.lister) (stack_of l.lister) l.taken
      l.page.rows.bytes;
  ends : 1 ≤ l.taken → EndsWith rows.given l.page.last.items;
  few : l.taken ≤ l.room;
  rises : (solver_of l.initial.lister).expanded ≤ (solver_of l.lister).expanded;
  limit : (solver_of l.lister).limit ≡ (solver_of l.initial.lister).limit;
  bound : (solver_of l.lister).expanded ≤ (solver_of l.lister).limit;
  within : (solver_of l.lister).expanded ≤ l.until;
  some : l.until < (solver_of l.lister).limit → 1 ≤ l.until;
  first : l.taken ≡ 0 → l.until ≡ (solver_of l.lister).limit;
}

abbrev pub decreases-rows : goal.decreases-rows
decreases-rows g l = l.room - l.taken
