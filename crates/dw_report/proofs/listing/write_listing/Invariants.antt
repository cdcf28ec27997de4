use Rattle.std.proofs.Common.{◌≡◌, ◌≤◌, ◌-◌}
use Rattle.dw_list.specs.Listing.{lender, solver_of, stack_of}
use Rattle.dw_report.specs.inner.Rows.{EndsWith}
use Rattle.dw_report.proofs.LineRowLemmas.{RowsSoFar}
use Rattle.dw_report.proofs.listing.write_listing.Given as goal

abbrev pub invariant-pages : goal.invariant-pages
invariant-pages g l = record {
  lender : lender l.lister ≡ lender l.initial.lister;
  rows : RowsSoFar g.B.Board.geometry l.position (stack_of l.initial.lister) (stack_of l.lister) l.written
      (g.K.Sink.accepted l.initial.sink) (g.K.Sink.accepted l.sink);
  start : l.page.text.start ≡ l.position;
  ends : 1 ≤ l.written → EndsWith rows.rows.given l.page.last.items;
  few : l.written ≤ l.most;
  sink : g.K.Sink.is_failed l.sink ≡ g.K.Sink.is_failed l.initial.sink;
  rises : (solver_of l.initial.lister).expanded ≤ (solver_of l.lister).expanded;
  limit : (solver_of l.lister).limit ≡ (solver_of l.initial.lister).limit;
}

abbrev pub decreases-pages : goal.decreases-pages
decreases-pages g l = l.most - l.written
