use Rattle.std.proofs.Common.{◌≡◌, ◌≤◌, ◌-◌, false}
use Rattle.dw_notation.specs.Reading.{EndIsTrue, lender, source_of}
use Rattle.dw_notation.specs.inner.Readers.{reader_of}
use Rattle.dw_report.specs.Request.{request_of}
use Rattle.dw_report.specs.inner.Running.{searches}
use Rattle.dw_report.proofs.RunLemmas.{SoFar}
use Rattle.dw_report.proofs.SpendingLemmas.{Counted}
use Rattle.dw_report.proofs.WorkLemmas.{WorkSoFar}
use Rattle.dw_report.specs.declared.settings.Command.TheVariants.{Judge}
use Rattle.dw_report.proofs.run.run_with.Given as goal

abbrev pub invariant-problems : goal.invariant-problems
invariant-problems g l =
    let source = g.S.Source in
    let sink = g.K.Sink in
    record {
      lender : lender l.problems ≡ lender l.initial.problems;
      so_far : SoFar g.B.Board.geometry (request_of l.settings) (source.supply (source_of l.initial.problems))
          (source.supply (source_of l.problems)) (sink.accepted l.initial.sink) (sink.accepted l.sink)
          (reader_of l.problems) l.summary;
      end : EndIsTrue (source.supply (source_of l.initial.problems)) (source.supply (source_of l.problems))
          (reader_of l.problems);
      source : source.is_failed (source_of l.problems) ≡ false;
      sink : sink.is_failed l.sink ≡ false;
      count : Counted l.initial.solver l.solver;
      works : l.settings.command ≡ Judge → WorkSoFar g.B.Board.geometry g.M.Memo.keeps g.M.Memo.content
          g.M.Memo.dropped l.settings.only l.settings.n l.initial.solver l.solver;
      still : searches l.settings.command ≡ false → l.solver.expanded ≡ l.initial.solver.expanded;
      read : l.summary.problems ≡ (reader_of l.problems).handed;
      shown : l.summary.shown ≤ l.summary.problems;
      refused : l.summary.refused ≤ l.summary.shown;
      bound : (reader_of l.problems).handed ≤ 1000001;
    }

abbrev pub decreases-problems : goal.decreases-problems
decreases-problems g l = 1000001 - (reader_of l.problems).handed
