use Rattle.std.proofs.Common.{◌≡◌, false}
use Rattle.dw_desk_commands.specs.inner.Choosing.{AreToCome, GoesOn, HaveGames, Runs, lender}
use Rattle.dw_desk_commands.proofs.ReportLemmas.{SoFar}
use Rattle.dw_desk_commands.proofs.reporting.report_all.Given as goal

abbrev pub invariant-games : goal.invariant-games
invariant-games g l =
    let geo = g.B.Board.geometry in
    let source = g.S.Source in
    record {
      so_far : SoFar (g.R.Report.says l.command)
          (AreToCome geo source.supply l.initial.chosen)
          (AreToCome geo source.supply l.chosen) l.counts l.initial.desk.solver.expanded l.desk.solver.expanded
          (g.K.Sink.accepted l.initial.sink) (g.K.Sink.accepted l.sink);
      on : GoesOn source.supply l.initial.chosen.text l.chosen.text;
      works : g.K.Sink.is_failed l.sink ≡ false;
      lender : lender l.chosen.text ≡ lender l.initial.chosen.text;
      runs : Runs l.chosen.text;
      some : HaveGames geo source.supply l.chosen;
    }

abbrev pub decreases-games : goal.decreases-games
decreases-games g l = l.chosen.left
