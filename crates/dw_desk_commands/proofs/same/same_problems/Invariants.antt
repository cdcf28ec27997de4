use Rattle.std.proofs.Common.{◌≡◌, false}
use Rattle.dw_desk_commands.specs.inner.Choosing.{AreToCome, GoesOn, HaveGames, Runs, lender}
use Rattle.dw_desk_commands.proofs.SameLemmas.{SoFar}
use Rattle.dw_desk_commands.proofs.same.same_problems.Given as goal

abbrev pub invariant-games : goal.invariant-games
invariant-games g l =
    let geo = g.B.Board.geometry in
    let source = g.S.Source in
    record {
      so_far : SoFar geo l.query.json (AreToCome geo source.supply l.fn.chosen)
          (AreToCome geo source.supply l.chosen) l.tally l.index (g.K.Sink.accepted l.fn.sink)
          (g.K.Sink.accepted l.sink);
      on : GoesOn source.supply l.fn.chosen.text l.chosen.text;
      works : g.K.Sink.is_failed l.sink ≡ false;
      portion : l.chosen.portion ≡ l.fn.chosen.portion;
      lender : lender l.chosen.text ≡ lender l.fn.chosen.text;
      runs : Runs l.chosen.text;
      some : HaveGames geo source.supply l.chosen;
    }

abbrev pub decreases-games : goal.decreases-games
decreases-games g l = l.chosen.left
