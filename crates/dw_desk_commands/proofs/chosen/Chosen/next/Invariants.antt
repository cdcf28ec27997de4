use Rattle.std.proofs.Common.{◌≡◌, ◌≤◌, ℕ, List}
use Rattle.dw_desk_commands.specs.inner.Choosing.{AreToCome, GoesOn, IsPossible, Runs, lender}
use Rattle.dw_games.specs.Games.{NumberedGame}
use Rattle.dw_desk_commands.proofs.chosen.Chosen.next.Given as goal

abbrev pub invariant-games : goal.invariant-games
invariant-games g l =
    let geo = g.B.Board.geometry in
    let supply = g.S.Source.supply in
    record {
      handed : (whole : List ℕ) (found : List NumberedGame) → AreToCome geo supply l.self whole found
          → AreToCome geo supply l.initial.self whole found;
      on : GoesOn supply l.initial.self.text l.self.text;
      possible : (whole : List ℕ) → IsPossible supply l.self.text whole → IsPossible supply l.initial.self.text whole;
      portion : l.self.portion ≡ l.initial.self.portion;
      lender : lender l.self.text ≡ lender l.initial.self.text;
      runs : Runs l.self.text;
      fewer : l.self.left ≤ l.initial.self.left;
    }

abbrev pub decreases-games : goal.decreases-games
decreases-games g l = l.self.left
