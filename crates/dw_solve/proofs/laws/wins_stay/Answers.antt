use Rattle.dw_moves.specs.Moves.{play}
use Rattle.dw_solve.proofs.WinLemmas.{Win-le}
use Rattle.dw_solve.proofs.laws.wins_stay.Goals as goal

pub returns : goal.returns
returns c = record {
  win = Win-le;
  lost = λ g q m n h lost r legal. Win-le g (play g q r) m n h (lost r legal);
}
