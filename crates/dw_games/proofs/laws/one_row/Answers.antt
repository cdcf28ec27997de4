use Rattle.dw_games.proofs.TokenRowLemmas as rows
use Rattle.dw_games.proofs.laws.one_row.Goals as goal

pub returns : goal.returns
returns c = rows.one_row
