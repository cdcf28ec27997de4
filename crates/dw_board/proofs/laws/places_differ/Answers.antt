use Rattle.dw_board.proofs.StepLemmas.{places_differ}
use Rattle.dw_board.proofs.laws.places_differ.Goals as goal

pub returns : goal.returns
returns c = places_differ
