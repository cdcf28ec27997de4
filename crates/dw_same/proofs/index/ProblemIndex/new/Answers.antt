use Rattle.dw_same.specs.inner.Keys.{AreAdded}
use Rattle.dw_same.proofs.IndexLemmas.{none_yet}
use Rattle.dw_same.proofs.index.ProblemIndex.new.Goals as goal

pub returns : goal.returns
unfolding AreAdded
returns g c = none_yet g.B.Board.geometry c.new.result.entries c.new.ensures.empty
