use Rattle.std.proofs.Common.{length}
use Rattle.dw_games.specs.Walk.{place_of}
use Rattle.dw_study.proofs.ChildLemmas.{HaveMet, ahead}
use Rattle.dw_study.proofs.branch.children.Given as goal

abbrev pub invariant-children : goal.invariant-children
invariant-children g l = HaveMet g.B.Board.geometry l.tree l.spot l.next l.children.items

abbrev pub decreases-children : goal.decreases-children
decreases-children g l = ahead (length l.tree.paths) (place_of l.next)
