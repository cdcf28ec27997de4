use Rattle.dw_games.specs.Walk.{place_of}
use Rattle.dw_study.proofs.BeginningLemmas.{gathered_more, gathered_all, reversed}
use Rattle.dw_study.proofs.beginning.moves_to.Goals as goal

pub moves-preserved : goal.moves-preserved
moves-preserved g c =
    rw c.push.ensures.items (gathered_more g.B.Board.geometry c.args.tree.now (place_of c.args.node) c.in-Some.here.0
    c.moves.moves.items c.in_ok-mv.mv c.in_ok-mv.ensures (rw c.in-Some.is at c.moves.invariant)
    (place_of c.parent-at.result) c.parent-at.ensures)

pub returns : goal.returns
returns g c =
    gathered_all g.B.Board.geometry c.args.tree.now (place_of c.args.node) c.moves.moves.items _
    (rw c.in_default.is at c.moves.invariant)
    (reversed c.moves.moves.items c.reverse.new.self c.as_mut_slice.result.now c.as_mut_slice.ensures.value
    c.reverse.ensures.after)
