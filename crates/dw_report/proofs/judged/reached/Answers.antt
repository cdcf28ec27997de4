use Rattle.std.proofs.Common.{◌+◌, sym, subst}
use Rattle.dw_report.proofs.JoiningLemmas.{Reaches, reaches_start, reaches_next, reaches_all}
use Rattle.dw_report.proofs.judged.reached.Goals as goal

pub moves-init : goal.moves-init
moves-init g c = reaches_start g.B.Board.geometry c.args.position.now c.args.moves.now c.requires

pub play-current-requires : goal.play-current-requires
play-current-requires g c = (reaches_next g.B.Board.geometry c.args.position.now c.args.moves.now c.moves.mv-index
    c.moves.current c.mv-item.result c.moves.invariant c.moves-test.true c.mv-item.is).0

pub moves-preserved : goal.moves-preserved
moves-preserved g c =
    subst (Reaches g.B.Board.geometry c.args.position.now c.args.moves.now (c.moves.mv-index + 1))
    (sym c.play-current.ensures)
    (reaches_next g.B.Board.geometry c.args.position.now c.args.moves.now c.moves.mv-index c.moves.current
    c.mv-item.result c.moves.invariant c.moves-test.true c.mv-item.is).1

pub returns : goal.returns
returns g c = reaches_all g.B.Board.geometry c.args.position.now c.args.moves.now c.moves.mv-index c.moves.current
    c.moves.invariant c.moves-test.false
