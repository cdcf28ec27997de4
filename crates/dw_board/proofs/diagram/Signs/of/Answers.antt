use Rattle.dw_board.proofs.SignLemmas.{signs-are}
use Rattle.dw_board.proofs.diagram.Signs.of.Goals as goal

pub returns : goal.returns
returns g c =
    signs-are g.B.Board.geometry c.args.position.now c.occupied.result c.all_of.result
    c.squares-white_kings.result c.squares-black_kings.result c.or.result
    c.occupied.ensures c.all_of.ensures c.squares-white_kings.ensures c.squares-black_kings.ensures c.or.ensures
