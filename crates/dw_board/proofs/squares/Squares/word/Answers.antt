use Rattle.dw_board.proofs.SetLemmas.{members-are}
use Rattle.dw_board.proofs.squares.Squares.word.Goals as goal

pub returns-clause-members : goal.returns-clause-members
returns-clause-members g c = members-are g.B.Board.geometry c.self.inside.word c.args.self c.self.view_is
