use Rattle.std.proofs.Common.{◌∙◌}
use Rattle.dw_board.proofs.SetLemmas.{same_order}
use Rattle.dw_board.proofs.square.SquareOrd.cmp.Goals as goal

pub returns : goal.returns
returns g c = c.cmp.ensures
    ∙ same_order g.B.Board.geometry g.met.B.Board.numbers c.self.inside.place c.other.inside.place c.args.self.now
    c.args.other.now c.self.invariant c.other.invariant c.self.view_is c.other.view_is
