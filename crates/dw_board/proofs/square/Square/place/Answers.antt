use Rattle.std.proofs.Common.{◌∙◌, ap, sym, subst}
use Rattle.dw_board.specs.Geometry.{OnBoard, bit}
use Rattle.dw_board.proofs.square.Square.place.Goals as goal

pub returns-clause-value : goal.returns-clause-value
returns-clause-value g c = sym c.self.invariant.back ∙ ap (bit g.B.Board.geometry) c.self.view_is

pub returns-clause-on_board : goal.returns-clause-on_board
returns-clause-on_board g c = subst (OnBoard g.B.Board.geometry) c.self.view_is c.self.invariant.on
