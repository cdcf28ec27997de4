use Rattle.std.proofs.Common.{sym, ◌∙◌}
use Rattle.dw_moves.proofs.GlanceRunLemmas.{AreMovers, movers_ahead, movers_back, next_free_is}
use Rattle.dw_moves.proofs.field.Field.next_free.Goals as goal
use Rattle.dw_moves.proofs.field.Field.next_free.Goals.{then-may_go, else-may_go}

pub returns : goal.returns
returns g c =
    let movers : AreMovers c.args.side c.args.self.now.men c.args.self.now.kings c.args.direction c.if-may_go.movers =
    elim c.if-may_go.branch [
      | then-may_go w ↦ movers_ahead c.args.side c.args.self.now.men c.args.self.now.kings c.args.direction
          c.if-may_go.movers (sym c.may_go.ensures ∙ w.if-may_go.true) (w.movers-is ∙ w.or-movers.ensures)
      | else-may_go w ↦ movers_back c.args.side c.args.self.now.men c.args.self.now.kings c.args.direction
          c.if-may_go.movers (sym c.may_go.ensures ∙ w.if-may_go.false) w.movers-is
    ] in
    next_free_is g.B.Board.geometry c.args.side c.args.self.now.men c.args.self.now.kings c.args.self.now.occupied
    c.args.direction c.if-may_go.movers c.shifted.result c.minus.result
    movers c.shifted.ensures c.minus.ensures
