use Rattle.std.proofs.Common.{refl}
use Rattle.dw_moves.specs.Replies.{with_turn}
use Rattle.dw_moves.proofs.GlanceSetLemmas.{sets_are, all_are}
use Rattle.dw_moves.proofs.field.Field.with_turn.Goals as goal

pub returns : goal.returns
returns g c =
    sets_are g.B.Board.geometry (with_turn c.args.position.now c.args.side) c.args.side c.other.result
    c.squares-men.result c.squares-kings.result c.or.result c.all_of-enemies.result c.or-2.result
    refl c.other.ensures c.squares-men.ensures c.squares-kings.ensures (all_are g.B.Board.geometry c.args.position.now
    c.other.result c.all_of-enemies.result c.all_of-enemies.ensures) c.or.ensures c.or-2.ensures
