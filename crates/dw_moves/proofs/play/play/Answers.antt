use Rattle.std.proofs.Common.{ap, ◌∙◌}
use Rattle.dw_board.specs.Placement.{other}
use Rattle.dw_moves.proofs.PlayedLemmas.{played}
use Rattle.dw_moves.proofs.play.play.Goals as goal

pub returns : goal.returns
returns g c =
    played g.B.Board.geometry c.args.position.now
    (record { from = c.mv.inside.from; to = c.mv.inside.to; taken = c.mv.inside.taken }) c.args.mv.now
    c.mv.view_is c.carried-after.result c.carried-after.ensures
    c.other.result (c.other.ensures ∙ ap other c.turn.ensures.value) c.set_turn.new.self c.set_turn.ensures
