use Rattle.std.proofs.Common.{ap, ◌∙◌}
use Rattle.dw_board.specs.Placement.{other}
use Rattle.dw_moves.proofs.ShelterSetLemmas.{safe_steps_are}
use Rattle.dw_moves.proofs.replies.safe_steps.Goals as goal

pub returns : goal.returns
returns g c =
    let f = c.with_turn-field.result in
    safe_steps_are g.B.Board.geometry g.met.B.Board.numbers c.args.position.now c.other-side.result f.men f.kings
    f.enemies f.occupied c.with_turn-field.ensures (c.other-side.ensures ∙ ap other c.turn.ensures.value)
    c.all_of.result c.exposed-exposed.result c.minus.result c.minus-2.result c.all_of.ensures c.exposed-exposed.ensures
    c.minus.ensures c.minus-2.ensures
    c.all_next_free.result c.all_next_free.ensures
