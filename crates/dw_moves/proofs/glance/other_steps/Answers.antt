use Rattle.std.proofs.Common.{ap, ◌∙◌}
use Rattle.dw_board.specs.Placement.{other}
use Rattle.dw_moves.proofs.StepSetLemmas.{all_steps}
use Rattle.dw_moves.proofs.glance.other_steps.Goals as goal

pub returns : goal.returns
returns g c =
    let f = c.with_turn.result in
    all_steps g.B.Board.geometry g.met.B.Board.numbers c.args.position.now c.other-side.result f.men f.kings f.enemies
    f.occupied c.with_turn.ensures (c.other-side.ensures ∙ ap other c.turn.ensures.value)
    c.all_next_free.result c.all_next_free.ensures
