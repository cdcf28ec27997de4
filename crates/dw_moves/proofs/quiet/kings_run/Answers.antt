use Rattle.std.proofs.Common.{◌∙◌}
use Rattle.dw_moves.proofs.KingSlideLemmas.{run_counted}
use Rattle.dw_moves.proofs.quiet.kings_run.Goals as goal

pub returns-clause-value : goal.returns-clause-value
returns-clause-value g c =
    let f = c.args.field.now in
    run_counted g.B.Board.geometry g.met.B.Board.numbers c.args.position.now c.args.direction f.kings f.occupied
    c.requires.of_kings c.requires.of_all
    c.slid-reached.result c.minus.result c.from.result c.slid-reached.ensures c.minus.ensures (c.from.ensures
    ∙ c.count.ensures.value)
