use Rattle.std.proofs.Common.{◌∙◌}
use Rattle.dw_moves.proofs.TallyLemmas.{men_counted}
use Rattle.dw_moves.proofs.quiet.men_count.Goals as goal

pub returns-clause-value : goal.returns-clause-value
returns-clause-value g c = men_counted g.B.Board.geometry g.met.B.Board.numbers c.args.position.now c.args.direction
    c.men_reach.result c.from.result c.men_reach.ensures (c.from.ensures ∙ c.count.ensures.value)
