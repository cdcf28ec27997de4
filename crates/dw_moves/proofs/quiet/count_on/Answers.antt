use Rattle.dw_moves.proofs.TallyLemmas.{all_counted}
use Rattle.dw_moves.proofs.quiet.count_on.Goals as goal

pub returns-clause-value : goal.returns-clause-value
returns-clause-value g c = all_counted g.met.B.Board.numbers c.men_count.ensures.value c.men_count-2.ensures.value
    c.men_count-3.ensures.value c.men_count-4.ensures.value c.kings_count.ensures.value
