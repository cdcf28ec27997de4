use Rattle.dw_moves.proofs.KingSlideLemmas.{kings_counted, no_kings_counted}
use Rattle.dw_moves.proofs.quiet.kings_count.Goals as goal

pub returns-clause-value : goal.returns-clause-value
returns-clause-value g c = kings_counted g.met.B.Board.numbers c.kings_run.ensures.value c.kings_run-2.ensures.value
    c.kings_run-3.ensures.value c.kings_run-4.ensures.value

pub returns-then-is_empty-clause-value : goal.returns-then-is_empty-clause-value
returns-then-is_empty-clause-value g c = no_kings_counted g.B.Board.geometry c.args.position.now c.args.field.now.kings
    c.requires.of_kings (c.is_empty.ensures.0 c.if-is_empty.true)
