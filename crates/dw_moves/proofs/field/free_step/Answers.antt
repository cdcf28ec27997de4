use Rattle.std.proofs.Common.{sym, ◌∙◌}
use Rattle.dw_moves.proofs.GlanceSetLemmas.{free_step_none, free_step_some}
use Rattle.dw_moves.proofs.field.free_step.Goals as goal

pub returns-then-has-clause-free : goal.returns-then-has-clause-free
returns-then-has-clause-free g c = λ p are.
    sym (free_step_none g.B.Board.geometry g.met.B.Board.numbers p c.args.from c.args.direction
    c.in_ok-next.next c.args.occupied c.has.result c.requires (sym c.step.ensures ∙ c.in_ok-next.was)
    are c.has.ensures c.if-has.true)

pub returns-else-has-clause-free : goal.returns-else-has-clause-free
returns-else-has-clause-free g c = λ p are.
    sym (free_step_some g.B.Board.geometry g.met.B.Board.numbers p c.args.from c.args.direction
    c.in_ok-next.next c.args.occupied c.has.result c.requires (sym c.step.ensures ∙ c.in_ok-next.was)
    are c.has.ensures c.if-has.false)
