use Rattle.std.proofs.Common.{sym, ◌∙◌, refl}
use Rattle.dw_board.specs.declared.piece.Kind.TheVariants.{Man}
use Rattle.dw_moves.proofs.JumpStepLemmas.{man_edge, man_other, met_enemy}
use Rattle.dw_moves.proofs.mover.StepperMover.met.Goals as goal

pub returns-in_err-met-clause-none : goal.returns-in_err-met-clause-none
returns-in_err-met-clause-none g c = λ _ p side ground.
    man_edge g.B.Board.geometry p side c.args.direction c.args.from.now (sym c.step.ensures ∙ c.in_err-met.was)

pub returns-then-has-clause-some : goal.returns-then-has-clause-some
returns-then-has-clause-some g c = λ p side ground.
    met_enemy g.B.Board.geometry g.met.B.Board.numbers p Man side c.args.direction c.args.from.now c.args.from.now
    c.in_ok-met.met c.args.field.now.enemies c.requires refl (sym c.step.ensures ∙ c.in_ok-met.was)
    ground.of_enemies (sym c.has.ensures ∙ c.if-has.true)

pub returns-else-has-clause-none : goal.returns-else-has-clause-none
returns-else-has-clause-none g c = λ _ p side ground.
    man_other g.B.Board.geometry g.met.B.Board.numbers p side c.args.direction c.args.from.now c.in_ok-met.met
    c.args.field.now.enemies c.requires (sym c.step.ensures ∙ c.in_ok-met.was) ground.of_enemies
    (sym c.has.ensures ∙ c.if-has.false)
