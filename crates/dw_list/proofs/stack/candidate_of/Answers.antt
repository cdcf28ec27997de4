use Rattle.std.proofs.Common.{ap, ◌∙◌}
use Rattle.dw_moves.specs.Moves.{play}
use Rattle.dw_list.proofs.stack.candidate_of.Goals as goal

pub returns-clause-after : goal.returns-clause-after
returns-clause-after g c = c.play.ensures ∙ ap (λ z. play g.B.Board.geometry z c.args.mv) c.position.ensures
