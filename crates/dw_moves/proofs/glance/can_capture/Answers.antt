use Rattle.dw_moves.proofs.FirstJumpLemmas.{takes_capture, capture_takes}
use Rattle.dw_moves.proofs.glance.can_capture.Goals as goal

pub returns : goal.returns
returns g c =
    let f = c.of.result in (
      (λ e. let h = c.takes.ensures.0 e in
          takes_capture g.met.B.Board.numbers c.of.ensures.sets h.0 h.1),
      (λ h. c.takes.ensures.1 (capture_takes g.met.B.Board.numbers c.of.ensures.sets h)),
    )
