use Rattle.std.proofs.Common.{inr, refl}
use Rattle.dw_moves.proofs.SureStepLemmas.{none_anywhere}
use Rattle.dw_moves.proofs.replies.sure_step.Goals as goal

pub returns-clause-none : goal.returns-clause-none
returns-clause-none g c none =
    let f = c.of-field.result in
    inr (none_anywhere g.B.Board.geometry g.met.B.Board.numbers c.args.position.now f.men f.kings f.enemies f.occupied
    c.of-field.ensures.sets
    (c.in_default.ensures.none refl) (c.in_default-sure_towards.ensures.none refl)
    (c.in_default-sure_towards-2.ensures.none refl) (c.sure_towards-4.ensures.none none))
