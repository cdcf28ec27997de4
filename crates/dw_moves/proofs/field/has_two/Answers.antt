use Rattle.std.proofs.Common.{refl}
use Rattle.dw_moves.proofs.StepSetLemmas.{two_of, two_of_none}
use Rattle.dw_moves.proofs.field.has_two.Goals as goal

pub returns-in-Some : goal.returns-in-Some
returns-in-Some g c = two_of c.args.squares _ _ c.any.result c.in-Some.ensures.member c.in-Some.ensures.rest
    c.any.ensures

pub returns-in-None : goal.returns-in-None
returns-in-None g c = two_of_none c.args.squares (c.in-None.ensures.none.0 refl)
