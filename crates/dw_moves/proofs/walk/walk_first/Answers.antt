use Rattle.std.proofs.Common.{refl}
use Rattle.dw_moves.proofs.BeginningLemmas.{past_none, past_more, past_all}
use Rattle.dw_moves.proofs.SquareSetLemmas.{fewer_left}
use Rattle.dw_moves.proofs.walk.walk_first.Goals as goal

pub squares-init : goal.squares-init
squares-init g c = λ p sets. past_none c.may_take-left.result (λ s. c.may_take-left.ensures p s sets)

pub squares-smaller : goal.squares-smaller
squares-smaller g c = fewer_left _ _ c.in-Some.ensures.rest c.in-Some.ensures.member

pub squares-preserved : goal.squares-preserved
squares-preserved g c = λ p sets.
    past_more c.squares.left c.in-Some.ensures.rest (c.squares.invariant p sets) (c.in_ok-walk_from.ensures p sets)

pub returns : goal.returns
returns g c = λ p sets. past_all (c.in_default.ensures.none.0 refl) (c.squares.invariant p sets)
