use Rattle.std.proofs.Common.{[], ◌∷◌, ◌++◌, ap, ◌∙◌, sym, refl}
use Rattle.dw_moves.proofs.SquareSetLemmas.{fewer_left}
use Rattle.dw_moves.proofs.AddingLemmas.{stepping_none, stepping_back, stepping_more, stepping_all}
use Rattle.dw_moves.proofs.quiet.push_steps.Goals as goal

pub squares-init : goal.squares-init
squares-init g c = stepping_none g.met.B.Board.numbers c.men_reach-left.ensures

pub squares-smaller : goal.squares-smaller
squares-smaller g c = fewer_left _ _ c.in-Some.ensures.rest c.in-Some.ensures.member

pub squares-smaller-in_ok-push : goal.squares-smaller-in_ok-push
squares-smaller-in_ok-push g c = fewer_left _ _ c.in-Some.ensures.rest c.in-Some.ensures.member

pub squares-preserved : goal.squares-preserved
squares-preserved g c = absurd (stepping_back g.met.B.Board.numbers _ c.opposite.ensures c.in-Some.ensures.member
    c.squares.invariant (sym c.step.ensures ∙ c.in_default-step.is))

pub squares-preserved-in_ok-push : goal.squares-preserved-in_ok-push
squares-preserved-in_ok-push g c =
    stepping_more g.met.B.Board.numbers _ _ c.opposite.ensures c.in-Some.ensures.member c.in-Some.ensures.rest
    (sym c.step.ensures ∙ c.in-Some-step.is) c.squares.invariant
    (c.in_ok-push.ensures.items ∙ ap (λ z. c.squares.moves.items ++ z ∷ []) c.from_quiet.ensures)

pub returns : goal.returns
returns g c = stepping_all g.met.B.Board.numbers (c.in_default.ensures.none.0 refl) c.squares.invariant
