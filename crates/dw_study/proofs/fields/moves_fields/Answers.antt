use Rattle.std.proofs.Common.{◌≡◌, true, false, sym, subst, ◌∙◌}
use Rattle.dw_moves.specs.Moves.{Legal}
use Rattle.dw_study.proofs.fields.moves_fields.Goals as goal

pub returns-then-not-are_legal-clause-some : goal.returns-then-not-are_legal-clause-some
returns-then-not-are_legal-clause-some g c = λ p b begun told.
    let bad : true ≡ false = sym (c.are_legal.ensures.1
    (λ m here. subst (λ z. Legal g.B.Board.geometry z m) (sym begun.position) (told m here)))
    ∙ c.if-not-are_legal.true in
    cc
