use Rattle.std.proofs.Common.{◌∙◌, subst}
use Rattle.dw_board.specs.Lists.{Member}
use Rattle.dw_first_moves.proofs.EffectLemmas.{in_part}
use Rattle.dw_first_moves.proofs.TextLemmas.{effects_have}
use Rattle.dw_first_moves.proofs.first_moves.first_moves.Goals as goal

pub effects_of-requires : goal.effects_of-requires
effects_of-requires g c =
    record {
      legal = λ m member. (c.in_ok-all.ensures.exactly m).0
          (subst (Member m) c.as_slice.ensures.value (in_part c.args.part.number c.args.part.parts 1
          c.as_slice.result.now m (subst (Member m) (c.as_slice-2.ensures.value ∙ c.in_ok-some.ensures) member)));
    }

pub invariant_of-result : goal.invariant_of-result
invariant_of-result g c = (
  c.args.moves.value,
  effects_have g.B.Board.geometry c.args.position.now c.args.moves.value _ _ c.in_ok-found.ensures.done,
)
