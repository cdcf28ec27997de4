-- First moves of the code, as values of the definitions.
use Rattle.dw_moves.specs.Moves.{Move}
use Rattle.dw_first_moves.specs.FirstMoves.{Effect, wins_in, refuted_by}
use Rattle.dw_first_moves.specs.declared.first_move.Effect as effects
use Rattle.dw_first_moves.specs.declared.first_move.Effect.TheVariants.{WinsIn, RefutedBy}
use Rattle.dw_first_moves.specs.declared.first_move.FirstMove as moves

-- the value of an effect
abbrev pub effect_of : {B : Type 0} → effects.Effect B → Effect
effect_of (WinsIn k) = wins_in k
effect_of (RefutedBy replies) = refuted_by replies.items

-- a first move with its effect
abbrev pub told_by : {B : Type 0} → moves.FirstMove B → Move × Effect
told_by one = (one.mv, effect_of one.effect)
