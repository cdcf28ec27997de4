use Rattle.std.proofs.Common.{[], ◌∷◌, sym, ◌∙◌, arith}
use Rattle.std.proofs.lemmas.Result.{on_ok_weaker}
use Rattle.dw_board.specs.declared.piece.Kind.TheVariants.{Man, King}
use Rattle.dw_moves.proofs.BeginningLemmas.{begins_of, begins_nowhere}
use Rattle.dw_moves.proofs.SquareSetLemmas.{all_left, none_counted}
use Rattle.dw_moves.proofs.walk.walk_from.Goals as goal

pub walk_towards-requires-clause-few : goal.walk_towards-requires-clause-few
walk_towards-requires-clause-few g c = omega (
  arith,
  all_left c.on-chain.ensures.taken c.without-behind.ensures.enemies,
  c.on-chain.ensures.count,
  c.requires.few,
)

pub walk_towards-requires-clause-counted : goal.walk_towards-requires-clause-counted
walk_towards-requires-clause-counted g c = none_counted c.on-chain.ensures.count c.on-chain.ensures.taken

pub walk_towards-requires-then-has-2-clause-few : goal.walk_towards-requires-then-has-2-clause-few
walk_towards-requires-then-has-2-clause-few g c = omega (
  arith,
  all_left c.on-chain.ensures.taken c.without-behind.ensures.enemies,
  c.on-chain.ensures.count,
  c.requires.few,
)

pub walk_towards-requires-then-has-2-clause-counted : goal.walk_towards-requires-then-has-2-clause-counted
walk_towards-requires-then-has-2-clause-counted g c = none_counted c.on-chain.ensures.count c.on-chain.ensures.taken

pub returns-then-has : goal.returns-then-has
returns-then-has g c = on_ok_weaker c.walk_towards.result (λ kept p sets.
    begins_of Man sets ((sets.of_men c.args.from).0 (sym c.has.ensures ∙ c.if-has.true)) c.on-chain.ensures.from
    c.on-chain.ensures.at c.on-chain.ensures.taken c.without-behind.ensures.enemies c.without-behind.ensures.occupied
    c.begin.ensures.same (λ q side ground. kept q side (c.args.from ∷ []) ground c.begin.ensures.on))
    c.walk_towards.ensures.kept

pub returns-then-has-2 : goal.returns-then-has-2
returns-then-has-2 g c = on_ok_weaker c.walk_towards-then-has-2.result (λ kept p sets.
    begins_of King sets ((sets.of_kings c.args.from).0 (sym c.has-else-has.ensures ∙ c.if-has-2.true))
    c.on-chain.ensures.from c.on-chain.ensures.at c.on-chain.ensures.taken c.without-behind.ensures.enemies
    c.without-behind.ensures.occupied c.begin.ensures.same
    (λ q side ground. kept q side (c.args.from ∷ []) ground c.begin.ensures.on)) c.walk_towards-then-has-2.ensures.kept

pub returns-else-has-2 : goal.returns-else-has-2
returns-else-has-2 g c = λ p sets. begins_nowhere sets (sym c.has.ensures ∙ c.if-has.false)
    (sym c.has-else-has.ensures ∙ c.if-has-2.false) c.begin.ensures.same
