use Rattle.std.proofs.Common.{◌∙◌, cond, [], ◌∷◌, ◌++◌, sym, subst, arith, refl}
use Rattle.dw_desk_commands.specs.inner.Choosing.{AreToCome, ComesNext, MayBe}
use Rattle.dw_games.specs.GameReading.{numbered_game}
use Rattle.dw_desk_commands.proofs.ChosenLemmas.{GoesOn-refl, GoesOn-trans, less_left, none_comes, none_left, some_come}
use Rattle.dw_desk_commands.proofs.ChosenLemmas.{then_comes}
use Rattle.dw_desk_commands.proofs.chosen.Chosen.next.Goals as goal

pub games-init : goal.games-init
games-init g c = record {
  handed = λ whole found come. come;
  on = GoesOn-refl g.S.Source.supply c.args.self.now.text;
  possible = λ whole may. may;
  portion = refl;
  lender = refl;
  runs = c.requires;
  fewer = omega arith;
}

pub returns-in_default-clause-given : goal.returns-in_default-clause-given
unfolding AreToCome MayBe
returns-in_default-clause-given g c = λ whole may.
    let supply = g.S.Source.supply in
    let old = c.games.self in
    c.games.invariant.handed whole [] (none_comes g.B.Board.geometry supply old.portion old.left old.text
    c.next.new.self whole (subst (ComesNext g.B.Board.geometry supply old.text c.next.new.self) c.in_default.is
    c.in_ok-game.ensures.given) may)

pub returns-in_default-clause-on : goal.returns-in_default-clause-on
returns-in_default-clause-on g c =
    let old = c.games.self in
    GoesOn-trans g.S.Source.supply c.args.self.now.text old.text c.next.new.self c.games.invariant.on
    c.next.ensures.on

pub returns-then-has-clause-given : goal.returns-then-has-clause-given
unfolding AreToCome
returns-then-has-clause-given g c = λ whole more come.
    let supply = g.S.Source.supply in
    let geo = g.B.Board.geometry in
    let old = c.games.self in
    let game = c.in-Some.game in
    c.games.invariant.handed whole (numbered_game game ∷ more)
    (subst (λ z. AreToCome geo supply old whole (cond z (numbered_game game ∷ []) [] ++ more))
    (sym c.has.ensures ∙ c.if-has.true)
    (then_comes geo supply old.portion old.left c.left_behind-self.result old.text c.next.new.self game whole more
    (subst (ComesNext geo supply old.text c.next.new.self) c.in-Some.is c.in_ok-game.ensures.given) c.games-test.true
    c.left_behind-self.ensures come))

pub returns-then-has-clause-on : goal.returns-then-has-clause-on
returns-then-has-clause-on g c =
    let old = c.games.self in
    GoesOn-trans g.S.Source.supply c.args.self.now.text old.text c.next.new.self c.games.invariant.on
    c.next.ensures.on

pub games-preserved : goal.games-preserved
unfolding AreToCome
games-preserved g c =
    let supply = g.S.Source.supply in
    let geo = g.B.Board.geometry in
    let old = c.games.self in
    let game = c.in-Some.game in
    record {
      handed = λ whole found come. c.games.invariant.handed whole found
          (subst (λ z. AreToCome geo supply old whole (cond z (numbered_game game ∷ []) [] ++ found))
          (sym c.has.ensures ∙ c.if-has.false)
          (then_comes geo supply old.portion old.left c.left_behind-self.result old.text c.next.new.self game whole
          found (subst (ComesNext geo supply old.text c.next.new.self) c.in-Some.is c.in_ok-game.ensures.given)
          c.games-test.true c.left_behind-self.ensures come));
      on = GoesOn-trans supply c.args.self.now.text old.text c.next.new.self c.games.invariant.on c.next.ensures.on;
      possible = λ whole may. c.games.invariant.possible whole (c.next.ensures.possible whole may);
      portion = c.games.invariant.portion;
      lender = c.in_ok-game.ensures.lender ∙ c.games.invariant.lender;
      runs = c.in_ok-game.ensures.runs;
      fewer = let less = less_left old.left c.left_behind-self.result _ c.games-test.true c.left_behind-self.ensures in
          omega (arith, less, c.games.invariant.fewer);
    }

pub returns-clause-given : goal.returns-clause-given
unfolding AreToCome MayBe
returns-clause-given g c = λ whole may.
    let old = c.games.self in
    c.games.invariant.handed whole [] (none_left g.B.Board.geometry g.S.Source.supply old.portion old.left old.text
    whole c.games-test.false may)

pub returns-then-has-clause-more : goal.returns-then-has-clause-more
unfolding AreToCome MayBe
returns-then-has-clause-more g c = λ whole may.
    let supply = g.S.Source.supply in
    let geo = g.B.Board.geometry in
    let old = c.games.self in
    some_come geo supply old.portion c.left_behind-self.result old.text c.next.new.self c.in-Some.game whole
    (subst (ComesNext geo supply old.text c.next.new.self) c.in-Some.is c.in_ok-game.ensures.given) may

pub returns-in_err-game-clause-on : goal.returns-in_err-game-clause-on
returns-in_err-game-clause-on g c = GoesOn-trans g.S.Source.supply c.args.self.now.text c.games.self.text
    c.next.new.self c.games.invariant.on c.next.ensures.on

pub returns-in_default-clause-possible : goal.returns-in_default-clause-possible
unfolding MayBe
returns-in_default-clause-possible g c = λ whole may. c.games.invariant.possible whole
    (c.next.ensures.possible whole may)

pub returns-then-has-clause-possible : goal.returns-then-has-clause-possible
unfolding MayBe
returns-then-has-clause-possible g c = λ whole may. c.games.invariant.possible whole (c.next.ensures.possible whole may)

pub returns-in_err-game-clause-possible : goal.returns-in_err-game-clause-possible
unfolding MayBe
returns-in_err-game-clause-possible g c = λ whole may. c.games.invariant.possible whole
    (c.next.ensures.possible whole may)

pub returns-clause-possible : goal.returns-clause-possible
unfolding MayBe
returns-clause-possible g c = c.games.invariant.possible
