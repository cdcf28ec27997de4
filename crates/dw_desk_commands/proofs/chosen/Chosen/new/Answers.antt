use Rattle.std.proofs.Common.{◌+◌, inr, refl, subst, sym, take}
use Rattle.dw_notation.specs.declared.problems.TheConstants.{MAX_PROBLEMS}
use Rattle.dw_desk_commands.specs.inner.Choosing.{AreAhead, AreToCome, EndIsKnown, MayBe, up_to}
use Rattle.dw_desk_commands.proofs.ChosenLemmas.{chosen_of_all}
use Rattle.dw_desk_commands.proofs.chosen.Chosen.new.Goals as goal

pub returns-clause-fresh : goal.returns-clause-fresh
unfolding AreToCome MayBe
returns-clause-fresh g c =
    let geo = g.B.Board.geometry in
    let supply = g.S.Source.supply in
    record {
      all = λ whole games (rest, is, come). (
        rest,
        is.joined,
        chosen_of_all geo c.args.form c.args.portion rest (AreAhead geo c.new.result rest) games
            (c.new.ensures.games rest) come,
      );
      end = subst (λ s. EndIsKnown supply (supply s) c.new.result) (sym c.new.ensures.source) c.new.ensures.end;
      portion = refl;
      runs = c.new.ensures.runs;
      some = λ whole (rest, is).
          let all = c.new.ensures.some rest in
          (up_to c.args.portion (take (MAX_PROBLEMS + 1) all.0), (rest, is, inr (all.0, all.1, refl)));
    }
