use Rattle.std.proofs.Common.{refl}
use Rattle.dw_solve.specs.inner.CountLemmas.{counted_then}
use Rattle.dw_first_moves.specs.Telling.{told_by}
use Rattle.dw_first_moves.proofs.EffectLemmas.{effects_next}
use Rattle.dw_first_moves.proofs.TextLemmas.{item_member}
use Rattle.dw_first_moves.proofs.first_moves.effects_of.Goals as goal

pub effect_of-requires : goal.effect_of-requires
effect_of-requires g c =
    record {
      legal = c.requires.legal c.mv-item.result
          (item_member c.args.some.now c.some.mv-index c.mv-item.result c.some-test.true c.mv-item.is);
    }

pub some-preserved : goal.some-preserved
some-preserved g c =
    let here = c.in_ok-effect.ensures in
    record {
      done = effects_next told_by g.B.Board.geometry c.args.position.now c.args.moves.value c.args.some.now
          c.some.mv-index c.mv-item.result c.some.done.items _ _ c.some-test.true c.mv-item.is c.some.invariant.done
          refl here.effect
          c.in_ok-push.ensures;
      count = counted_then _ _ _ _ _ _ c.some.invariant.count here.count;
      right = here.right;
      map = here.map;
    }
