use Rattle.std.proofs.Common.{arith}
use Rattle.dw_solution.proofs.StepLemmas.{chain_step}
use Rattle.dw_solution.proofs.step.add_steps.Goals as goal

pub moves-preserved : goal.moves-preserved
moves-preserved g c = record {
  items = chain_step _ c.reserve.new.self.items c.moves.steps.items c.push_reserved.new.self.items c.args.depth
      c.moves.place c.index-moves-place.result c.args.moves.now c.moves-test.true c.index-moves-place.is
      c.moves.invariant.items c.push_reserved.ensures.items;
  room = omega (arith, c.push_reserved.ensures.len, c.push_reserved.ensures.capacity, c.moves.invariant.room);
}
