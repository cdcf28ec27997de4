use Rattle.std.proofs.Common.{◌+◌, ◌++◌, ◌∙◌, ap, subst, arith, map}
use Rattle.dw_solution.specs.Placed.{placed_moves}
use Rattle.dw_solution.specs.Telling.{placed_by}
use Rattle.dw_solution.specs.inner.Steps.{tree_at, IsPlayable}
use Rattle.dw_solution.proofs.PlacedLemmas.{placed_next}
use Rattle.dw_solution.proofs.placed.+placing.Goals as goal

pub moves-preserved : goal.moves-preserved
moves-preserved g t c =
    let geo = g.B.Board.geometry in
    let p = c.args.position.now in
    let d = c.args.depth in
    let rest = c.in-Some.first.rest.now in
    let is = c.in-Some.ensures.0 in
    record {
      placed = placed_next geo p (d + 1) c.in-Some.first.mv (tree_at c.moves.left.now d) (tree_at rest (d + 1))
          (tree_at rest d) (map placed_by c.moves.all.items) (map placed_by c.push.new.all.items)
          (map placed_by c.push_moves.new.all.items) _ is c.in_ok-push.ensures
          (c.in_ok-push_moves.ensures
          ∙ ap (λ z. map placed_by c.push.new.all.items ++ placed_moves geo z (d + 1 + 1) (tree_at rest (d + 1)))
          c.play.ensures) c.moves.invariant.placed;
      playable = (subst (IsPlayable geo p) is c.moves.invariant.playable).2;
      shorter = omega (arith, c.in-Some.ensures.1, c.moves.invariant.shorter);
    }
