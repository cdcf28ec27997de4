use Rattle.std.proofs.Common.{◌++◌, ◌∙◌, ap, sym, subst, arith, map}
use Rattle.dw_solution.specs.Placed.{placed_moves}
use Rattle.dw_solution.specs.Telling.{placed_by}
use Rattle.dw_solution.specs.Tree.{IsTreeOf}
use Rattle.dw_solution.specs.inner.Steps.{IsPlayable, whole_tree}
use Rattle.dw_solution.proofs.PlacedLemmas.{items_legal, take_min}
use Rattle.dw_solution.proofs.placed.placed_moves.Goals as goal

pub push_moves-requires-clause-playable : goal.push_moves-requires-clause-playable
push_moves-requires-clause-playable g c =
    subst (λ z. IsPlayable g.B.Board.geometry z (whole_tree c.steps-steps.result.now)) (sym c.position.ensures)
    c.steps-steps.ensures.playable

pub returns-clause-moves : goal.returns-clause-moves
returns-clause-moves g c =
    let geo = g.B.Board.geometry in
    let first = c.args.first.now in
    let tree = whole_tree c.steps-steps.result.now in (
      tree,
      subst (λ z. IsTreeOf z tree) (take_min first.lines c.args.lines c.min.result (omega (arith, c.min.ensures))
          (λ less. omega (arith, less, c.min.ensures, c.len.ensures))) c.steps-steps.ensures.tree,
      c.in_ok-push_moves.ensures ∙ (ap (λ z. map placed_by z ++ placed_moves geo c.position.result 1 tree)
          c.new-all.ensures.items ∙ ap (λ z. placed_moves geo z 1 tree) c.position.ensures),
    )

pub returns-clause-legal : goal.returns-clause-legal
returns-clause-legal g c = λ one here.
    let geo = g.B.Board.geometry in
    let tree = whole_tree c.steps-steps.result.now in
    items_legal geo c.args.first.now.start 1 tree c.push_moves.new.all.items c.steps-steps.ensures.playable
    (c.in_ok-push_moves.ensures ∙ (ap (λ z. map placed_by z ++ placed_moves geo c.position.result 1 tree)
    c.new-all.ensures.items ∙ ap (λ z. placed_moves geo z 1 tree) c.position.ensures)) one here
