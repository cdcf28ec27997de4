use Rattle.std.proofs.Common.{◌≡◌, ◌+◌, ◌/◌, ◌<◌, ◌∙◌, max, ap, sym, subst, arith, length, None, Some}
use Rattle.dw_games.specs.Walk.{beginning_at}
use Rattle.dw_study.proofs.TurnLemmas.{TurnsTo, node_there, turns_more, turns_there, turns_all}
use Rattle.dw_study.proofs.turns.turns_of.Goals.{in-Some, in_default}
use Rattle.dw_study.proofs.turns.turns_of.Goals as goal

pub overflow_cast-result : goal.overflow_cast-result
overflow_cast-result g c = omega (arith, c.nodes.invariant.few)

pub nodes-preserved : goal.nodes-preserved
nodes-preserved g c =
    let tree = c.args.tree.now.paths in
    let i = c.nodes.place in
    let low : i < length tree = omega (arith, c.nodes-test.true, c.len-place-end.ensures) in
    let there = node_there c.node.result tree i c.node.ensures low in
    elim c.match-moves_to.branch [
      | in-Some w ↦ subst (TurnsTo tree (i + 1)) (sym (w.most-is ∙ (w.max-most.ensures
          ∙ ap (λ z. max ((z + 1) / 2) c.nodes.most) w.len.ensures.value)))
          (turns_more tree i c.nodes.most w.in-Some.moves.items low
          (subst (λ z. beginning_at tree z ≡ Some w.in-Some.moves.items) there w.in-Some.ensures.0)
          (omega (arith, w.len.ensures.fits, w.len.ensures.value)) c.nodes.invariant)
      | in_default w ↦
          turns_there tree i low (subst (λ z. beginning_at tree z ≡ None) there w.in_default.ensures)
    ]

pub returns-clause-turns : goal.returns-clause-turns
returns-clause-turns g c = turns_all c.args.tree.now.paths c.nodes.place c.nodes.most
    (omega (arith, c.nodes-test.false, c.len-place-end.ensures)) c.nodes.invariant
