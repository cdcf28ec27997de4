use Rattle.std.proofs.Common.{◌∙◌, ap, arith, subst, sym}
use Rattle.dw_solution.specs.Movetext.{first_half}
use Rattle.dw_solution.specs.Tree.{IsTreeOf}
use Rattle.dw_solution.specs.inner.Steps.{IsPlayable, whole_tree}
use Rattle.dw_solution.proofs.FeedLemmas.{on_ok_map, words_added}
use Rattle.dw_solution.proofs.PlacedLemmas.{take_min}
use Rattle.dw_solution.proofs.writer.write_styled.Goals as goal

pub write_play-requires-clause-playable : goal.write_play-requires-clause-playable
write_play-requires-clause-playable g c =
    subst (λ z. IsPlayable g.B.Board.geometry z (whole_tree c.steps-steps.result.now)) (sym c.position-position.ensures)
    c.steps-steps.ensures.playable

pub returns : goal.returns
returns g c =
    let geo = g.B.Board.geometry in
    let shown = g.S.MovetextStyle.shown c.args.style in
    let first = c.args.first.now in
    let tree = whole_tree c.steps-steps.result.now in
    let is_tree = subst (λ z. IsTreeOf z tree) (take_min first.lines c.args.lines c.min.result
    (omega (arith, c.min.ensures)) (λ less. omega (arith, less, c.min.ensures, c.len.ensures)))
    c.steps-steps.ensures.tree in
    on_ok_map c.write_last.result _ _ (λ last. words_added shown geo first c.args.lines c.position-position.result
    c.first_half.result tree _ _ _ c.position-position.ensures
    (c.first_half.ensures ∙ ap first_half c.turn.ensures.value) is_tree c.in_ok-write_play.ensures last)
    c.write_last.ensures
