use Rattle.std.proofs.Common.{◌+◌, ◌∙◌, ap, subst, arith, true, false, refl}
use Rattle.std.specs.Prelude.{◌||◌}
use Rattle.std.proofs.lemmas.Bool.{or_right}
use Rattle.dw_solution.specs.Words.{AreWords, has_move}
use Rattle.dw_solution.specs.inner.Steps.{tree_at, IsPlayable}
use Rattle.dw_solution.specs.inner.Feeds.{IsAdded}
use Rattle.dw_solution.proofs.FeedLemmas.{play_added, variation_added, on_ok_map}
use Rattle.dw_solution.proofs.writer.Writer.+play.Goals as goal

pub write_play-returns : goal.write_play-returns
write_play-returns g t c =
    let geo = g.B.Board.geometry in
    let shown = g.S.MovetextStyle.shown c.args.self.now.style in
    let state = c.args.state.now in
    let behind = c.in-Some.first.rest.now in
    on_ok_map c.write_play.result _ _ (λ rest. play_added shown geo state.position state.half c.args.due
    c.in_ok-branches.branches c.in-Some.first.mv (tree_at c.args.steps.now state.depth)
    (tree_at behind (state.depth + 1)) (tree_at behind state.depth) _ _ _ _ _ c.in-Some.ensures.0
    c.in_ok-branches.ensures.some c.in_ok-write_due_number.ensures c.in_ok-write_move.ensures
    c.in_ok-branches.ensures.words
    (subst (λ z. IsAdded shown (AreWords shown geo z.position z.half c.in_ok-branches.branches (tree_at behind z.depth))
    c.write_variations.new.text.items c.write_play.new.text.items) c.behind-next.ensures rest))
    c.write_play.ensures

pub write_variations-moves-preserved : goal.write_variations-moves-preserved
write_variations-moves-preserved g t c =
    let geo = g.B.Board.geometry in
    let shown = g.S.MovetextStyle.shown c.args.self.now.style in
    let state = c.args.state.now in
    let behind = c.in-Some.first.rest.now in
    let is = c.in-Some.ensures.0 in
    record {
      said = λ final more. c.moves.invariant.said final (variation_added shown geo state.position state.half
          c.in-Some.first.mv (tree_at c.moves.left.now state.depth) (tree_at behind (state.depth + 1))
          (tree_at behind state.depth) _ _ _ _ _ final is c.in_ok-open.ensures c.in_ok-write_move.ensures
          (subst (λ z. IsAdded shown (AreWords shown geo z.position z.half false (tree_at behind z.depth))
          c.write_move.new.text.items c.write_play.new.text.items) c.behind-next.ensures c.in_ok-write_play.ensures)
          c.in_ok-push_mark.ensures more);
      some = c.moves.invariant.some ∙ (ap (λ z. c.moves.some || has_move z) is ∙ or_right c.moves.some true refl);
      playable = (subst (IsPlayable geo state.position) is c.moves.invariant.playable).2;
      shorter = omega (arith, c.in-Some.ensures.1, c.moves.invariant.shorter);
    }
