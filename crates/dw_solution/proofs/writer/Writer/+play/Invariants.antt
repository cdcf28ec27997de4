use Rattle.std.proofs.Common.{◌≡◌, ◌≤◌, length, List, ℕ}
use Rattle.std.specs.Prelude.{◌||◌}
use Rattle.dw_solution.specs.Words.{AreVariations, has_move}
use Rattle.dw_solution.specs.inner.Steps.{tree_at, IsPlayable}
use Rattle.dw_solution.specs.inner.Feeds.{IsAdded}
use Rattle.dw_solution.proofs.writer.Writer.+play.Given as goal

abbrev pub decreases-write_play : goal.decreases-write_play
decreases-write_play g l = length l.steps.now

abbrev pub decreases-write_variations : goal.decreases-write_variations
decreases-write_variations g l = length l.steps.now

abbrev pub invariant-write_variations-moves : goal.invariant-write_variations-moves
invariant-write_variations-moves g l =
    let geo = g.B.Board.geometry in
    let shown = g.S.MovetextStyle.shown l.self.style in
    record {
      said : (final : List ℕ)
          → IsAdded shown (AreVariations shown geo l.state.position l.state.half (tree_at l.left l.state.depth))
          l.text.items final
          → IsAdded shown (AreVariations shown geo l.state.position l.state.half (tree_at l.steps l.state.depth))
          l.initial.text.items final;
      some : has_move (tree_at l.steps l.state.depth) ≡ (l.some || has_move (tree_at l.left l.state.depth));
      playable : IsPlayable g.B.Board.geometry l.state.position (tree_at l.left l.state.depth);
      shorter : length l.left ≤ length l.steps;
    }

abbrev pub decreases-write_variations-moves : goal.decreases-write_variations-moves
decreases-write_variations-moves g l = length l.left
