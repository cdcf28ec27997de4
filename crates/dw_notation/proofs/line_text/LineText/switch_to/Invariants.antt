use Rattle.std.proofs.Common.{◌≡◌, ◌++◌, take, drop}
use Rattle.dw_notation.specs.Text.{ArePlayable}
use Rattle.dw_notation.specs.inner.WrittenMoves.{after_moves}
use Rattle.dw_notation.proofs.line_text.LineText.switch_to.Given as goal

abbrev pub invariant-moves : goal.invariant-moves
invariant-moves g l = record {
  start : l.self.start ≡ l.initial.self.start;
  taken : l.self.moves ≡ l.initial.self.moves ++ take l.mv-index l.rest;
  playable : ArePlayable g.B.Board.geometry (after_moves g.B.Board.geometry l.self.start l.self.moves)
      (drop l.mv-index l.rest);
}
