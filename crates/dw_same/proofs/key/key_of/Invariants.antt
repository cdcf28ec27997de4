use Rattle.std.proofs.Common.{◌≡◌, ℕ, ◌<◌, length, get_or, None}
use Rattle.dw_board.specs.Placement as of
use Rattle.dw_same.specs.inner.Keys.{with_white_to_move}
use Rattle.dw_same.proofs.key.key_of.Given as goal

abbrev pub invariant-loop-i : goal.invariant-loop-i
invariant-loop-i g l = record {
  len : length l.codes ≡ 50;
  written : (k : ℕ) → k < l.i → get_or l.codes k 0
      ≡ of.cell_code (get_or (with_white_to_move g.B.Board.geometry l.position l.position.turn).cells k None);
}
