-- How the text of a line is held, ply by ply.
use Rattle.std.proofs.Common.{zero, suc}
use Rattle.std.specs.Prelude.{◌≡◌, ℕ, ◌+◌, ◌≤◌, List, [], ◌∷◌, ◌++◌, length}
use Rattle.dw_board.specs.Geometry.{Geometry}
use Rattle.dw_board.specs.Placement.{Placement}
use Rattle.dw_moves.specs.Moves.{Move, play}
use Rattle.dw_notation.specs.Text.{IsMoveText, numbered}
use Rattle.dw_notation.specs.inner.LineWords.{onto}
use Rattle.dw_notation.specs.declared.line_text.WrittenMove.{WrittenMove}

-- After some text stand the words of these moves, each of which ends where it says.
-- Sealed: it is true of each text of a line, and the clauses of public calls say all that is to be known of one.
abbrev pub AreWritten : {B : Type 0} → Geometry → Placement → ℕ → List ℕ → List (WrittenMove B) → List ℕ → Type 0
AreWritten g p ply before [] text = text ≡ before
AreWritten g p ply before (x ∷ plies) text = (word : List ℕ) × IsMoveText g p x.mv word × (length word ≤ 62)
    × (x.after ≡ play g p x.mv) × (x.len ≡ length (before ++ onto ply (numbered ply (word ∷ []))))
    × AreWritten g x.after (ply + 1) (before ++ onto ply (numbered ply (word ∷ []))) plies text

-- the position after these plies
abbrev pub end_from : {B : Type 0} → Placement → List (WrittenMove B) → Placement
end_from p [] = p
end_from p (x ∷ plies) = end_from x.after plies

-- the position after these moves
abbrev pub after_moves : Geometry → Placement → List Move → Placement
after_moves g p [] = p
after_moves g p (m ∷ moves) = after_moves g (play g p m) moves

-- the length of the text of the first moves, after a text of some length
abbrev pub len_to : {B : Type 0} → ℕ → ℕ → List (WrittenMove B) → ℕ
len_to base zero [] = base
len_to base zero (x ∷ plies) = base
len_to base (suc k) [] = base
len_to base (suc k) (x ∷ plies) = len_to x.len k plies
