-- How the text of a line is written, word by word.
use Rattle.std.proofs.Common.{zero, suc}
use Rattle.std.specs.Prelude.{ℕ, ◌≤◌, List, [], ◌∷◌, ◌++◌, ◌≡◌, length}
use Rattle.std.specs.List.{join_with_byte}
use Rattle.dw_board.specs.Geometry.{Geometry}
use Rattle.dw_board.specs.Placement.{Placement}
use Rattle.dw_moves.specs.Moves.{Move}
use Rattle.dw_notation.specs.Text.{IsMoveText, numbered}
use Rattle.dw_board.specs.Lists.{Member}
use Rattle.dw_moves.specs.Order.{Listed}

-- words with a blank before each
abbrev pub spaced : List (List ℕ) → List ℕ
spaced [] = []
spaced (w ∷ words) = 32 ∷ (w ++ spaced words)

-- the bytes that words add to the text of a line at a ply
abbrev pub onto : ℕ → List (List ℕ) → List ℕ
onto zero words = join_with_byte 32 words
onto (suc ply) words = spaced words

-- to the text of a line the text of a move was added at a ply
pub record IsPushed (g : Geometry) (p : Placement) (ply : ℕ) (m : Move) (old new : List ℕ) : Type 0 where
  pub word : List ℕ
  pub text : IsMoveText g p m word
  pub short : length word ≤ 62
  pub added : new ≡ old ++ onto ply (numbered ply (word ∷ []))

-- one of these is this move
abbrev pub HasStep : List Listed → Move → Type 0
HasStep list m = (l : Listed) × Member l list × (l.step ≡ m)
