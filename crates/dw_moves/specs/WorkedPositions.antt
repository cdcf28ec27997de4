-- Worked positions on the board of ten rows, each with all its legal moves.
use Rattle.std.specs.Prelude.{ℕ, Some, List, [], ◌∷◌, ◌↔◌}
use Rattle.std.specs.FinSet as set
use Rattle.dw_board.specs.declared.piece.Side.{Side}
use Rattle.dw_board.specs.declared.piece.Side.TheVariants.{White, Black}
use Rattle.dw_board.specs.declared.piece.Kind.{Kind}
use Rattle.dw_board.specs.declared.piece.Kind.TheVariants.{Man, King}
use Rattle.dw_board.specs.Boards.{ten}
use Rattle.dw_board.specs.Placement.{Placement, empty, placed}
use Rattle.dw_moves.specs.Moves.{Move, Legal}
use Rattle.dw_board.specs.Lists.{Member}

-- the placement with pieces of this side and kind on all these squares
abbrev pub with_all : Placement → Side → Kind → List ℕ → Placement
with_all p side kind_of [] = p
with_all p side kind_of (s ∷ ss) = with_all (placed p s (Some (record { side = side; kind = kind_of }))) side kind_of ss

-- White to move with these men and kings, against these men
abbrev pub white_to_move : List ℕ → List ℕ → List ℕ → Placement
white_to_move men kings enemies = with_all (with_all (with_all (empty White) White Man men) White King kings) Black Man
    enemies

abbrev pub move : ℕ → ℕ → List ℕ → Move
move from to taken = record { from = from; to = to; taken = set.from_list taken }

-- these are the legal moves
abbrev pub AreTheLegal : Placement → List Move → Type 0
AreTheLegal p moves = (m : Move) → Member m moves ↔ Legal ten p m

-- A man that passes its last row goes on as a man. A king takes four, lands on three squares, and the jumped pieces
-- still bar its way. A king takes one and lands on any square beyond it. A man goes forward only. A man takes four and
-- comes back to its start, by two paths, which are one move. Two captures have the same start and end and take
-- different men.
pub record WorkedPositions : Type 0 where
  pub passes : AreTheLegal (white_to_move (14 ∷ []) [] (8 ∷ 9 ∷ [])) (move 14 12 (9 ∷ 8 ∷ []) ∷ [])
  pub barred : AreTheLegal (white_to_move [] (47 ∷ []) (17 ∷ 18 ∷ 24 ∷ 32 ∷ 33 ∷ []))
      (move 47 38 (33 ∷ 18 ∷ 17 ∷ 32 ∷ []) ∷ move 47 43 (33 ∷ 18 ∷ 17 ∷ 32 ∷ [])
      ∷ move 47 49 (33 ∷ 18 ∷ 17 ∷ 32 ∷ []) ∷ [])
  pub lands : AreTheLegal (white_to_move [] (46 ∷ []) (28 ∷ []))
      (move 46 23 (28 ∷ []) ∷ move 46 19 (28 ∷ []) ∷ move 46 14 (28 ∷ []) ∷ move 46 10 (28 ∷ [])
      ∷ move 46 5 (28 ∷ []) ∷ [])
  pub forward : AreTheLegal (white_to_move (28 ∷ []) [] []) (move 28 22 [] ∷ move 28 23 [] ∷ [])
  pub returns : AreTheLegal (white_to_move (38 ∷ []) [] (22 ∷ 23 ∷ 32 ∷ 33 ∷ []))
      (move 38 38 (32 ∷ 22 ∷ 23 ∷ 33 ∷ []) ∷ [])
  pub shares : AreTheLegal (white_to_move (47 ∷ []) [] (13 ∷ 14 ∷ 22 ∷ 31 ∷ 32 ∷ 41 ∷ 42 ∷ []))
      (move 47 20 (41 ∷ 31 ∷ 22 ∷ 13 ∷ 14 ∷ []) ∷ move 47 20 (42 ∷ 32 ∷ 22 ∷ 13 ∷ 14 ∷ []) ∷ [])
