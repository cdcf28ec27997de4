-- The plain lists of paths and moves.
use Rattle.std.specs.Prelude.{ℕ, ◌==◌, Option, Some, None, List, [], ◌∷◌, length, Bool, true, false, map, filter, max}
use Rattle.std.specs.List.{flat_map, list_any}
use Rattle.std.specs.FinSet as set
use Rattle.std.proofs.Common.{zero, suc}
use Rattle.dw_board.specs.declared.piece.Piece.{Piece}
use Rattle.dw_board.specs.Geometry.{Geometry, squares}
use Rattle.dw_board.specs.Placement.{Placement, at, placed, same_side}
use Rattle.dw_moves.specs.Moves.{Move, last_of}
use Rattle.dw_moves.specs.inner.Plain.{numbers_to, jump_list, quiet_pairs}

-- whether a number is in a list
abbrev pub is_in : List ℕ → ℕ → Bool
is_in xs s = list_any (λ x. x == s) xs

-- the captures of at most fuel pieces that take none of those in used: where they land, and over what
abbrev pub captures : Geometry → Placement → Piece → ℕ → ℕ → List ℕ → List (List ℕ × List ℕ)
captures g cells piece zero s used = ([], []) ∷ []
captures g cells piece (suc fuel) s used = ([], []) ∷
    flat_map
    (λ j. elim (is_in used j.0) [
      | true ↦ []
      | false ↦ map (λ q. (j.1 ∷ q.0, j.0 ∷ q.1)) (captures g cells piece fuel j.1 (j.0 ∷ used))
    ])
    (jump_list g cells piece s)

pub record Capture : Type 0 where
  pub start : ℕ
  pub landings : List ℕ
  pub over : List ℕ

abbrev pub captures_of : Geometry → Placement → ℕ → Option Piece → List Capture
captures_of g p s None = []
captures_of g p s (Some piece) = elim (same_side piece.side p.turn) [
  | true ↦ map (λ q. record { start = s; landings = q.0; over = q.1 }) (captures g (placed p s None) piece
      (length p.cells) s [])
  | false ↦ []
]

abbrev pub path_list : Geometry → Placement → List Capture
path_list g p = flat_map (λ s. captures_of g p s (at p s)) (numbers_to (squares g))

abbrev pub longest : List Capture → ℕ
longest [] = 0
longest (w ∷ ws) = max (length w.over) (longest ws)

abbrev pub best : Geometry → Placement → ℕ
best g p = longest (path_list g p)

abbrev pub quiet_move : ℕ × ℕ → Move
quiet_move m = record { from = m.0; to = m.1; taken = set.empty }

abbrev pub quiet_list : Geometry → Placement → List Move
quiet_list g p = map quiet_move (quiet_pairs g p)

abbrev pub move_of : Capture → Move
move_of w = record { from = w.start; to = last_of w.start w.landings; taken = set.from_list w.over }

abbrev pub legal_at : Geometry → Placement → List Capture → ℕ → List Move
legal_at g p paths zero = quiet_list g p
legal_at g p paths (suc k) = map move_of (filter (λ w. length w.over == suc k) paths)

abbrev pub legal_list : Geometry → Placement → List Move
legal_list g p = let paths = path_list g p in legal_at g p paths (longest paths)
