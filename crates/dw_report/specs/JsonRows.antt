-- The rows of JSON of `show` and `moves`.
use Rattle.std.specs.Prelude.{◌≡◌, ℕ, List, [], ◌∷◌, codes, map}
use Rattle.json.specs.Json.{string}
use Rattle.dw_board.specs.FenText.{written}
use Rattle.dw_board.specs.Geometry.{Geometry}
use Rattle.dw_board.specs.Placement.{Placement}
use Rattle.dw_json.specs.Rows.{count, pairs, row}
use Rattle.dw_moves.specs.Moves.{IsBest, play}
use Rattle.dw_moves.specs.Order.{AreListed, Listed}
use Rattle.dw_notation.specs.Text.{text_among}
use Rattle.dw_notation.specs.declared.problems.ProblemFault.{ProblemFault}
use Rattle.dw_report.specs.Refusals.{refusal_text}

-- the row of a problem that is refused: its number, and the reason
abbrev pub refused_row : (number : ℕ) → ProblemFault → List ℕ
refused_row number fault =
    row ((codes "problem", count number) ∷ (codes "refused", string (refusal_text fault)) ∷ [])

-- the row of a position: the number of the problem, and the written FEN
abbrev pub shown_row : Geometry → (number : ℕ) → Placement → List ℕ
shown_row g number p = row ((codes "problem", count number) ∷ (codes "fen", string (written g p)) ∷ [])

-- the row of the moves of a position: the number of the problem, the written FEN, the number of pieces that each move
-- takes, and all legal moves in order, each as its text and the position after it
pub record IsMovesRow (g : Geometry) (number : ℕ) (p : Placement) (text : List ℕ) : Type 0 where
  pub list : List Listed
  pub all : AreListed g p list
  pub most : ℕ
  pub best : IsBest g p most
  pub is : text ≡ row ((codes "problem", count number) ∷ (codes "fen", string (written g p))
      ∷ (codes "taking", count most)
      ∷ (codes "moves", pairs (map (λ l. (text_among list l, written g (play g p l.step))) list)) ∷ [])
