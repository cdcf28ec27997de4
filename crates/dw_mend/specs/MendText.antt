-- The texts of neighbours.
use Rattle.std.specs.Prelude.{◌≡◌, ℕ, List, [], ◌∷◌, ◌++◌, ◌==◌, if◌then◌else◌, codes, decimal}
use Rattle.dw_board.specs.Geometry.{Geometry}
use Rattle.dw_board.specs.Placement.{Placement}
use Rattle.dw_board.specs.FenText.{written, side_text}
use Rattle.dw_board.specs.declared.piece.Kind.{Kind}
use Rattle.dw_board.specs.declared.piece.Kind.TheVariants.{Man, King}
use Rattle.dw_moves.specs.Moves.{Move}
use Rattle.dw_notation.specs.Text.{IsMoveText}
use Rattle.json.specs.Json.{string}
use Rattle.dw_json.specs.Rows.{count, row}
use Rattle.dw_mend.specs.declared.rows.Wording.{Wording}
use Rattle.dw_mend.specs.declared.rows.Wording.TheVariants.{Words, Row}
use Rattle.dw_mend.specs.Changes.{Change, without, with_piece, set, made}

-- the mark before the square of a piece: K for a king, none for a man
abbrev pub kind_mark : Kind → List ℕ
kind_mark Man = []
kind_mark King = codes "K"

-- the word for a kind of piece
abbrev pub kind_word : Kind → List ℕ
kind_word Man = codes "man"
kind_word King = codes "king"

-- a change in words
abbrev pub change_text : Change → List ℕ
change_text (without s) = codes "without " ++ decimal s
change_text (with_piece s piece) = codes "with " ++ side_text piece.side ++ kind_mark piece.kind ++ decimal s
change_text (set s t) = decimal s ++ codes " to " ++ decimal t
change_text (made s kind) = decimal s ++ codes " as " ++ kind_word kind

-- the line of a neighbour that is sound within n moves: the change, the position, the key
abbrev pub IsSoundLine : Geometry → ℕ → Change × Placement → Move → List ℕ → Type 0
IsSoundLine g n x key line = (move : List ℕ) × IsMoveText g x.1 key move
    × (line ≡ change_text x.0 ++ codes ": " ++ written g x.1 ++ codes ", sound in " ++ decimal n ++ codes ": " ++ move
    ++ codes "\n")

-- the part of the last line that says how many neighbours are undecided, if any
abbrev pub undecided_text : ℕ → List ℕ
undecided_text undecided = if undecided == 0 then [] else codes ", " ++ decimal undecided ++ codes " undecided"

-- the last line: how many neighbours are sound, of how many, and how many are undecided, if any
abbrev pub count_line : (all sound undecided : ℕ) → List ℕ
count_line all sound undecided =
    codes "sound " ++ decimal sound ++ codes " of " ++ decimal all ++ undecided_text undecided ++ codes "\n"

-- the line of a neighbour that is sound within n moves, as a row of JSON
abbrev pub IsSoundRow : Geometry → ℕ → Change × Placement → Move → List ℕ → Type 0
IsSoundRow g n x key line = (move : List ℕ) × IsMoveText g x.1 key move
    × (line ≡ row ((codes "change", string (change_text x.0)) ∷ (codes "fen", string (written g x.1))
    ∷ (codes "n", count n) ∷ (codes "key", string move) ∷ []))

-- the last line as a row of JSON
abbrev pub count_row : (all sound undecided : ℕ) → List ℕ
count_row all sound undecided =
    row ((codes "sound", count sound) ∷ (codes "of", count all) ∷ (codes "undecided", count undecided) ∷ [])

-- the line of a neighbour that is sound, in words or as a row
abbrev pub IsLineOf : Wording → Geometry → ℕ → Change × Placement → Move → List ℕ → Type 0
IsLineOf Words g n x key line = IsSoundLine g n x key line
IsLineOf Row g n x key line = IsSoundRow g n x key line

-- the last line, in words or as a row
abbrev pub last_line : Wording → (all sound undecided : ℕ) → List ℕ
last_line Words all sound undecided = count_line all sound undecided
last_line Row all sound undecided = count_row all sound undecided
