-- The row of JSON of `solution` for a problem, and the members of a solution in a row.
use Rattle.std.specs.Prelude.{◌≡◌, ℕ, List, [], ◌∷◌, codes, take}
use Rattle.json.specs.Json.{boolean, string}
use Rattle.dw_board.specs.FenText.{written}
use Rattle.dw_board.specs.Geometry.{Geometry}
use Rattle.dw_json.specs.Rows.{AreObjects, Member, count, objects, row}
use Rattle.dw_moves.specs.Moves.{play}
use Rattle.dw_notation.specs.Text.{IsMoveText}
use Rattle.dw_solution.specs.FirstLines.{LinesFrom, is_cut}
use Rattle.dw_solution.specs.Movetext.{verdict_word}
use Rattle.dw_solution.specs.Placed.{Placed, placed_moves}
use Rattle.dw_solution.specs.Tree.{Tree, IsTreeOf}
use Rattle.dw_solution.specs.declared.heading.Heading.{Heading}

-- the members of a move in its place: the depth, its text, and the position after it
abbrev pub IsPlacedObject : Geometry → Placed → List Member → Type 0
IsPlacedObject g one members = (move : List ℕ) × IsMoveText g one.before one.move move
    × (members ≡ (codes "depth", count one.depth) ∷ (codes "move", string move)
    ∷ (codes "fen", string (written g (play g one.before one.move))) ∷ [])

-- the members of some first lines: whether they are cut, and the moves of their tree
abbrev pub AreLineMembers : Geometry → LinesFrom → (many : ℕ) → List Member → Type 0
AreLineMembers g first many members =
    (tree : Tree) × (each : List (List Member)) × IsTreeOf (take many first.lines) tree
    × AreObjects (IsPlacedObject g) (placed_moves g first.start 1 tree) each
    × (members ≡ (codes "more", boolean (is_cut first many)) ∷ (codes "moves", objects each) ∷ [])

-- the row of some first lines: the verdict, and the members of the lines
abbrev pub IsSolutionRow : Geometry → (problem : ℕ) → Heading → LinesFrom → (many : ℕ) → List ℕ → Type 0
IsSolutionRow g problem heading first many text =
    (members : List Member) × AreLineMembers g first many members
    × (text ≡ row ((codes "problem", count problem) ∷ (codes "fen", string (written g first.start))
    ∷ (codes "n", count heading.moves) ∷ (codes "verdict", string (verdict_word heading.kind)) ∷ members))
