-- A law of the movetexts of solutions.
use Rattle.std.specs.Prelude.{◌↔◌, ℕ, ◌<◌, ◌≤◌, List, ◌++◌, length, take}
use Rattle.dw_board.specs.Geometry.{Geometry, IsBoard}
use Rattle.dw_board.specs.Lists.{Member}
use Rattle.dw_board.specs.Placement.{Placement, IsPosition}
use Rattle.dw_moves.specs.Moves.{Move}
use Rattle.dw_games.specs.Movetext.{IsTree}
use Rattle.dw_solution.specs.FirstLines.{LinesFrom}
use Rattle.dw_solution.specs.Movetext.{IsMovetext}
use Rattle.dw_solution.specs.declared.heading.Heading.{Heading}

-- one of these lines begins with some moves, at least one
abbrev pub IsBeginning : List (List Move) → List Move → Type 0
IsBeginning lines path = (0 < length path) × ((rest : List Move) × Member (path ++ rest) lines)

-- a text has a tree at a position, and its paths are the beginnings of some lines and no others
pub record IsReadAs (g : Geometry) (p : Placement) (text : List ℕ) (lines : List (List Move)) : Type 0 where
  pub tree : List (List Move)
  pub is : IsTree g p text tree
  pub paths : (path : List Move) → Member path tree ↔ IsBeginning lines path

-- A movetext in which a line is written is read as the tree of just the lines that are written in it, if none has more
-- than 39 moves.
abbrev pub MovetextsAreRead : Type 0
MovetextsAreRead = (g : Geometry) → IsBoard g → (heading : Heading) (first : LinesFrom) (many : ℕ) (text : List ℕ)
    → IsPosition g first.start.cells → ((l : List Move) → Member l first.lines → length l ≤ 39)
    → IsMovetext g heading first many text → 0 < many → IsReadAs g first.start text (take many first.lines)
