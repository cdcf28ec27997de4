-- Laws of findings and of remarks, for every board.
use Rattle.std.specs.Prelude.{◌≡◌, ◌↔◌, ℕ, ◌<◌, Bool, Option, IsSome, List, [], ◌∷◌, ◌++◌}
use Rattle.dw_board.specs.Geometry.{Geometry, IsBoard}
use Rattle.dw_board.specs.Placement.{Placement}
use Rattle.dw_board.specs.Lists.{Member}
use Rattle.dw_solve.specs.Lines.{Line}
use Rattle.dw_moves.specs.Moves.{Move}
use Rattle.dw_games.specs.Movetext.{IsTree}
use Rattle.dw_verdict.specs.Verdict.{Verdict}
use Rattle.dw_study.specs.Finding.{judged, undecided, IsFinding}
use Rattle.dw_study.specs.RemarkText.{HasTexts}
use Rattle.dw_study.specs.Remarks.{Remark, fails, also, leaves_open, ends, AreRemarks}

-- each position has exactly one judged finding, and an undecided one has a lower number of moves
pub record OneFinding : Type 0 where
  pub some : (g : Geometry) → IsBoard g → (p : Placement) (is_least : Bool) (moves : ℕ) →
      (k : ℕ) × (v : Verdict) × (tries : List (Move × Move)) × IsFinding g p is_least moves (judged k v tries)
  pub only : (g : Geometry) → IsBoard g → (p : Placement) (is_least : Bool) (moves k j : ℕ) (v w : Verdict)
      (tries others : List (Move × Move)) → IsFinding g p is_least moves (judged k v tries)
      → IsFinding g p is_least moves (judged j w others) → judged k v tries ≡ judged j w others
  pub below : (g : Geometry) (p : Placement) (is_least : Bool) (moves k j : ℕ) (v : Verdict)
      (tries : List (Move × Move)) → IsFinding g p is_least moves (undecided j)
      → IsFinding g p is_least moves (judged k v tries) → j < k

-- there is only one list of remarks on the tree of a movetext
abbrev pub OneListOfRemarks : Type 0
OneListOfRemarks = (g : Geometry) (p : Placement) (text : List ℕ) (tree : List (List Move)) → IsTree g p text tree
    → (n : ℕ) (remarks others : List Remark) → AreRemarks g tree n p [] remarks → AreRemarks g tree n p [] others
    → remarks ≡ others

-- each remark has a text
abbrev pub RemarksHaveTexts : Type 0
RemarksHaveTexts = (g : Geometry) (p : Placement) (tree : List (List Move)) (n : ℕ) (remarks : List Remark)
    → AreRemarks g tree n p [] remarks → (r : Remark) → Member r remarks → HasTexts g p r

-- each end on the tree of a movetext has a number of moves within which the attacker wins
abbrev pub EndsHaveNumbers : Type 0
EndsHaveNumbers = (g : Geometry) → IsBoard g → (p : Placement) (text : List ℕ) (tree : List (List Move))
    → IsTree g p text tree → (n : ℕ) (remarks : List Remark) → AreRemarks g tree n p [] remarks
    → (b : List Move) (wins_in : Option ℕ) → Member (ends b wins_in) remarks → IsSome wins_in

-- a remark is about a fault: a move fails, or a path ends too soon
abbrev pub IsFault : Remark → Type 0
IsFault (fails b m r) = Unit {0}
IsFault (also b keys) = ⊥
IsFault (leaves_open b replies) = ⊥
IsFault (ends b wins_in) = Unit {0}

-- a complete path of a tree: the tree has no path with one move more
abbrev pub IsWholePath : List (List Move) → List Move → Type 0
IsWholePath tree path = Member path tree × ((m : Move) → Member (path ++ m ∷ []) tree → ⊥)

-- The remarks on the tree of a movetext are free of faults exactly if each of its complete paths is a line. There is no
-- remark at all exactly if these are all the lines.
pub record SolutionsHold : Type 0 where
  pub lines : (g : Geometry) → IsBoard g → (p : Placement) (text : List ℕ) (tree : List (List Move))
      → IsTree g p text tree → (n : ℕ) (remarks : List Remark) → AreRemarks g tree n p [] remarks
      → ((r : Remark) → Member r remarks → IsFault r → ⊥)
      ↔ ((path : List Move) → IsWholePath tree path → Line g p n path)
  pub all : (g : Geometry) → IsBoard g → (p : Placement) (text : List ℕ) (tree : List (List Move))
      → IsTree g p text tree → (n : ℕ) (remarks : List Remark) → AreRemarks g tree n p [] remarks
      → (remarks ≡ []) ↔ ((path : List Move) → IsWholePath tree path ↔ Line g p n path)
