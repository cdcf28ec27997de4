-- The output of `check` for the solution of a game.
use Rattle.std.specs.Prelude.{◌≡◌, ◌==◌, ◌&&◌, ◌⊎◌, ◌++◌, if◌then◌else◌, Bool, ℕ, List, [], Option, Some, None, codes}
use Rattle.std.specs.Prelude.{decimal, max, true, false, not}
use Rattle.std.specs.List.{count_by}
use Rattle.dw_board.specs.Geometry.{Geometry}
use Rattle.dw_board.specs.Placement.{Placement}
use Rattle.dw_moves.specs.Moves.{Move}
use Rattle.dw_solve.specs.Wins.{Win}
use Rattle.dw_games.specs.Faults.{IsFirstFault, name_of, number_of}
use Rattle.dw_games.specs.Games.{NumberedGame, problem_of}
use Rattle.dw_games.specs.Movetext.{IsTree}
use Rattle.dw_games.specs.declared.fault.MovetextFaultKind.{MovetextFaultKind}
use Rattle.dw_study.specs.Finding.{IsNumberFor}
use Rattle.dw_study.specs.RemarkText.{IsRemarkText}
use Rattle.dw_study.specs.Remarks.{Remark, fails, also, leaves_open, ends, AreRemarks}
use Rattle.dw_study.specs.Turns.{HasTurns}
use Rattle.dw_stipulation.specs.declared.MoveCount.{MoveCount}
use Rattle.dw_arguments.specs.declared.check.CheckArgs.{CheckArgs}
use Rattle.dw_desk_commands.specs.ProblemText.{AreTexts, refused_text}
use Rattle.dw_notation.specs.Problems.{Numbered}
use Rattle.dw_notation.specs.TextLines.{Found}
use Rattle.dw_report.specs.Report.{first_line}
use Rattle.dw_rows.specs.CheckRow.{IsCheckedRow, refused_solution_row}
use Rattle.dw_rows.specs.declared.checked.CheckNumbers.{CheckNumbers}
use Rattle.std.specs.Prelude.{Ok, Err, IsTrue, MatchBool, ◌↔◌, ◌∷◌}

-- numbers of remarks, one for each kind
pub record Counted : Type 0 where
  pub that_fail : ℕ
  pub that_end : ℕ
  pub left_open : ℕ
  pub left_out : ℕ

-- whether a remark is on a move that fails
abbrev pub is_fail : Remark → Bool
is_fail (fails beginning move reply) = true
is_fail other = false

-- whether a remark is on an end that comes too soon
abbrev pub is_end : Remark → Bool
is_end (ends beginning wins_in) = true
is_end other = false

-- whether a remark is on replies that are left open
abbrev pub is_open : Remark → Bool
is_open (leaves_open beginning replies) = true
is_open other = false

-- whether a remark is on keys that are left out
abbrev pub is_also : Remark → Bool
is_also (also beginning keys) = true
is_also other = false

-- the numbers of remarks of each kind
abbrev pub counted : List Remark → Counted
counted remarks = record {
  that_fail = count_by is_fail remarks;
  that_end = count_by is_end remarks;
  left_open = count_by is_open remarks;
  left_out = count_by is_also remarks;
}

-- a solution holds: no move of it fails, and no path of it ends too soon
abbrev pub holds : Counted → Bool
holds c = (c.that_fail == 0) && (c.that_end == 0)

-- the last line on a solution: whether it holds, and the numbers of remarks
abbrev pub last_line : ℕ → Counted → List ℕ
last_line n c =
    (if holds c then codes "holds" else codes "fails") ++ (codes " in " ++ (decimal n ++ (codes ": "
    ++ (decimal c.that_fail ++ (codes " fail, " ++ (decimal c.that_end ++ (codes " end, " ++ (decimal c.left_open
    ++ (codes " open, " ++ (decimal c.left_out ++ codes " also\n"))))))))))

-- the line that says that there is no win
abbrev pub no_win_line : ℕ → List ℕ
no_win_line n = codes "no win in " ++ (decimal n ++ codes "\n")

-- the line that there is no win, or nothing if there is one
abbrev pub IsWinLine : Geometry → Placement → ℕ → List ℕ → Type 0
IsWinLine g p n line = (Win g p n × (line ≡ [])) ⊎ ((Win g p n → ⊥) × (line ≡ no_win_line n))

-- The text on a solution within n moves: the first line of the problem; the line that there is no win, if so; the
-- remarks in turn; and the last line.
pub record IsCheckedText (g : Geometry) (problem : Numbered) (p : Placement) (n : ℕ) (remarks : List Remark)
    (text : List ℕ) : Type 0 where
  pub line : List ℕ
  pub win : IsWinLine g p n line
  pub told : List ℕ
  pub texts : AreTexts (IsRemarkText g p) remarks told
  pub is : text ≡ first_line g problem ++ (line ++ (told ++ last_line n (counted remarks)))

-- the counts of a solution's remarks, in a row of JSON
abbrev pub numbers_of : (wins : Bool) → Counted → CheckNumbers
numbers_of wins c = record {
  wins = wins;
  holds = holds c;
  fail = c.that_fail;
  end = c.that_end;
  «open» = c.left_open;
  also = c.left_out;
}

-- the row of JSON on a solution within n moves
abbrev pub IsCheckedLine : Geometry → (problem : ℕ) → Placement → (n : ℕ) → List Remark → List ℕ → Type 0
IsCheckedLine g problem p n remarks text = (wins : Bool) × (IsTrue wins ↔ Win g p n)
    × IsCheckedRow g problem p n (numbers_of wins (counted remarks)) remarks text

-- whether there is no remark
abbrev pub is_none : List Remark → Bool
is_none [] = true
is_none (r ∷ remarks) = false

-- The output for a solution with these remarks: with --faults nothing if there is none; else a row or words. The game
-- counts as refused if the solution does not hold.
abbrev pub IsChecked : Geometry → CheckArgs → Numbered → Placement → (n : ℕ) → List Remark → (refused : Bool) → List ℕ
    → Type 0
IsChecked g query problem p n remarks refused text = (refused ≡ not (holds (counted remarks)))
    × MatchBool (query.faults && is_none remarks) (text ≡ [])
    (MatchBool query.json (IsCheckedLine g problem.number p n remarks text) (IsCheckedText g problem p n remarks text))

-- the number of moves within which a tree is checked: the number that is asked for, or the least up to it with a win;
-- or else as many as the tree has, but at least 1
abbrev pub IsCheckedAt : Geometry → Placement → (asked : Option MoveCount) → (is_least : Bool) → List (List Move) → ℕ
    → Type 0
IsCheckedAt g p (Some moves) is_least tree n = IsNumberFor g p is_least moves.value n
IsCheckedAt g p None is_least tree n = (turns : ℕ) × HasTurns tree turns × (n ≡ max turns 1)

-- the line that names the fault of a movetext, and its place
abbrev pub solution_fault_line : MovetextFaultKind → (place : ℕ) → List ℕ
solution_fault_line what place =
    codes "solution refused: " ++ (decimal (number_of what) ++ (codes " " ++ (name_of what ++ (codes " at "
    ++ (decimal place ++ codes "\n")))))

-- the output for a refused solution
abbrev pub fault_text : Geometry → (json : Bool) → Numbered → Placement → MovetextFaultKind → (place : ℕ) → List ℕ
fault_text g json problem p what place =
    if json then refused_solution_row g problem.number p what place
    else first_line g problem ++ solution_fault_line what place

-- The output for a problem with this movetext. It counts as refused if the problem or the movetext is refused, or if
-- the solution does not hold.
abbrev pub IsCheckFor : Geometry → CheckArgs → Numbered → (movetext : List ℕ) → Found → (refused : Bool) → List ℕ
    → Type 0
IsCheckFor g query problem movetext (Ok p) refused text =
    ((tree : List (List Move)) × (n : ℕ) × (remarks : List Remark) × IsTree g p movetext tree
    × IsCheckedAt g p query.moves query.is_least tree n × AreRemarks g tree n p [] remarks
    × IsChecked g query problem p n remarks refused text)
    ⊎ ((what : MovetextFaultKind) × (place : ℕ) × IsFirstFault g p movetext what place
    × (text ≡ fault_text g query.json problem p what place) × (refused ≡ true))
IsCheckFor g query problem movetext (Err fault) refused text =
    (text ≡ refused_text g query.json problem fault) × (refused ≡ true)

-- the output for a game
abbrev pub IsCheckOf : Geometry → CheckArgs → NumberedGame → (refused : Bool) → List ℕ → Type 0
IsCheckOf g query game refused text =
    IsCheckFor g query (problem_of game) game.said.movetext game.said.found refused text
