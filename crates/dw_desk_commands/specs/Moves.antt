-- The effect of `moves` on a problem.
use Rattle.std.specs.Prelude.{◌≡◌, ℕ, Bool, true, false, Ok, Err, if◌then◌else◌, List, MatchBool}
use Rattle.dw_arguments.specs.declared.moves.MovesArgs.{MovesArgs}
use Rattle.dw_board.specs.Geometry.{Geometry}
use Rattle.dw_board.specs.Placement.{Placement}
use Rattle.dw_commands.specs.declared.ending.Ending.{Ending}
use Rattle.dw_commands.specs.declared.ending.Ending.TheVariants.{Done, Refused}
use Rattle.dw_report.specs.JsonRows.{refused_row}
use Rattle.dw_desk_commands.specs.ProblemText.{IsProblemText}
use Rattle.dw_first_moves.specs.FirstMoves.{Effect, AreFirstMoves}
use Rattle.dw_first_moves.specs.FirstMovesText.{IsFirstMovesText}
use Rattle.dw_moves.specs.Moves.{Move}
use Rattle.dw_notation.specs.Problems.{Numbered}
use Rattle.dw_notation.specs.TextLines.{Found}
use Rattle.dw_rows.specs.FirstMovesRow.{IsFirstMovesRow}

-- the effects of the first moves of a position, of the part i of m; they never make the problem count as refused
abbrev pub SaysFirstMoves : Geometry → (n i m : ℕ) → Placement → (refused : Bool) → List ℕ → Type 0
SaysFirstMoves g n i m p refused text = (done : List (Move × Effect)) × AreFirstMoves g p n i m done
    × IsFirstMovesText g p done text × (refused ≡ false)

-- the row of JSON for the first moves of a problem, or for a refused problem
abbrev pub IsFirstMovesLine : Geometry → (n i m problem : ℕ) → Found → (refused : Bool) → List ℕ → Type 0
IsFirstMovesLine g n i m problem (Ok p) refused text = (done : List (Move × Effect)) × AreFirstMoves g p n i m done
    × IsFirstMovesRow g problem p n done text × (refused ≡ false)
IsFirstMovesLine g n i m problem (Err fault) refused text = (refused ≡ true) × (text ≡ refused_row problem fault)

-- the output for a problem
abbrev pub IsMovesText : Geometry → MovesArgs → Numbered → (refused : Bool) → List ℕ → Type 0
IsMovesText g query problem refused text = MatchBool query.json
    (IsFirstMovesLine g query.n.value query.part query.parts problem.number problem.found refused text)
    (IsProblemText g (SaysFirstMoves g query.n.value query.part query.parts) problem refused text)

-- the effect of `moves` on a problem
abbrev pub IsMovesOf : {T : Type 0} → Geometry → MovesArgs → Numbered → Ending T → List ℕ → Type 0
IsMovesOf g query problem ending text = (refused : Bool) × IsMovesText g query problem refused text
    × (ending ≡ (if refused then Refused else Done))
