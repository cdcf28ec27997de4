-- The problems that repeat an earlier one, as `same` writes them.
use Rattle.std.specs.Prelude.{◌≡◌, ◌+◌, ◌≤◌, ◌++◌, ◌∷◌, ◌||◌, ℕ, Bool, List, [], Option, Some, None, Ok, Err, flat_map}
use Rattle.std.specs.Prelude.{if◌then◌else◌, is_err, is_ok, is_some, length, map}
use Rattle.std.specs.List.{count_by}
use Rattle.dw_board.specs.Geometry.{Geometry}
use Rattle.dw_board.specs.Placement.{Placement}
use Rattle.dw_arguments.specs.declared.portion.Portion.{Portion}
use Rattle.dw_arguments.specs.declared.same.SameArgs.{SameArgs}
use Rattle.dw_desk_commands.specs.ProblemText.{refused_text}
use Rattle.dw_desk_commands.specs.declared.desk.Counts.{Counts}
use Rattle.dw_games.specs.Games.{NumberedGame, problem_of}
use Rattle.dw_notation.specs.TextLines.{Found}
use Rattle.dw_notation.specs.declared.problems.TheConstants.{MAX_PROBLEMS}
use Rattle.dw_same.specs.RepeatText as texts
use Rattle.dw_same.specs.Repeats.{IsFirstSame, Noted}
use Rattle.dw_same.specs.declared.index.Repeat.{Repeat}

-- the problem of a game as one to compare with, unless it is refused
abbrev pub noted : (number : ℕ) → Found → List Noted
noted number (Ok p) = record { number = number; position = p } ∷ []
noted number (Err fault) = []

-- the problems of games that have a position
abbrev pub all_noted : List NumberedGame → List Noted
all_noted games = flat_map (λ game. noted game.number game.said.found) games

-- a problem of a game, and how it repeats an earlier one, if it does
pub record Compared : Type 0 where
  pub game : NumberedGame
  pub repeat : Option Repeat

-- whether a problem has a position
abbrev pub has_position : Compared → Bool
has_position problem = is_ok problem.game.said.found

-- whether a problem repeats an earlier one
abbrev pub is_repeated : Compared → Bool
is_repeated problem = is_some problem.repeat

-- whether a problem makes the exit status 1: it is refused, or it repeats an earlier one
abbrev pub is_counted : Compared → Bool
is_counted problem = is_err problem.game.said.found || is_repeated problem

-- the text of a problem: none if it is new
abbrev pub text_of : Geometry → (json : Bool) → (number : ℕ) → Placement → Option Repeat → List ℕ
text_of g json number p None = []
text_of g json number p (Some repeat) = texts.repeat_text g json number p repeat

-- A problem with a position repeats the first of the problems before it that is the same, and its text says so; a
-- refused one repeats none, and its text says why it is refused.
abbrev pub IsCompared : Geometry → (json : Bool) → (before : List Noted) → NumberedGame → Found → Option Repeat
    → List ℕ → Type 0
IsCompared g json before game (Ok p) repeat text =
    IsFirstSame g before p repeat × (text ≡ text_of g json game.number p repeat)
IsCompared g json before game (Err fault) repeat text =
    (repeat ≡ None) × (text ≡ refused_text g json (problem_of game) fault)

-- the texts of problems in turn, each compared with all before it
pub data AreCompared (g : Geometry) (json : Bool) : List Compared → List ℕ → Type 0 where
  none_compared : AreCompared g json [] []
  one_compared : {problems : List Compared} {text : List ℕ} (problem : Compared) (one : List ℕ)
      → AreCompared g json problems text
      → IsCompared g json (all_noted (map (λ c. c.game) problems)) problem.game problem.game.said.found problem.repeat
      one
      → AreCompared g json (problems ++ problem ∷ []) (text ++ one)

-- the last text; if problems were asked for by their numbers and none of them is there, nothing
abbrev pub last_text : (json must_exist : Bool) → List Compared → (repeats positions : ℕ) → List ℕ
last_text json must_exist [] repeats positions =
    if must_exist then [] else texts.count_text json repeats positions
last_text json must_exist (problem ∷ problems) repeats positions = texts.count_text json repeats positions

-- The output for the chosen games: the texts of their problems in turn, and how many of how many positions repeat an
-- earlier problem. The numbers are stated for at most 1,000,001 games, and a text has no more.
pub record IsSameOf (g : Geometry) (query : SameArgs) (portion : Portion) (games : List NumberedGame)
    (counts : Counts) (text : List ℕ) : Type 0 where
  pub problems : List Compared
  pub are : games ≡ map (λ c. c.game) problems
  pub texts : List ℕ
  pub each : AreCompared g query.json problems texts
  pub repeats : ℕ
  pub positions : ℕ
  pub repeated : length problems ≤ MAX_PROBLEMS + 1 → repeats ≡ count_by is_repeated problems
  pub known : length problems ≤ MAX_PROBLEMS + 1 → positions ≡ count_by has_position problems
  pub shown : length problems ≤ MAX_PROBLEMS + 1 → counts.shown ≡ length problems
  pub refused : length problems ≤ MAX_PROBLEMS + 1 → counts.refused ≡ count_by is_counted problems
  pub is : text ≡ texts ++ last_text query.json portion.must_exist problems repeats positions

-- The part of the output that a stop leaves: the texts of some first problems.
pub record IsSamePart (g : Geometry) (query : SameArgs) (games : List NumberedGame) (text : List ℕ) : Type 0 where
  pub problems : List Compared
  pub behind : List NumberedGame
  pub are : games ≡ map (λ c. c.game) problems ++ behind
  pub each : AreCompared g query.json problems text
