-- The problems that a command works on, each as a game.
use Rattle.std.specs.Prelude.{◌≡◌, ◌&&◌, ℕ, Bool, true, List, [], Option, Some, None, filter, map, nat_le}
use Rattle.dw_board.specs.Geometry.{Geometry}
use Rattle.dw_arguments.specs.declared.portion.Portion.{Portion}
use Rattle.dw_games.specs.Games.{NumberedGame, AreGames}
use Rattle.dw_notation.specs.Problems.{Numbered, AreProblems}
use Rattle.dw_notation.specs.declared.problems.Form.{Form}
use Rattle.dw_notation.specs.declared.problems.Form.TheVariants.{Fens, Pdn}

-- a problem that has a line to itself, as a game: without tags, and without a movetext
abbrev pub as_game : Numbered → NumberedGame
as_game problem = record {
  number = problem.number;
  said = record { found = problem.found; tags = []; movetext = [] };
}

-- the games of a text whose problems have this form
abbrev pub AreGamesIn : Geometry → Form → (text : List ℕ) → List NumberedGame → Type 0
AreGamesIn g Fens text games =
    (problems : List Numbered) × AreProblems g Fens true text problems × (games ≡ map as_game problems)
AreGamesIn g Pdn text games = AreGames g text games

-- whether a number is not after the last one, if there is a last one
abbrev pub is_up_to : Option ℕ → ℕ → Bool
is_up_to None number = true
is_up_to (Some last) number = nat_le number last

-- whether a number is in a portion, which goes from its first to its last
abbrev pub is_in : Portion → ℕ → Bool
is_in portion number = nat_le portion.first number && is_up_to portion.last number

-- the games of a portion of a text
abbrev pub AreChosen : Geometry → Form → Portion → (text : List ℕ) → List NumberedGame → Type 0
AreChosen g form portion text games =
    (all : List NumberedGame) × AreGamesIn g form text all
    × (games ≡ filter (λ game. is_in portion game.number) all)
