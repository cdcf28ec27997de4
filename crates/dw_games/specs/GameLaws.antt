-- Laws of the games of a text.
use Rattle.std.specs.Prelude.{◌≡◌, ℕ, List, length, true, false, map, Ok, Result}
use Rattle.dw_board.specs.Geometry.{Geometry}
use Rattle.dw_board.specs.Placement.{Placement}
use Rattle.dw_board.specs.Lists.{Member}
use Rattle.dw_notation.specs.Tags.{Tag, IsSection, SectionSays}
use Rattle.dw_notation.specs.Problems.{AreProblems}
use Rattle.dw_notation.specs.declared.problems.Form.TheVariants.{Pdn}
use Rattle.dw_games.specs.Faults.{IsAnswer}
use Rattle.dw_games.specs.Walk.{PlayedTree}
use Rattle.dw_games.specs.Games.{NumberedGame, AreGames, problem_of, told}
use Rattle.dw_games.specs.declared.fault.MovetextFault.{MovetextFault}

-- the games of a text have its problems, under the same numbers
abbrev pub GamesSayProblems : Type 0
GamesSayProblems = (g : Geometry) (bytes : List ℕ) (games : List NumberedGame) → AreGames g bytes games
    → AreProblems g Pdn true bytes (map problem_of games)

-- each text has its games, and no others
pub record TextsHaveGames : Type 0 where
  pub some : (g : Geometry) (bytes : List ℕ) → (games : List NumberedGame) × AreGames g bytes games
  pub only : (g : Geometry) (bytes : List ℕ) (games others : List NumberedGame) → AreGames g bytes games
      → AreGames g bytes others → games ≡ others

-- a section of whole tags that says a position
pub record SaysPosition (g : Geometry) (position : Placement) (text : List ℕ) : Type 0 where
  pub tags : List Tag
  pub is : IsSection text tags false false
  pub says : SectionSays g (length text) false tags (Ok position)

-- the tags of a game with a position are the section that has it
abbrev pub GamesTellSections : Type 0
GamesTellSections = (g : Geometry) (bytes : List ℕ) (games : List NumberedGame) (game : NumberedGame)
    (position : Placement) → AreGames g bytes games → Member game games → game.said.found ≡ Ok position
    → SaysPosition g position game.said.tags

-- the kept part of a movetext is read like the whole
abbrev pub PrefixIsEnough : Type 0
PrefixIsEnough = (g : Geometry) (p : Placement) (movetext : List ℕ) (answer : Result PlayedTree MovetextFault)
    → IsAnswer g p (told (Ok p) movetext) answer → IsAnswer g p movetext answer
