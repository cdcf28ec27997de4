-- What the games of a text say are its problems.
use Rattle.std.proofs.Common.{◌≡◌, ◌==◌, ◌+◌, ℕ, List, [], ◌∷◌, true, map, nat_lt, refl, ap, ◌∙◌, inl, inr}
use Rattle.std.proofs.lemmas.Bool.{cases_Bool}
use Rattle.dw_board.specs.Geometry.{Geometry}
use Rattle.dw_notation.specs.TextLines.{Found}
use Rattle.dw_notation.specs.Problems.{number_from}
use Rattle.dw_notation.specs.WholeTexts.{SectionsSay}
use Rattle.dw_notation.specs.WholeTexts.SectionsSay.{nothing, other, comment, last_comment, section, last_section}
use Rattle.dw_games.specs.Games.{Said, HasGames, games_from, problem_of}
use Rattle.dw_games.specs.Games.HasGames.{nothing as no_games, other as no_section, comment as no_comment}
use Rattle.dw_games.specs.Games.HasGames.{last_comment as open_comment, section as with_section}
use Rattle.dw_games.specs.Games.HasGames.{last_section as with_last}
use Rattle.dw_games.specs.GameLaws.{GamesSayProblems}

abbrev found_in : List Said → List Found
found_in said = map (λ (s : Said). s.found) said

pub says_of : (g : Geometry) {text front : List ℕ} {said : List Said} → HasGames g text front said
    → SectionsSay g true text (found_in said)
says_of g no_games = nothing
says_of g (no_section byte neither has) = other byte neither (says_of g has)
says_of g (no_comment text is has) = comment text is (says_of g has)
says_of g (open_comment text is) = last_comment text is
says_of g (with_section text gap byte found is spaces ends says has) =
    section text gap byte found is spaces ends says (says_of g has)
says_of g (with_last text gap found is spaces says) = last_section text gap found is spaces says

numbers_of : (handed : ℕ) (said : List Said) → map problem_of (games_from handed said)
    ≡ number_from handed (found_in said)
numbers_of handed [] = refl
numbers_of handed (x ∷ said) = elim (cases_Bool (nat_lt handed 1000000)) [
  | inl less ↦ rw less (ap (λ l. record { number = handed + 1; found = x.found } ∷ l) (numbers_of (handed + 1) said))
  | inr more ↦ elim (cases_Bool (handed == 1000000)) [
    | inl full ↦ rw (more, full) refl
    | inr over ↦ rw (more, over) refl
  ]
]

pub games_say_problems : GamesSayProblems
games_say_problems g bytes games are = record {
  found = found_in are.said;
  said = says_of g are.has;
  numbers = ap (map problem_of) are.numbers ∙ numbers_of 0 are.said;
}
