-- The texts that a page is made of: its head, the parts of its problems, their solutions, and its end.
use Rattle.std.specs.Prelude.{◌≡◌, ◌++◌, ◌∷◌, ℕ, Bool, List, [], Option, Some, None, codes, decimal}
use Rattle.std.specs.Prelude.{filter_map, if◌then◌else◌, option_map}
use Rattle.std.specs.List.{join_by}
use Rattle.dw_board.specs.Geometry.{Geometry}
use Rattle.dw_board.specs.Placement.{Placement}
use Rattle.dw_board.specs.declared.piece.Side.{Side}
use Rattle.dw_page.specs.Drawing.{drawing}
use Rattle.dw_page.specs.Escaping.{shown_bytes, stands_for}
use Rattle.dw_page.specs.Pictures.{pictures}
use Rattle.dw_page.specs.SolutionMoves.{AreMovesShown}
use Rattle.dw_page.specs.Words.{stipulation, moves, phrase, tag}
use Rattle.dw_page.specs.declared.page.Heading.{Heading}
use Rattle.dw_page.specs.declared.page.TheConstants.{POLICY}
use Rattle.dw_page.specs.declared.script.TheConstants.{SCRIPT}
use Rattle.dw_page.specs.declared.style.TheConstants.{STYLE}
use Rattle.dw_page.specs.declared.words.Language.{Language}
use Rattle.dw_page.specs.declared.words.Phrase.TheVariants as phrases
use Rattle.dw_solution.specs.FirstLines.{LinesFrom}

-- the texts that are always the same: the policy of the page, its style and its script
unfoldable pub policy : List ℕ
policy = POLICY.now

unfoldable pub style : List ℕ
style = STYLE.now

unfoldable pub script : List ℕ
script = SCRIPT.now

-- the front of a page, up to its title
unfoldable pub front : Language → List ℕ
front language =
    codes "<!DOCTYPE html>\n<html lang=\"" ++ (tag language ++ (codes "\">\n<head>\n<meta charset=\"utf-8\">\n"
    ++ (codes "<meta name=\"viewport\" content=\"width=device-width, initial-scale=1\">\n"
    ++ (codes "<meta http-equiv=\"Content-Security-Policy\" content=\"" ++ (policy ++ codes "\">\n<title>")))))

-- the style, between the title of the window and the one that is read in the page
unfoldable pub styled : List ℕ
styled = codes "</title>\n<style>" ++ (style ++ codes "</style>\n</head>\n<body>\n<h1>")

-- the head of a page, with its title escaped, up to its first problem
unfoldable pub head : Geometry → Language → (title : List ℕ) → List ℕ
head g language title =
    front language ++ (stands_for title ++ (styled ++ (stands_for title ++ (codes "</h1>\n" ++ (pictures g
    ++ codes "<main class=\"sheet\">\n")))))

-- the text after the number of a problem: its author, if a tag names one
abbrev pub author : Option (List ℕ) → List ℕ
author None = []
author (Some name) = codes " " ++ shown_bytes name

-- the values of tags that say where and when a problem was published, with commas between them
unfoldable pub source : List (List ℕ) → List ℕ
source values = join_by shown_bytes (codes ", ") values

-- the number of a problem as a heading, up to its author
unfoldable pub numbered : ℕ → List ℕ
numbered number =
    codes "<section class=\"problem\" id=\"p" ++ (decimal number ++ (codes "\">\n<h2>" ++ (decimal number
    ++ codes ".")))

-- how a problem begins: its number and its tags, escaped
unfoldable pub begin : ℕ → Option (List ℕ) → List (List ℕ) → List ℕ
begin number name values =
    numbered number ++ (author name ++ (codes "</h2>\n<p class=\"tags\">" ++ (source values ++ codes "</p>\n")))

-- the author of a heading, and the values of its source that there are
abbrev pub author_of : Heading → Option (List ℕ)
author_of heading = option_map (λ v. v.now) heading.author

abbrev pub values_of : Heading → List (List ℕ)
values_of heading = filter_map (option_map (λ v. v.now)) heading.source

-- the task: the side that is to play and win, and the number of moves
unfoldable pub task : Language → Side → ℕ → List ℕ
task language side n =
    codes "\n<p class=\"task\">" ++ (stipulation language side ++ (decimal n ++ (moves language n ++ codes "</p>\n")))

-- a problem up to its task: its number and its tags, the diagram of its position, and the task
unfoldable pub problem : Geometry → Language → (numbers : Bool) → ℕ → Option (List ℕ) → List (List ℕ) → Placement
    → (n : ℕ) → List ℕ
problem g language numbers number name values p n =
    begin number name values ++ (drawing g p numbers ++ task language p.turn n)

-- how a problem ends
abbrev pub end_of_problem : List ℕ
end_of_problem = codes "</section>\n"

-- the reason why a problem is refused
unfoldable pub refusal : Language → (reason : List ℕ) → List ℕ
refusal language reason =
    codes "<p class=\"refused\">" ++ (phrase language phrases.Refused ++ (codes ": " ++ (stands_for reason
    ++ codes "</p>\n")))

-- a problem that is refused, with the reason
unfoldable pub refused : Language → ℕ → (reason : List ℕ) → List ℕ
refused language number reason = begin number None [] ++ (refusal language reason ++ end_of_problem)

-- how the solution of a problem begins: with its number, if it stands apart
unfoldable pub solution_begin : ℕ → (is_apart : Bool) → List ℕ
solution_begin number is_apart =
    codes "<div class=\"solution\" data-of=\"p" ++ (decimal number ++ (codes "\">\n"
    ++ (if is_apart then codes "<h2>" ++ (decimal number ++ codes ".</h2>\n") else [])))

-- a verdict
unfoldable pub verdict_row : List ℕ → List ℕ
verdict_row verdict = codes "<p>" ++ (stands_for verdict ++ codes "</p>\n")

-- a try, as an element
abbrev pub try_shown : List ℕ → List ℕ
try_shown text = codes "<span class=\"try\">" ++ (stands_for text ++ codes "</span>")

-- the tries, if there are any
unfoldable pub tries_row : Language → List (List ℕ) → List ℕ
tries_row language [] = []
tries_row language (t ∷ tries) =
    codes "<p class=\"tries\">" ++ (phrase language phrases.Tries ++ (codes ": "
    ++ (join_by try_shown (codes "; ") (t ∷ tries) ++ codes "</p>\n")))

-- the moves of a solution
unfoldable pub moves_row : Language → (shown : List ℕ) → List ℕ
moves_row language shown =
    codes "<p>" ++ (phrase language phrases.Solution ++ (codes ": <span class=\"moves\">" ++ (shown
    ++ codes "</span></p>\n</div>\n")))

-- The solution of a problem: its verdict, its tries, and the moves of its first lines, given their number, each with
-- the position after it.
pub record IsSolutionShown (g : Geometry) (language : Language) (number : ℕ) (is_apart : Bool) (verdict : List ℕ)
    (tries : List (List ℕ)) (first : LinesFrom) (many : ℕ) (text : List ℕ) : Type 0 where
  pub shown : List ℕ
  pub are_moves : AreMovesShown g (phrase language phrases.More) first many shown
  pub is : text ≡ solution_begin number is_apart ++ (verdict_row verdict ++ (tries_row language tries
      ++ moves_row language shown))

-- the heading of the solutions that stand at the end
unfoldable pub solutions_heading : Language → List ℕ
solutions_heading language =
    codes "</main>\n<section class=\"solutions\">\n<h1>" ++ (phrase language phrases.Solutions ++ codes "</h1>\n")

-- the end of a page
unfoldable pub end : List ℕ
end = codes "</main>\n<script>" ++ (script ++ codes "</script>\n</body>\n</html>\n")
