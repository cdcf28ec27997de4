-- The page of problems that `page` writes.
use Rattle.std.specs.Prelude.{◌≡◌, ◌+◌, ◌*◌, ◌≤◌, ◌⊎◌, ◌++◌, ◌∷◌, ℕ, Bool, true, false, List, [], Option, Some, None}
use Rattle.std.specs.Prelude.{Ok, Err, All, codes, decimal, filter_map, flat_map, if◌then◌else◌, length, map}
use Rattle.std.specs.Prelude.{nat_lt}
use Rattle.std.specs.List.{count_by, join_by}
use Rattle.dw_board.specs.Geometry.{Geometry}
use Rattle.dw_board.specs.Placement.{Placement}
use Rattle.dw_desk_commands.specs.Solution.{IsMovetextOf}
use Rattle.dw_desk_commands.specs.declared.desk.Counts.{Counts}
use Rattle.dw_arguments.specs.declared.page.PageArgs.{PageArgs}
use Rattle.dw_arguments.specs.declared.choices.PageLanguage.{PageLanguage}
use Rattle.dw_arguments.specs.declared.choices.PageLanguage.TheVariants as asks
use Rattle.dw_arguments.specs.declared.choices.PageTries.{PageTries}
use Rattle.dw_arguments.specs.declared.choices.PageTries.TheVariants.{All as AllTries, None as NoTries}
use Rattle.dw_arguments.specs.declared.choices.Placing.{Placing}
use Rattle.dw_arguments.specs.declared.choices.Placing.TheVariants.{After, End, None as Nowhere}
use Rattle.dw_arguments.specs.declared.portion.Portion.{Portion}
use Rattle.dw_games.specs.Games.{NumberedGame}
use Rattle.dw_games.specs.TagRows.{TagText, AreTags}
use Rattle.dw_moves.specs.Moves.{Move}
use Rattle.dw_notation.specs.Tags.{Tag, values_named}
use Rattle.dw_notation.specs.TextLines.{Found}
use Rattle.dw_notation.specs.declared.problems.TheConstants.{MAX_PROBLEMS}
use Rattle.dw_page.specs.Pages.{IsSolutionShown, end, end_of_problem, head, problem, refused, solutions_heading}
use Rattle.dw_page.specs.Words.{moves, phrase}
use Rattle.dw_page.specs.declared.words.Language.{Language}
use Rattle.dw_page.specs.declared.words.Language.TheVariants.{English, Dutch, French, Russian}
use Rattle.dw_page.specs.declared.words.Phrase.TheVariants as phrases
use Rattle.dw_report.specs.MoveTexts.{AreChoices, AreKeyTexts, AreTryTexts}
use Rattle.dw_report.specs.Refusals.{refusal_text}
use Rattle.dw_solution.specs.FirstLines.{LinesFrom}
use Rattle.dw_solution.specs.declared.heading.Heading.{Heading}
use Rattle.dw_verdict.specs.Verdict.{IsVerdict, Tries, Verdict, cooked, dual, sound, unsolvable}
use Rattle.dw_study.specs.Finding.{IsNumberFor}

-- the language of a page, given the requested one
abbrev pub language_for : PageLanguage → Language
language_for asks.English = English
language_for asks.Dutch = Dutch
language_for asks.French = French
language_for asks.Russian = Russian

-- the first of some values, if there is one
abbrev pub first_of : List (List ℕ) → Option (List ℕ)
first_of [] = None
first_of (value ∷ values) = Some value

-- the value of the first tag of a name, if there is one
abbrev pub value : (name : List ℕ) → List Tag → Option (List ℕ)
value name tags = first_of (values_named name tags)

-- where and when a problem was published: the values of these tags that there are
abbrev pub source : List Tag → List (List ℕ)
source tags = filter_map (λ v. v)
    (value (codes "Event") tags ∷ value (codes "Site") tags ∷ value (codes "Date") tags ∷ [])

-- texts with commas between them
abbrev pub listed : List (List ℕ) → List ℕ
listed texts = join_by (λ t. t) (codes ", ") texts

-- the text that says that there is a win in fewer moves, if there is one
abbrev pub shorter : Language → (n shortest : ℕ) → List ℕ
shorter language n shortest =
    if nat_lt shortest n then codes " (" ++ (phrase language phrases.Shorter ++ (decimal shortest
    ++ (moves language shortest ++ codes ")")))
    else []

-- A verdict within n moves, in words: how many moves are too few for a win; or the keys, for a cooked problem with the
-- least number of moves if there is a win in fewer; or the line up to a choice, and the choices at that move.
abbrev pub IsVerdictRow : Geometry → Language → Placement → (n : ℕ) → Verdict → List ℕ → Type 0
IsVerdictRow g language p n unsolvable text =
    text ≡ phrase language phrases.NoWin ++ (decimal n ++ moves language n)
IsVerdictRow g language p n (sound key) text = (keys : List (List ℕ)) × AreKeyTexts g p n keys
    × (text ≡ phrase language phrases.Sound ++ (codes ": " ++ listed keys))
IsVerdictRow g language p n (cooked shortest moves) text = (keys : List (List ℕ)) × AreKeyTexts g p n keys
    × (text ≡ phrase language phrases.Cooked ++ (codes ": " ++ (listed keys ++ shorter language n shortest)))
IsVerdictRow g language p n (dual beginning choices) text =
    (turns : ℕ) × (line : List ℕ) × (texts : List (List ℕ)) × (length beginning ≡ 2 * turns)
    × AreChoices g p beginning choices line texts
    × (text ≡ phrase language phrases.Dual ++ (codes ": " ++ (line ++ (codes " " ++ (decimal (turns + 1)
    ++ (codes ". " ++ join_by (λ t. t) (codes " / ") texts))))))

-- a try with the reply that refutes it
abbrev pub try_row : List ℕ × List ℕ → List ℕ
try_row t = t.0 ++ (codes "? " ++ t.1)

-- all tries, each with the reply that refutes it
abbrev pub AreTryRows : Geometry → Placement → List (Move × Move) → List (List ℕ) → Type 0
AreTryRows g p tries rows =
    (texts : List (List ℕ × List ℕ)) × AreTryTexts g p tries texts × (rows ≡ map try_row texts)

-- the rows of the tries that are to be shown
abbrev pub AreRowsShown : Geometry → PageTries → Placement → List (Move × Move) → List (List ℕ) → Type 0
AreRowsShown g AllTries p tries rows = AreTryRows g p tries rows
AreRowsShown g NoTries p tries rows = rows ≡ []

-- The solution of a problem within n moves: its verdict and its tries in words, and its first lines. These are as many
-- as `solution` writes in a movetext: those that are asked for, or as many of them as fit in 1,000,000 bytes.
pub record IsSolved (g : Geometry) (language : Language) (lines : ℕ) (which : PageTries) (number : ℕ) (p : Placement)
    (n : ℕ) (is_apart : Bool) (text : List ℕ) : Type 0 where
  pub verdict : Verdict
  pub is_verdict : IsVerdict g p n verdict
  pub row : List ℕ
  pub says : IsVerdictRow g language p n verdict row
  pub tries : List (Move × Move)
  pub are_tries : Tries g p n tries
  pub rows : List (List ℕ)
  pub say : AreRowsShown g which p tries rows
  pub heading : Heading
  pub first : LinesFrom
  pub many : ℕ
  pub movetext : List ℕ
  pub is_solution : IsMovetextOf g p n lines heading first many movetext
  pub shown : IsSolutionShown g language number is_apart row rows first many text

-- a solution follows its problem, or is apart at the end, or is left out
abbrev pub Stands : Placing → (Says : (is_apart : Bool) → List ℕ → Type 0) → (behind later : List ℕ) → Type 0
Stands After Says behind later = Says false behind × (later ≡ [])
Stands End Says behind later = (behind ≡ []) × Says true later
Stands Nowhere Says behind later = (behind ≡ []) × (later ≡ [])

-- the number of moves of a problem: the least with a win up to the given number, or that number
abbrev pub HasMoves : Geometry → PageArgs → Placement → ℕ → Type 0
HasMoves g query p n = IsNumberFor g p query.is_least query.moves.value n

-- a problem up to its task: its number and tags, its diagram, and the task
abbrev pub task_part : Geometry → PageArgs → (number : ℕ) → Placement → List Tag → (n : ℕ) → List ℕ
task_part g query number p tags n =
    problem g (language_for query.language) query.numbers number (value (codes "White") tags) (source tags) p n

-- The part of a page for a position, and its later part: its number, its tags, its diagram and its task, and the
-- solution in its place.
pub record IsPositionPart (g : Geometry) (query : PageArgs) (number : ℕ) (p : Placement) (section part later : List ℕ)
    : Type 0 where
  pub tags : List TagText
  pub are_tags : AreTags section tags
  pub n : ℕ
  pub in_moves : HasMoves g query p n
  pub behind : List ℕ
  pub solution : Stands query.solutions (IsSolved g (language_for query.language) query.lines query.tries number p n)
      behind later
  pub is : part ≡ task_part g query number p (map (λ t. t.tag) tags) n ++ (behind ++ end_of_problem)

-- the part of a page for a problem, and its later part; a refused problem has the reason
abbrev pub IsPart : Geometry → PageArgs → (number : ℕ) → Found → (section : List ℕ) → (refused : Bool)
    → (part later : List ℕ) → Type 0
IsPart g query number (Ok p) section is_refused part later =
    (is_refused ≡ false) × IsPositionPart g query number p section part later
IsPart g query number (Err fault) section is_refused part later =
    (is_refused ≡ true) × (part ≡ refused (language_for query.language) number (refusal_text fault)) × (later ≡ [])

-- a game on a page: whether it counts as refused, its part, and its later part
pub record Shown : Type 0 where
  pub game : NumberedGame
  pub is_refused : Bool
  pub part : List ℕ
  pub later : List ℕ

-- a game is shown as the request says
abbrev pub IsShownIn : Geometry → PageArgs → Shown → Type 0
IsShownIn g query s =
    IsPart g query s.game.number s.game.said.found s.game.said.tags s.is_refused s.part s.later

-- the heading of the solutions, if they stand at the end
abbrev pub heading_of : Placing → Language → List ℕ
heading_of After language = []
heading_of End language = solutions_heading language
heading_of Nowhere language = []

-- A page of some games: its head, the part of each game in turn, their later parts, and its end; the number of games,
-- and how many count as refused. The numbers are stated for at most 1,000,001 games, and a text has no more.
pub record IsPage (g : Geometry) (query : PageArgs) (games : List NumberedGame) (counts : Counts) (text : List ℕ)
    : Type 0 where
  pub games_shown : List Shown
  pub are : games ≡ map (λ s. s.game) games_shown
  pub each : All (IsShownIn g query) games_shown
  pub shown : length games_shown ≤ MAX_PROBLEMS + 1 → counts.shown ≡ length games_shown
  pub refused : length games_shown ≤ MAX_PROBLEMS + 1 → counts.refused ≡ count_by (λ s. s.is_refused) games_shown
  pub is : text ≡ head g (language_for query.language) query.title.now ++ (flat_map (λ s. s.part) games_shown
      ++ (heading_of query.solutions (language_for query.language) ++ (flat_map (λ s. s.later) games_shown ++ end)))

-- The page of the chosen games. If problems were asked for by their numbers, and none of them is there, nothing is
-- written.
abbrev pub IsPageOf : Geometry → PageArgs → Portion → List NumberedGame → Counts → List ℕ → Type 0
IsPageOf g query portion games counts text =
    (IsPage g query games counts text × (games ≡ [] → portion.must_exist ≡ false))
    ⊎ ((games ≡ []) × (portion.must_exist ≡ true) × (counts.shown ≡ 0) × (counts.refused ≡ 0) × (text ≡ []))

-- The part of a page that a stop leaves: its head, and the part of each of some first games.
pub record IsPagePart (g : Geometry) (query : PageArgs) (games : List NumberedGame) (text : List ℕ) : Type 0 where
  pub games_shown : List Shown
  pub behind : List NumberedGame
  pub are : games ≡ map (λ s. s.game) games_shown ++ behind
  pub each : All (IsShownIn g query) games_shown
  pub is : text ≡ head g (language_for query.language) query.title.now ++ flat_map (λ s. s.part) games_shown

-- nothing, or a part of the page
abbrev pub IsPageStop : Geometry → PageArgs → List NumberedGame → List ℕ → Type 0
IsPageStop g query games text = (text ≡ []) ⊎ IsPagePart g query games text
