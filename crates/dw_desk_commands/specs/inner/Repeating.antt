-- Problems that are compared with those before them.
use Rattle.std.specs.Prelude.{◌≡◌, ◌++◌, ◌&&◌, ℕ, Bool, true, false, if◌then◌else◌, List, [], Option, Some, None, Ok}
use Rattle.std.specs.Prelude.{Err, nat_eq}
use Rattle.dw_board.specs.Geometry.{Geometry}
use Rattle.dw_desk_commands.specs.Same.{IsCompared, noted}
use Rattle.dw_desk_commands.specs.declared.same.Outcome.{Outcome}
use Rattle.dw_desk_commands.specs.declared.same.Outcome.TheVariants.{New, Refused, Repeated}
use Rattle.dw_desk_commands.specs.declared.same.Tally.{Tally}
use Rattle.dw_games.specs.Games.{NumberedGame}
use Rattle.dw_notation.specs.TextLines.{Found}
use Rattle.dw_same.specs.RepeatText.{count_text}
use Rattle.dw_same.specs.Repeats.{Noted}
use Rattle.dw_same.specs.declared.index.ProblemIndex.{ProblemIndex}
use Rattle.dw_same.specs.declared.index.Repeat.{Repeat}
use Rattle.dw_same.specs.inner.Keys.{AreAdded}

-- what a comparison gave
abbrev pub outcome : Found → Option Repeat → Outcome
outcome (Ok p) None = New
outcome (Ok p) (Some repeat) = Repeated
outcome (Err fault) repeat = Refused

-- whether an outcome is that of a problem with a position
abbrev pub has_position : Outcome → Bool
has_position Refused = false
has_position New = true
has_position Repeated = true

-- whether an outcome is that of a problem that repeats an earlier one
abbrev pub is_repeated : Outcome → Bool
is_repeated Refused = false
is_repeated New = false
is_repeated Repeated = true

-- whether an outcome makes the exit status 1
abbrev pub is_counted : Outcome → Bool
is_counted Refused = true
is_counted New = false
is_counted Repeated = true

-- the last text after these numbers of problems
abbrev pub last_of : (json must_exist : Bool) → Tally → List ℕ
last_of json must_exist tally = if must_exist && nat_eq tally.counts.shown 0 then []
    else count_text json tally.repeats tally.positions

-- a game is compared with the problems of an index, whatever these are
abbrev pub Compares : {B : Type 0} → Geometry → (json : Bool) → ProblemIndex B → NumberedGame → Outcome → List ℕ
    → Type 0
Compares g json index game given text = (before : List Noted) → AreAdded g before index
    → (repeat : Option Repeat) × IsCompared g json before game game.said.found repeat text
    × (given ≡ outcome game.said.found repeat)

-- the problem of a game is added to an index, unless it is refused
abbrev pub IsAdded : {B : Type 0} → Geometry → (old new : ProblemIndex B) → NumberedGame → Type 0
IsAdded g old new game = (before : List Noted) → AreAdded g before old
    → AreAdded g (before ++ noted game.number game.said.found) new
