-- Findings and remarks of the code, as values of the definitions.
use Rattle.std.specs.Prelude.{◌≡◌, ℕ, ◌+◌, ◌≤◌, Result, Ok, Err, Option, Some, IfSome, IsErrOf, List}
use Rattle.std.specs.Prelude.{map, option_map}
use Rattle.dw_board.specs.Geometry.{Geometry}
use Rattle.dw_board.specs.Placement.{Placement}
use Rattle.dw_memo.specs.Content.{Content}
use Rattle.dw_solve.specs.declared.stop.Stop.{Stop}
use Rattle.dw_solve.specs.declared.stop.Stop.TheVariants.{Limit}
use Rattle.dw_solve.specs.Certificates.{SaysLeast}
use Rattle.dw_solve.specs.Questions.{moment_of}
use Rattle.dw_solve.specs.Solving.{Solving}
use Rattle.dw_solve.specs.Searching.{IsCounted}
use Rattle.dw_solve.specs.Work.{Moment, NothingLost, Searched}
use Rattle.dw_verdict.specs.Judging.{said_by}
use Rattle.dw_moves.specs.Moves.{Move}
use Rattle.dw_games.specs.Walk.{place_of, beginning_at}
use Rattle.dw_study.specs.Finding.{Finding, judged, undecided}
use Rattle.std.specs.String.{string_bytes}
use Rattle.dw_study.specs.RemarkFields.{Words}
use Rattle.dw_study.specs.declared.fields.RemarkFields.{RemarkFields}
use Rattle.dw_study.specs.Remarks.{Remark, fails, also, leaves_open, ends}
use Rattle.dw_study.specs.declared.finding.Finding as findings
use Rattle.dw_study.specs.declared.finding.Finding.TheVariants.{Judged, Undecided}
use Rattle.dw_study.specs.declared.remark.Remark as remarks
use Rattle.dw_study.specs.declared.remark.Remark.TheVariants.{Fails, Also, Open, Ends}

-- the value of a finding
abbrev pub told_by : {B : Type 0} → findings.Finding B → Finding
told_by (Judged k it) = judged k.value (said_by it.verdict) it.tries.items
told_by (Undecided k) = undecided k

-- the most moves within which a win was searched for: those of the verdict; if the number stays open, one more than the
-- moves known to be too few; n if the search was stopped
abbrev pub searched_to : {B : Type 0} → Result (findings.Finding B) Stop → ℕ → ℕ
searched_to (Ok (Judged k it)) n = k.value
searched_to (Ok (Undecided k)) n = k + 1
searched_to (Err stop) n = n

-- how many expansions of a search for a win within n moves are cut off: none if the position is judged
abbrev pub cut_short : {B : Type 0} → Result (findings.Finding B) Stop → ℕ → ℕ
cut_short (Ok (Judged k it)) n = 0
cut_short (Ok (Undecided k)) n = n
cut_short (Err stop) n = n

-- A position stays undecided only if there is a bound and exactly that many positions were expanded. If the memo knew
-- before, for each number of moves up to j, whether there is a win, then the answer is at least j.
pub record StaysOpen {M B : Type 0} (content : M → Content) (p : Placement) (each : Option ℕ) (old new : Solving M)
    (answer : Result (findings.Finding B) Stop) : Type 0 where
  pub undecided : (k : ℕ) → answer ≡ Ok (Undecided k)
      → (bound : ℕ) × (each ≡ Some bound) × (new.expanded ≡ old.expanded + bound)
  pub known : (j k : ℕ) → SaysLeast (content old.memo) p j → answer ≡ Ok (Undecided k) → j ≤ k

-- the searches for an answer: each expansion is counted, up to the limit, and the memo is as searches leave it
pub record Sought {M B : Type 0} (g : Geometry) (content : M → Content) (lost : M → ℕ) (n : ℕ) (old new : Solving M)
    (answer : Result (findings.Finding B) Stop) : Type 0 where
  pub count : IsCounted old.expanded old.limit new.expanded new.limit
  pub stop : IsErrOf answer Limit → new.expanded ≡ new.limit
  pub searched : Searched g (searched_to answer n) (cut_short answer (searched_to answer n))
      (moment_of content lost old) (moment_of content lost new)

-- It was known in time at which number of moves a position is judged, and whether there is a win within it: up to some
-- moment no more positions were expanded than the bound allows, and then the memo itself said of each number up to this
-- one whether there is a win, if it had lost nothing. What was searched after that moment is the verdict.
pub record KnownInTime {M : Type 0} (g : Geometry) (content : M → Content) (lost : M → ℕ) (p : Placement)
    (n : ℕ) (each : Option ℕ) (old new : Solving M) (moves : ℕ) : Type 0 where
  pub then : Moment
  pub few : IfSome each (λ bound. then.expanded ≤ old.expanded + bound)
  pub before : Searched g n 0 (moment_of content lost old) then
  pub says : NothingLost (moment_of content lost old) then → SaysLeast then.content p moves
  pub after : Searched g moves 0 then (moment_of content lost new)

-- the number at which a position is judged was known in time
abbrev pub IsKnownInTime : {M B : Type 0} → Geometry → (M → Content) → (M → ℕ) → Placement → (n : ℕ)
    → (each : Option ℕ) → Solving M → Solving M → findings.Finding B → Type 0
IsKnownInTime g content lost p n each old new (Judged k it) = KnownInTime g content lost p n each old new k.value
IsKnownInTime g content lost p n each old new (Undecided k) = Unit {0}

-- the value of a remark, whose beginning is given by its place in a tree
abbrev pub remark_in : {B : Type 0} → List (List Move) → remarks.Remark B → Option Remark
remark_in tree (Fails at mv reply) = option_map (λ b. fails b mv reply) (beginning_at tree (place_of at))
remark_in tree (Also at keys) = option_map (λ b. also b keys.items) (beginning_at tree (place_of at))
remark_in tree (Open at replies) = option_map (λ b. leaves_open b replies.items) (beginning_at tree (place_of at))
remark_in tree (Ends at wins_in) = option_map (λ b. ends b wins_in) (beginning_at tree (place_of at))

-- remarks on a tree have values for which a statement holds
abbrev pub Say : {B : Type 0} → List (List Move) → List (remarks.Remark B) → (List Remark → Type 0) → Type 0
Say tree items Holds = (said : List Remark) × (map (remark_in tree) items ≡ map (λ r. Some r) said) × Holds said

-- the value of the words of a remark
abbrev pub texts_in : RemarkFields → Words
texts_in words = record {
  line = string_bytes words.line;
  turn = words.turn;
  moves = map string_bytes words.moves.items;
  refutation = option_map string_bytes words.refutation;
  wins_in = words.wins_in;
}
