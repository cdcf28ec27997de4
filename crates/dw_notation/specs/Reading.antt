-- The value of a reader of problems, and the effect of a call for the next problem.
use Rattle.std.specs.Prelude.{◌≡◌, ℕ, ◌+◌, ◌<◌, ◌≤◌, ◌⊎◌, List, [], ◌∷◌, ◌++◌, length, Bool, true, false, Option, Some}
use Rattle.std.specs.Prelude.{None, option_to_list, Result, Ok, Err, MatchBool, IfOk, IfSome}
use Rattle.std.specs.Borrow.{GName}
use Rattle.dw_board.specs.Geometry.{Geometry}
use Rattle.dw_notation.specs.Problems.{Numbered, numbered}
use Rattle.dw_notation.specs.Buffering.{EndIsKnown}
use Rattle.dw_notation.specs.Streams.{Supply, Reads}
use Rattle.dw_notation.specs.declared.problems.TheConstants.{MAX_PROBLEMS, MAX_READ}
use Rattle.dw_notation.specs.declared.problems.Problem.{Problem}
use Rattle.dw_notation.specs.declared.problems.ReadFault.{ReadFault}
use Rattle.dw_notation.specs.declared.problems.reader.Problems.{Problems}

-- the name of the reference to the source that the reader holds
abbrev pub lender : {B S : Type 0} → Problems B S → GName
lender problems = problems.source.ghost_name

-- the source as it stands now
abbrev pub source_of : {B S : Type 0} → Problems B S → S
source_of problems = problems.source.now

-- The progress of a reader. Callers know only the clauses about it.
pub record Reader : Type 0 where
  -- the problems not yet handed out, if these bytes are still to be read: all of them if the text is over then, else
  -- those that end in these bytes
  pub ahead : Geometry → Bool → List ℕ → List Numbered
  -- the number of problems handed out
  pub handed : ℕ
  -- whether the source's end was met
  pub met_end : Bool
  -- whether the next problem needs a read
  pub waits : Bool

-- the effect of a call of `next` that read these bytes
abbrev pub Gives : {B : Type 0} → Geometry → Reader → Reader → List ℕ → Result (Option (Problem B)) ReadFault → Type 0
Gives g old new read (Ok (Some problem)) =
    MatchBool new.met_end (old.ahead g true read ≡ numbered problem ∷ new.ahead g true [])
    ((over : Bool) (bytes : List ℕ) → old.ahead g over (read ++ bytes) ≡ numbered problem ∷ new.ahead g over bytes)
Gives g old new read (Ok None) =
    (old.ahead g true read ≡ []) × (new.ahead g true [] ≡ [])
    × ((new.met_end ≡ true) ⊎ ((MAX_PROBLEMS < new.handed) × ((more : List ℕ) → old.ahead g true (read ++ more) ≡ [])))
Gives g old new read (Err fault) =
    (old.ahead g false read ≡ [])
    × ((over : Bool) (bytes : List ℕ) → old.ahead g over (read ++ bytes) ≡ new.ahead g over bytes)

-- bytes are read only if there may be a problem more, and only until one has ended: none had before the last read
abbrev pub ReadsAtNeed : Geometry → Reader → List ℕ → Type 0
ReadsAtNeed g old read =
    (read ≡ []) ⊎ ((old.handed ≤ MAX_PROBLEMS) × (before : List ℕ) × (last : List ℕ) × (read ≡ before ++ last)
    × (length last ≤ MAX_READ) × (old.ahead g false before ≡ []))

-- the effect of a call for the next problem: these bytes are read, none after the end, and this result is given
pub record NextGives {B : Type 0} (g : Geometry) (before after : Supply) (old new : Reader)
    (result : Result (Option (Problem B)) ReadFault) : Type 0 where
  pub read : List ℕ
  pub took : Reads before after read
  pub still : old.met_end ≡ true → read ≡ []
  pub need : ReadsAtNeed g old read
  pub gives : Gives g old new read result

-- each problem handed out is counted, and its number is the count
abbrev pub IsCounted : {B : Type 0} → Reader → Reader → Result (Option (Problem B)) ReadFault → Type 0
IsCounted old new result = IfOk result (λ found.
    (new.handed ≡ old.handed + length (option_to_list found))
    × IfSome found (λ problem. (problem.number ≡ new.handed) × (old.handed ≤ MAX_PROBLEMS)))

-- the end that a reader has met is the source's, met since a moment
abbrev pub EndIsTrue : (began now : Supply) → Reader → Type 0
EndIsTrue began now reader = EndIsKnown began now reader.met_end

-- the next problem needs a read, and the source has failed before its end was met
pub record HasStopped (is_failed : Bool) (reader : Reader) : Type 0 where
  pub failed : is_failed ≡ true
  pub unmet : reader.met_end ≡ false
  pub waits : reader.waits ≡ true
