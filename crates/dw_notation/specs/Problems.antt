-- The problems of a byte text.
use Rattle.std.specs.Prelude.{◌≡◌, ℕ, ◌==◌, ◌+◌, if◌then◌else◌, List, [], ◌∷◌, ◌++◌, Bool, false, Err, nat_lt}
use Rattle.dw_board.specs.Geometry.{Geometry}
use Rattle.dw_notation.specs.TextLines.{without_mark, Found, LinesSay}
use Rattle.dw_notation.specs.WholeTexts.{SectionsSay}
use Rattle.dw_notation.specs.declared.problems.TheConstants.{MAX_PROBLEMS}
use Rattle.dw_notation.specs.declared.problems.Problem.{Problem}
use Rattle.dw_notation.specs.declared.problems.Form.{Form}
use Rattle.dw_notation.specs.declared.problems.Form.TheVariants.{Fens, Pdn}
use Rattle.dw_notation.specs.declared.problems.ProblemFault.TheVariants.{TooManyProblems}

-- a numbered problem of a text
pub record Numbered : Type 0 where
  pub number : ℕ
  pub found : Found

-- a problem that was returned, as a value, for any type of its board
abbrev pub numbered : {B : Type 0} → Problem B → Numbered
numbered problem = record { number = problem.number; found = problem.found }

-- problems numbered after those handed out; the first above `MAX_PROBLEMS` becomes `TooManyProblems` and is the last
abbrev pub number_from : ℕ → List Found → List Numbered
number_from handed [] = []
number_from handed (found ∷ more) =
    if nat_lt handed MAX_PROBLEMS then record { number = handed + 1; found = found } ∷ number_from (handed + 1) more
    else (if handed == MAX_PROBLEMS then record { number = handed + 1; found = Err TooManyProblems } ∷ [] else [])

-- the problems of a text, by its form
abbrev pub TextSays : Geometry → Form → Bool → List ℕ → List Found → Type 0
TextSays g Fens over bytes found = LinesSay g over (without_mark bytes) found
TextSays g Pdn over bytes found = SectionsSay g over (without_mark bytes) found

-- the problems of a text; if more bytes may come, those that end in it, by a line feed or a byte after their section
pub record AreProblems (g : Geometry) (form : Form) (over : Bool) (bytes : List ℕ) (problems : List Numbered) :
    Type 0 where
  pub found : List Found
  pub said : TextSays g form over bytes found
  pub numbers : problems ≡ number_from 0 found

-- each text has exactly one list of problems, whether or not more bytes may come
pub record TextsHaveProblems : Type 0 where
  pub some : (g : Geometry) (form : Form) (over : Bool) (bytes : List ℕ) → (problems : List Numbered)
      × AreProblems g form over bytes problems
  pub only : (g : Geometry) (form : Form) (over : Bool) (bytes : List ℕ) (problems others : List Numbered)
      → AreProblems g form over bytes problems → AreProblems g form over bytes others → problems ≡ others

-- the problems that end in a text come first among the problems of each text that begins so
abbrev pub EndedComeFirst : Type 0
EndedComeFirst = (g : Geometry) (form : Form) (over : Bool) (bytes more : List ℕ) (ended problems : List Numbered)
    → AreProblems g form false bytes ended → AreProblems g form over (bytes ++ more) problems
    → (later : List Numbered) × (problems ≡ ended ++ later)
