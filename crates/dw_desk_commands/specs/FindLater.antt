-- The later wins that `find` writes.
use Rattle.std.specs.Prelude.{◌≡◌, ℕ, ◌+◌, min, Option, Some, None, IsSomeAnd, List, [], ◌∷◌, codes}
use Rattle.dw_board.specs.Geometry.{Geometry}
use Rattle.dw_board.specs.Placement.{Placement}
use Rattle.dw_first_moves.specs.Later.{AreLater}
use Rattle.dw_first_moves.specs.LaterText.{AreLaterTexts, later_lines}
use Rattle.dw_json.specs.Rows.{Member, counts}
use Rattle.dw_moves.specs.Moves.{Move}
use Rattle.dw_study.specs.Finding.{Finding, judged, undecided}
use Rattle.dw_verdict.specs.Verdict.{unsolvable, cooked, dual, sound}

-- the number of moves within which the position of a finding is won, or none without a win
abbrev pub won_in : Finding → Option ℕ
won_in (judged k unsolvable tries) = None
won_in (judged k (cooked shortest keys) tries) = Some k
won_in (judged k (dual beginning choices) tries) = Some k
won_in (judged k (sound key) tries) = Some k
won_in (undecided k) = None

-- the texts of the first moves that win later than n, in up to `more` moves more and in up to 20
abbrev pub AreLaterOf : Geometry → Placement → (n more : ℕ) → List (List ℕ × ℕ) → Type 0
AreLaterOf g p n more texts =
    (later : List (Move × ℕ)) × AreLater g p n (min 20 (n + more)) later × AreLaterTexts g p later texts

-- these texts, if there is a win and later ones are asked for
abbrev pub HasLater : Geometry → Placement → (won more : Option ℕ) → Option (List (List ℕ × ℕ)) → Type 0
HasLater g p (Some n) (Some more) told = IsSomeAnd told (AreLaterOf g p n more)
HasLater g p (Some n) None told = told ≡ None
HasLater g p None more told = told ≡ None

-- their lines
abbrev pub lines_of : Option (List (List ℕ × ℕ)) → List ℕ
lines_of None = []
lines_of (Some texts) = later_lines texts

-- their member of a row of JSON
abbrev pub member_of : Option (List (List ℕ × ℕ)) → List Member
member_of None = []
member_of (Some texts) = (codes "later", counts texts) ∷ []
