-- The soundness of one neighbour, and the text for it.
use Rattle.std.specs.Prelude.{◌≡◌, ℕ, ◌+◌, ◌≤◌, Option, Some, List, [], Result, Err, IfOk, IfSome}
use Rattle.dw_board.specs.Geometry.{Geometry}
use Rattle.dw_board.specs.Placement.{Placement}
use Rattle.dw_memo.specs.Content.{Content, IsMap}
use Rattle.dw_moves.specs.Moves.{Move}
use Rattle.dw_solve.specs.Facts.{AreTrue}
use Rattle.dw_solve.specs.Searching.{IsCounted}
use Rattle.dw_solve.specs.Solving.{Solving}
use Rattle.dw_solve.specs.declared.stop.Stop.TheVariants.{Limit}
use Rattle.dw_verdict.specs.Verdict.{IsVerdict, sound}
use Rattle.dw_mend.specs.Changes.{Change}
use Rattle.dw_mend.specs.MendText.{IsLineOf}
use Rattle.dw_mend.specs.declared.rows.Wording.{Wording}
use Rattle.dw_mend.specs.declared.mend.Soundness as finds
use Rattle.dw_mend.specs.declared.mend.Soundness.TheVariants.{Sound, Unsound, Undecided}
use Rattle.dw_mend.specs.declared.mend.MendFault.{MendFault}
use Rattle.dw_mend.specs.declared.mend.MendFault.TheVariants.{Stopped}

-- the soundness of a position is right
abbrev pub IsSoundnessOf : {B : Type 0} → Geometry → Placement → ℕ → finds.Soundness B → Type 0
IsSoundnessOf g p n (Sound key) = IsVerdict g p n (sound key)
IsSoundnessOf g p n Unsound = (key : Move) → IsVerdict g p n (sound key) → ⊥
IsSoundnessOf g p n Undecided = Unit {0}

-- a soundness is undecided
abbrev pub IsUndecided : {B : Type 0} → finds.Soundness B → Type 0
IsUndecided (Sound key) = ⊥
IsUndecided Unsound = ⊥
IsUndecided Undecided = Unit {0}

-- the text for a neighbour of some soundness
abbrev pub Adds : {B : Type 0} → Wording → Geometry → ℕ → Change × Placement → finds.Soundness B → List ℕ → Type 0
Adds w g n x (Sound key) text = IsVerdict g x.1 n (sound key) × IsLineOf w g n x key text
Adds w g n x Unsound text = ((key : Move) → IsVerdict g x.1 n (sound key) → ⊥) × (text ≡ [])
Adds w g n x Undecided text = text ≡ []

-- after neighbours were looked at each expansion is counted, up to the solver's limit, and its memo is right
pub record Leaves {M A : Type 0} (g : Geometry) (content : M → Content) (old new : Solving M)
    (result : Result A MendFault) : Type 0 where
  pub count : IsCounted old.expanded old.limit new.expanded new.limit
  pub stop : result ≡ Err (Stopped Limit) → new.expanded ≡ new.limit
  pub right : AreTrue g (content new.memo)
  pub map : IsMap (content new.memo)

-- how a search for a neighbour counts: with a bound no more positions are expanded, and without one, or with fewer
-- positions, it is not undecided
pub record Goes {B : Type 0} (each : Option ℕ) (before limit after limit' : ℕ)
    (result : Result (finds.Soundness B) MendFault) : Type 0 where
  pub count : IsCounted before limit after limit'
  pub spent : IfOk result (λ found. IsUndecided found
      → (bound : ℕ) × (each ≡ Some bound) × (after ≡ before + bound))
  pub few : IfSome each (λ bound. after ≤ before + bound)
  pub stop : result ≡ Err (Stopped Limit) → after ≡ limit'
