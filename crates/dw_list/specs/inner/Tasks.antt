-- The next thing to do with a stack.
use Rattle.std.specs.Prelude.{◌≡◌, ◌↔◌, Bool, false, IsTrue, Some, None, List, [], ◌∷◌, ◌++◌}
use Rattle.dw_board.specs.Geometry.{Geometry}
use Rattle.dw_moves.specs.Moves.{play}
use Rattle.dw_list.specs.declared.stack.Candidate.{Candidate}
use Rattle.dw_list.specs.declared.stack.Task.{Task}
use Rattle.dw_list.specs.declared.stack.Task.TheVariants.{Over, Unlisted, Try, Passed}
use Rattle.dw_list.specs.inner.Ways.{left_after}
use Rattle.dw_list.specs.LineStack.{Level, LineStack}
use Rattle.dw_list.specs.inner.Steps.{first_ahead, IsListing}

-- the candidate is the first move ahead at the last level
pub record IsCandidate {B : Type 0} (g : Geometry) (levels : List Level) (candidate : Candidate B) : Type 0 where
  pub last : Level
  pub outer : List Level
  pub are : levels ≡ last ∷ outer
  pub first : first_ahead last.ahead ≡ Some candidate.mv
  pub after : candidate.after ≡ play g last.position candidate.mv
  pub attacks : candidate.attacks ≡ last.attacks
  pub left : candidate.left ≡ left_after last.attacks last.left

abbrev pub IsTask : {B : Type 0} → Geometry → List Level → Task B → Type 0
IsTask g levels Over = levels ≡ []
IsTask g levels Unlisted = (last : Level) × (outer : List Level) × (levels ≡ last ∷ outer) × (last.ahead ≡ None)
IsTask g levels (Try candidate) = IsCandidate g levels candidate
IsTask g levels Passed = (last : Level) × (outer : List Level) × (levels ≡ last ∷ outer) × (last.ahead ≡ Some [])

-- the moves of the last of these levels, the first one first, were listed, and the line ends there if the defender has
-- none
pub record IsListedLast (g : Geometry) (old new : List Level) (is_end : Bool) : Type 0 where
  pub outer : List Level
  pub last : Level
  pub listed : Level
  pub was : old ≡ outer ++ last ∷ []
  pub is : new ≡ outer ++ listed ∷ []
  pub listing : IsListing g last listed
  pub end : IsTrue is_end ↔ ((last.attacks ≡ false) × (listing.moves ≡ []))

-- the moves of the last level were listed, and the line ends there if the defender has none
pub record IsListed (g : Geometry) (old new : LineStack) (is_end : Bool) : Type 0 where
  pub last : Level
  pub outer : List Level
  pub are : old.levels ≡ last ∷ outer
  pub listed : Level
  pub listing : IsListing g last listed
  pub is : new ≡ record old { levels = listed ∷ outer }
  pub end : IsTrue is_end ↔ ((last.attacks ≡ false) × (listing.moves ≡ []))
