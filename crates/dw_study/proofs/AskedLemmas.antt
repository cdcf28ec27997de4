-- Questions to a solver within fewer and fewer moves.
use Rattle.std.proofs.Common.{ℕ, ◌≤◌, Result}
use Rattle.dw_board.specs.Geometry.{Geometry}
use Rattle.dw_memo.specs.Content.{Content}
use Rattle.dw_solve.specs.Laws.{SearchesAddUp}
use Rattle.dw_solve.specs.Questions.{Asked}
use Rattle.dw_solve.specs.Solving.{Solving}
use Rattle.dw_solve.specs.declared.stop.Stop.{Stop}
use Rattle.dw_solve.specs.inner.QuestionLemmas.{answered, asked_then, asked_wider}

-- some more questions, within no more moves
pub asked_on : {M A : Type 0} → SearchesAddUp → (g : Geometry) (content : M → Content) (lost : M → ℕ) (m n : ℕ)
    (a b c : Solving M) (r : Result A Stop) → m ≤ n → Asked g content lost n a b answered
    → Asked g content lost m b c r → Asked g content lost n a c r
asked_on law g content lost m n a b c r less h k =
    asked_then g content lost law n a b c r h (asked_wider g content lost law m n b c r less k)
