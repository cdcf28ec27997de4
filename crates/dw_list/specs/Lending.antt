-- The effect of a call for the next line.
use Rattle.std.specs.Prelude.{◌≡◌, ℕ, List, reverse, Result, Option, MatchResult, MatchOption}
use Rattle.std.specs.Borrow.{Bor}
use Rattle.dw_board.specs.Geometry.{Geometry}
use Rattle.dw_memo.specs.Content.{Content}
use Rattle.dw_moves.specs.Moves.{Move}
use Rattle.dw_solve.specs.declared.stop.Stop.{Stop}
use Rattle.dw_list.specs.declared.lister.Lister.{Lister}
use Rattle.dw_solve.specs.Questions.{Asked}
use Rattle.dw_list.specs.StackWalk.{SameToCome, GivesFirst, GivesNone}
use Rattle.dw_list.specs.Listing.{lender, solver_of, stack_of}

-- The first of the lines still to come was lent, or there was none; after a stop they are the same. The solver is the
-- same, and was asked about wins within the same number of moves.
pub record LendsNext {B M G : Type 0} (g : Geometry) (content : M → Content) (lost : M → ℕ)
    (old new : Lister B M G) (result : Result (Option (Bor (List Move))) Stop) : Type 0 where
  pub lender : lender new ≡ lender old
  pub next : MatchResult result
      (λ given. MatchOption given (GivesNone g (stack_of old) (stack_of new))
      (λ line. GivesFirst g (stack_of old) (stack_of new)))
      (λ stop. SameToCome g (stack_of old) (stack_of new))
  pub line : MatchResult result
      (λ given. MatchOption given (Unit {0}) (λ line. line.now ≡ reverse (stack_of new).line)) (λ stop. Unit {0})
  pub asked : Asked g content lost (stack_of old).moves (solver_of old) (solver_of new) result
