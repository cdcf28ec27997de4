-- How the effects of first moves are stored as a value.
use Rattle.std.specs.Prelude.{◌≡◌, ◌⊎◌, ℕ, List, refl}
use Rattle.std.proofs.Common.{inl, inr}
use Rattle.std.specs.Coded.{Coded, code_by, coded×, coded⊎, coded_list, coded_ℕ}
use Rattle.dw_board.specs.Placement.{Placement}
use Rattle.dw_moves.specs.Moves.{Move, move_code}
use Rattle.dw_notation.specs.inner.LineCodes.{placement_code}
use Rattle.dw_first_moves.specs.FirstMoves.{Effect, EffectsFrom, wins_in, refuted_by}

abbrev pub cases_of : Effect → ℕ ⊎ List Move
cases_of (wins_in k) = inl k
cases_of (refuted_by replies) = inr replies

abbrev pub effect_by : ℕ ⊎ List Move → Effect
effect_by (inl k) = wins_in k
effect_by (inr replies) = refuted_by replies

abbrev pub effect_back : (effect : Effect) → effect_by (cases_of effect) ≡ effect
effect_back (wins_in k) = refl
effect_back (refuted_by replies) = refl

abbrev pub effect_code : Coded Effect
effect_code = code_by (ℕ ⊎ List Move) (coded⊎ coded_ℕ (coded_list move_code)) cases_of effect_by effect_back

-- Sealed: how effects are stored, of which no clause says anything.
abbrev pub effects_code : Coded EffectsFrom
effects_code =
    code_by (Placement × List (Move × Effect)) (coded× placement_code (coded_list (coded× move_code effect_code)))
    (λ e. (e.start, e.effects)) (λ c. record { start = c.0; effects = c.1 }) (λ _. refl)
