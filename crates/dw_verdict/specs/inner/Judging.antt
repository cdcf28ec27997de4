-- How keys, duals and tries are looked for.
use Rattle.std.specs.Prelude.{◌≡◌, ℕ, ◌-◌, ◌≤◌, ◌<◌, ◌⊎◌, List, [], ◌∷◌, length, Option, Some, None}
use Rattle.std.proofs.Common.{zero, suc}
use Rattle.dw_board.specs.Geometry.{Geometry}
use Rattle.dw_board.specs.Placement.{Placement}
use Rattle.dw_moves.specs.Moves.{Move, Legal, play}
use Rattle.dw_solve.specs.Wins.{Win, Lost}
use Rattle.dw_verdict.specs.Verdict.{Keys}
use Rattle.dw_verdict.specs.declared.dual.Dual as found

-- these are the first moves that win within n moves, and there is just one
pub record AreOneKey (g : Geometry) (p : Placement) (n : ℕ) (keys : List Move) : Type 0 where
  pub are : Keys g p n keys
  pub one : length keys ≡ 1

-- these are the first moves that win within n moves, and there are several, or one while fewer moves are enough
pub record AreCooked (g : Geometry) (p : Placement) (n : ℕ) (keys : List Move) : Type 0 where
  pub are : Keys g p n keys
  pub some : 0 < length keys
  pub more : (2 ≤ length keys) ⊎ Win g p (n - 1)

-- moves lead from p to choices of the attacker, who has n moves left at p
abbrev pub LeadsToChoices : Geometry → ℕ → Placement → List Move → List Move → Type 0
LeadsToChoices g zero p l choices = ⊥
LeadsToChoices g (suc n) p [] choices = ⊥
LeadsToChoices g (suc n) p (m ∷ []) choices = ⊥
LeadsToChoices g (suc n) p (m ∷ r ∷ []) choices =
    Legal g p m × Lost g (play g p m) n × Legal g (play g p m) r
    × Keys g (play g (play g p m) r) n choices × (2 ≤ length choices)
LeadsToChoices g (suc n) p (m ∷ r ∷ s ∷ l) choices =
    Legal g p m × Lost g (play g p m) n × Legal g (play g p m) r
    × LeadsToChoices g n (play g (play g p m) r) (s ∷ l) choices

-- the attacker, who has n moves left, has choices at once, or moves lead to choices later
abbrev pub ComesToChoices : Geometry → ℕ → Placement → List Move → List Move → Type 0
ComesToChoices g n p [] choices = Keys g p n choices × (2 ≤ length choices)
ComesToChoices g n p (m ∷ l) choices = LeadsToChoices g n p (m ∷ l) choices

-- moves that begin with a reply lead to choices of the attacker, who has n moves left
abbrev pub RepliesToChoices : Geometry → ℕ → Placement → List Move → List Move → Type 0
RepliesToChoices g n q [] choices = ⊥
RepliesToChoices g n q (r ∷ l) choices = Legal g q r × ComesToChoices g n (play g q r) l choices

-- P holds of this beginning and these choices, and of no beginning that comes before
pub record IsLeast (Less : List Move → List Move → Type 0) (P : List Move → List Move → Type 0)
    (l choices : List Move) : Type 0 where
  pub is : P l choices
  pub least : (other others : List Move) → P other others → Less other l → ⊥

-- the beginning found is the least for which P holds; or there is none
abbrev pub FindsLeast : (Less : List Move → List Move → Type 0) (P : List Move → List Move → Type 0) →
    Option (List Move × List Move) → Type 0
FindsLeast Less P None = (l choices : List Move) → P l choices → ⊥
FindsLeast Less P (Some d) = IsLeast Less P d.0 d.1

-- the moves that lead to a choice, and the choices
abbrev pub parts_of : {B : Type 0} → found.Dual B → List Move × List Move
parts_of d = (d.at.items, d.choices.items)
