-- Looking for a move among those ahead at the last level.
use Rattle.std.proofs.Common.{◌≡◌, ℕ, Some, None, Option, List, [], ◌∷◌, ◌++◌, length, refl, sym, ap, ◌∙◌}
use Rattle.std.proofs.Common.{subst, inl, inr}
use Rattle.dw_board.specs.Geometry.{Geometry}
use Rattle.dw_moves.specs.Moves.{Move}
use Rattle.dw_board.specs.Lists.{Member}
use Rattle.dw_moves.specs.inner.MemberLemmas.{mem_cases}
use Rattle.dw_list.specs.declared.stack.Candidate.{Candidate}
use Rattle.dw_list.specs.inner.Tasks.{IsCandidate}
use Rattle.dw_list.specs.LineStack.{Level, LineStack}
use Rattle.dw_list.specs.inner.Steps.{first_ahead, with_ahead, passed_last}
use Rattle.dw_list.specs.inner.LineWalk.{ahead_of}

abbrev pub count_of : Option (List Move) → ℕ
count_of None = 0
count_of (Some moves) = length moves

-- so many moves are ahead at the last level
abbrev pub ahead_count : List Level → ℕ
ahead_count [] = 0
ahead_count (f ∷ outer) = count_of f.ahead

-- so far the move was not met
abbrev pub Seeks : LineStack → LineStack → Move → Type 0
Seeks old new m = (f : Level) (outer : List Level) (moves : List Move) → old.levels ≡ with_ahead f moves ∷ outer →
    (before : List Move) × (rest : List Move) × (moves ≡ before ++ rest) × (new ≡ ahead_of old f outer rest)
    × (Member m before → ⊥)

first_cons : (moves : List Move) (m : Move) → first_ahead (Some moves) ≡ Some m → (rest : List Move)
    × (moves ≡ m ∷ rest)
first_cons [] m e = cc
first_cons (r ∷ rest) m e = let same : r ≡ m = (cc) in (rest, ap (λ z. z ∷ rest) same)

levels_last : (x y : Level) (xs ys : List Level) → x ∷ xs ≡ y ∷ ys → x ≡ y
levels_last x y xs ys e = cc

append_last : (before rest : List Move) (m : Move) → before ++ m ∷ rest ≡ (before ++ m ∷ []) ++ rest
append_last [] rest m = refl
append_last (x ∷ before) rest m = ap (λ z. x ∷ z) (append_last before rest m)

first_same : {B : Type 0} (g : Geometry) (f : Level) (outer : List Level) (rest : List Move) (levels : List Level)
    (t : Candidate B) → levels ≡ with_ahead f rest ∷ outer → IsCandidate g levels t → first_ahead (Some rest) ≡ Some
    t.mv
first_same g f outer rest levels t is candidate =
    let same = levels_last candidate.last (with_ahead f rest) candidate.outer outer (sym candidate.are ∙ is) in
    subst (λ (z : Level). first_ahead z.ahead ≡ Some t.mv) same candidate.first

pub seeks_more : {B : Type 0} (g : Geometry) (old s new : LineStack) (m : Move) (t : Candidate B) → Seeks old s m
    → IsCandidate g s.levels t → (t.mv ≡ m → ⊥) → new ≡ record s { levels = passed_last s.levels } → Seeks old new m
seeks_more g old s new m t seeks candidate apart is f outer moves e =
    let h = seeks f outer moves e in
    let here : s.levels ≡ with_ahead f h.1 ∷ outer = ap (λ (z : LineStack). z.levels) h.3 in
    let first = first_cons h.1 t.mv (first_same g f outer h.1 s.levels t here candidate) in
    let now : new ≡ ahead_of old f outer first.0 =
    is ∙ ap (λ (z : LineStack). record z { levels = passed_last z.levels }) h.3
    ∙ ap (λ z. record old { levels = passed_last (with_ahead f z ∷ outer) }) first.1 in (
      h.0 ++ t.mv ∷ [],
      first.0,
      h.2 ∙ ap (λ z. h.0 ++ z) first.1 ∙ append_last h.0 first.0 t.mv,
      now,
      λ k. elim (mem_cases m h.0 (t.mv ∷ []) k) [
        | inl early ↦ h.4 early
        | inr (inl e) ↦ apart (sym e)
        | inr (inr none) ↦
            none
      ],
    )
