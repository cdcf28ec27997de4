-- What is gathered from a list of moves in order, move by move.
use Rattle.std.proofs.Common.{◌≡◌, ℕ, ◌+◌, ◌<◌, ◌≤◌, suc, List, [], ◌∷◌, ◌++◌, length, map, take, drop, get_or, refl}
use Rattle.std.proofs.Common.{sym, subst, inl, inr, arith}
use Rattle.std.proofs.lemmas.List.{take_all}
use Rattle.dw_moves.specs.Moves.{Move}
use Rattle.dw_board.specs.Lists.{Member}
use Rattle.dw_moves.specs.Order.{IsAscending, IsListOf}
use Rattle.dw_moves.specs.inner.MemberLemmas.{mem_left, mem_right, mem_cases}
use Rattle.dw_solve.specs.inner.ListLemmas.{at_item, ascending_parts, one_listed, none_listed, listed_as, listed_then}

-- those that belong to one of these moves and of which something holds, in order
abbrev pub AreGathered : {Y : Type 0} → (Move → Move → Type 0) → (Y → Move) → (Y → Type 0) → List Move → List Y → Type 0
AreGathered R of P moves ys = IsListOf (λ a b. R (of a) (of b)) (λ a. Member (of a) moves × P a) ys

pub gathered_none : {Y : Type 0} (R : Move → Move → Type 0) (of : Y → Move) (P : Y → Type 0) → AreGathered R of P [] []
gathered_none R of P = none_listed (λ a b. R (of a) (of b)) (λ a. Member (of a) [] × P a) (λ a h. h.0)

-- one more, which belongs to the next move
pub gathered_more : {Y : Type 0} (R : Move → Move → Type 0) (of : Y → Move) (P : Y → Type 0) (before after : List Move)
    (m : Move) (ys : List Y) (y : Y) → IsAscending R (before ++ m ∷ after) → of y ≡ m → P y
    → ((z : Y) → of z ≡ m → P z → z ≡ y) → AreGathered R of P before ys
    → AreGathered R of P (before ++ m ∷ []) (ys ++ y ∷ [])
gathered_more {Y} R of P before after m ys y order is here only h =
    listed_then (λ a b. R (of a) (of b)) (λ a. Member (of a) before × P a) (λ a. (of a ≡ m)
    × P a) (λ a. Member (of a) (before ++ m ∷ []) × P a) ys (y ∷ [])
    (λ a b f g. subst (R (of a)) (sym g.0) ((ascending_parts R before (m ∷ after) order).1 (of a) m f.0 (inl refl)))
    (λ a f. (mem_left (of a) before (m ∷ []) f.0, f.1))
    (λ a f. (mem_right (of a) before (m ∷ []) (inl f.0), f.1))
    (λ a f. elim (mem_cases (of a) before (m ∷ []) f.0) [
      | inl early ↦ inl (early, f.1)
      | inr (inl e) ↦
          inr (e, f.1)
      | inr (inr over) ↦ absurd over
    ])
    h (one_listed (λ a b. R (of a) (of b)) (λ a. (of a ≡ m) × P a) y (is, here) (λ z f. only z f.0 f.1))

-- nothing belongs to the next move
pub gathered_same : {Y : Type 0} (R : Move → Move → Type 0) (of : Y → Move) (P : Y → Type 0) (before : List Move)
    (m : Move) (ys : List Y) → ((z : Y) → of z ≡ m → P z → ⊥) → AreGathered R of P before ys
    → AreGathered R of P (before ++ m ∷ []) ys
gathered_same R of P before m ys none h =
    listed_as (λ a b. R (of a) (of b)) (λ a. Member (of a) before × P a) (λ a. Member (of a) (before ++ m ∷ [])
    × P a) ys
    (λ a f. (mem_left (of a) before (m ∷ []) f.0, f.1))
    (λ a f. elim (mem_cases (of a) before (m ∷ []) f.0) [
      | inl early ↦ (early, f.1)
      | inr (inl e) ↦ absurd (none a e f.1)
      | inr (inr over) ↦ absurd over
    ])
    h

-- BY PLACES IN A LIST OF WHAT THE MOVES STAND IN

-- gathered from the first so many
abbrev pub GatheredTo : {V Y : Type 0} → (V → Move) → (Move → Move → Type 0) → (Y → Move) → (Y → Type 0) → List V → ℕ
    → List Y → Type 0
GatheredTo step R of P xs i ys = AreGathered R of P (map step (take i xs)) ys

pub to_none : {V Y : Type 0} (step : V → Move) (R : Move → Move → Type 0) (of : Y → Move) (P : Y → Type 0)
    (xs : List V) (ys : List Y) → ys ≡ [] → GatheredTo step R of P xs 0 ys
to_none step R of P xs ys e = subst (AreGathered R of P []) (sym e) (gathered_none R of P)

pub to_more : {V Y : Type 0} (step : V → Move) (R : Move → Move → Type 0) (of : Y → Move) (P : Y
    → Type 0) (xs : List V) (i : ℕ) (x : V) (ys : List Y) (y : Y) → IsAscending R (map step xs) → i < length xs
    → x ≡ get_or xs i x → of y ≡ step x → P y → ((z : Y) → of z ≡ step x → P z → z ≡ y) → GatheredTo step R of P xs i ys
    → GatheredTo step R of P xs (i + 1) (ys ++ y ∷ [])
to_more step R of P xs i x ys y order low at is here only h =
    let parts = at_item step xs i x low at in
    let one : i + 1 ≡ suc i = omega arith in
    subst (λ z. GatheredTo step R of P xs z (ys ++ y ∷ [])) (sym one)
    (subst (λ z. AreGathered R of P z (ys ++ y ∷ [])) (sym parts.1)
    (gathered_more R of P (map step (take i xs)) (map step (drop (suc i) xs)) (step x) ys y
    (subst (IsAscending R) parts.0 order) is here only h))

pub to_same : {V Y : Type 0} (step : V → Move) (R : Move → Move → Type 0) (of : Y → Move) (P : Y
    → Type 0) (xs : List V) (i : ℕ) (x : V) (ys : List Y) → i < length xs → x ≡ get_or xs i x
    → ((z : Y) → of z ≡ step x → P z → ⊥) → GatheredTo step R of P xs i ys → GatheredTo step R of P xs (i + 1) ys
to_same step R of P xs i x ys low at none h =
    let parts = at_item step xs i x low at in
    let one : i + 1 ≡ suc i = omega arith in
    subst (λ z. GatheredTo step R of P xs z ys) (sym one)
    (subst (λ z. AreGathered R of P z ys) (sym parts.1)
    (gathered_same R of P (map step (take i xs)) (step x) ys none h))

-- from all of them
pub to_all : {V Y : Type 0} (step : V → Move) (R : Move → Move → Type 0) (of : Y → Move) (P : Y → Type 0) (Q : Move
    → Type 0) (xs : List V) (i : ℕ) (ys : List Y) → length xs ≤ i → IsListOf R Q (map step xs)
    → GatheredTo step R of P xs i ys → IsListOf (λ a b. R (of a) (of b)) (λ a. Q (of a) × P a) ys
to_all step R of P Q xs i ys end all h =
    let whole : AreGathered R of P (map step xs) ys = subst (λ z. AreGathered R of P (map step z) ys)
    (take_all i xs end) h in
    listed_as (λ a b. R (of a) (of b)) (λ a. Member (of a) (map step xs) × P a) (λ a. Q (of a) × P a) ys
    (λ a f. ((all.exactly (of a)).0 f.0, f.1)) (λ a f. ((all.exactly (of a)).1 f.0, f.1)) whole

-- a move of the list is one of all
pub item_among : {V : Type 0} (step : V → Move) (R : Move → Move → Type 0) (Q : Move → Type 0) (xs : List V) (i : ℕ)
    (x : V) → IsListOf R Q (map step xs) → i < length xs → x ≡ get_or xs i x → Q (step x)
item_among step R Q xs i x all low at =
    let parts = at_item step xs i x low at in
    let whole = subst (IsListOf R Q) parts.0 all in
    (whole.exactly (step x)).0 (mem_right (step x) (map step (take i xs)) (step x ∷ map step (drop (suc i) xs))
    (inl refl))
