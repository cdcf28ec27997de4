-- A path takes no more pieces than the other side has.
use Rattle.std.proofs.Common.{◌≡◌, ℕ, ◌+◌, ◌-◌, ◌≤◌, zero, suc, List, [], ◌∷◌, length, refl, sym, ap, ◌∙◌, subst, inl}
use Rattle.std.proofs.Common.{inr, arith, true, Option, Some, None, cond, get_or, get_or-set_other, set, count_by}
use Rattle.std.proofs.lemmas.List.{set_past, get_or-set_same}
use Rattle.std.proofs.lemmas.Bool.{cases_Bool, cases_eq, cases_lt}
use Rattle.std.proofs.lemmas.List.Sums.{sum_by-cons}
use Rattle.dw_board.specs.declared.piece.Side.{Side}
use Rattle.dw_board.specs.declared.piece.Piece.{Piece}
use Rattle.dw_board.specs.Geometry.{Geometry}
use Rattle.dw_board.specs.Placement.{Placement, at, placed, is_of, same_side, count}
use Rattle.dw_moves.specs.Moves.{Jumps}
use Rattle.dw_board.specs.Lists.{Member}
use Rattle.dw_board.specs.Placement.{other}
use Rattle.dw_moves.specs.Laws.{PathIsShort}
use Rattle.dw_moves.specs.inner.MemberLemmas.{no_more}
use Rattle.dw_moves.proofs.ExactLemmas.{same_side_refl}
use Rattle.dw_moves.proofs.RayLemmas.{jump_low}
use Rattle.dw_moves.proofs.StepLemmas.{none_some}

abbrev one_of : Side → Option Piece → ℕ
one_of side o = cond (is_of side o) 1 0

-- the squares that a side holds, counted from n
abbrev pub held : Side → ℕ → List (Option Piece) → List ℕ
held side n [] = []
held side n (o ∷ os) = cond (is_of side o) (n ∷ held side (suc n) os) (held side (suc n) os)

pub held_count : (side : Side) (n : ℕ) (cells : List (Option Piece)) → length (held side n cells)
    ≡ count_by (is_of side) cells
held_count side n [] = refl
held_count side n (o ∷ os) =
    let sum = sum_by-cons (one_of side) o os in
    elim (cases_Bool (is_of side o)) [
      | inl e ↦
          let w : one_of side o ≡ 1 = rw e refl in
          let l : length (held side n (o ∷ os)) ≡ suc (length (held side (suc n) os)) = rw e refl in
          omega (arith, held_count side (suc n) os)
      | inr e ↦
          let w : one_of side o ≡ 0 = rw e refl in
          let l : length (held side n (o ∷ os)) ≡ length (held side (suc n) os) = rw e refl in
          omega (arith, held_count side (suc n) os)
    ]

held_in : (side : Side) (n : ℕ) (cells : List (Option Piece)) (i : ℕ) (q : Piece) → get_or cells i None ≡ Some q
    → q.side ≡ side → Member (n + i) (held side n cells)
held_in side n [] i q e own = absurd (none_some q e)
held_in side n (o ∷ os) zero q e own =
    let same : n + 0 ≡ n = omega arith in
    let t : same_side q.side side ≡ true = rw own (same_side_refl side) in
    rw (e, held) (rw t (inl same))
held_in side n (o ∷ os) (suc i) q e own =
    let same : n + suc i ≡ suc n + i = omega arith in
    let m : Member (n + suc i) (held side (suc n) os) = subst (λ z. Member z (held side (suc n) os)) (sym same)
    (held_in side (suc n) os i q e own) in
    elim (cases_Bool (is_of side o)) [ inl t ↦ rw t (inr m) | inr t ↦ rw t m ]

pub at_held : (side : Side) (p : Placement) (s : ℕ) (q : Piece) → 1 ≤ s → at p s ≡ Some q → q.side ≡ side
    → Member s (held side 1 p.cells)
at_held side p s q low e own = let same : 1 + (s - 1) ≡ s = omega arith in subst (λ z. Member z (held side 1 p.cells))
    same (held_in side 1 p.cells (s - 1) q e own)

-- an emptied square is empty
pub emptied : (p : Placement) (t : ℕ) → at (placed p t None) t ≡ None
emptied p t = elim (cases_lt (t - 1) (length p.cells)) [
  | inl l ↦ get_or-set_same p.cells (t - 1) None None l
  | inr past ↦ ap (λ c. get_or c (t - 1) None) (set_past p.cells (t - 1) None past) ∙ get_or-past p.cells (t - 1) past
] where
  get_or-past : (cells : List (Option Piece)) (i : ℕ) → length cells ≤ i → get_or cells i None ≡ None
  get_or-past [] i low = refl
  get_or-past (x ∷ xs) zero low = absurd (omega (arith, low))
  get_or-past (x ∷ xs) (suc i) low = get_or-past xs i (omega (arith, low))

-- a piece that stands after a square was emptied stood there before
pub stood : (p : Placement) (t s : ℕ) (q : Piece) → at (placed p t None) s ≡ Some q → at p s ≡ Some q
stood p t s q e = elim (cases_eq (s - 1) (t - 1)) [
  | inl same ↦ elim (cases_lt (t - 1) (length p.cells)) [
    | inl l ↦ let none : get_or (set p.cells (t - 1) None) (s - 1) None
        ≡ None = ap (λ i. get_or (set p.cells (t - 1) None) i None) same ∙ get_or-set_same p.cells (t - 1) None None
        l in absurd (none_some q (sym none ∙ e))
    | inr past ↦ ap (λ c. get_or c (s - 1) None) (sym (set_past p.cells (t - 1) None past)) ∙ e
  ]
  | inr apart ↦ sym (get_or-set_other p.cells (t - 1) (s - 1) None None apart) ∙ e
]

enemies : (g : Geometry) (p : Placement) (piece : Piece) (s : ℕ) (ts cs : List ℕ) → Jumps g p piece s ts cs → (x : ℕ)
    → Member x cs → (1 ≤ x) × ((q : Piece) × (at p x ≡ Some q) × (q.side ≡ other piece.side))
enemies g p piece s [] [] jumps x m = absurd m
enemies g p piece s (t ∷ ts) [] jumps x m = absurd jumps
enemies g p piece s [] (c ∷ cs) jumps x m = absurd jumps
enemies g p piece s (t ∷ ts) (c ∷ cs) jumps x (inl e) = rw e (
  jump_low g p piece s c t jumps.0,
  (record { side = other piece.side; kind = jumps.0.enemy.0 }, jumps.0.enemy.1, refl),
)
enemies g p piece s (t ∷ ts) (c ∷ cs) jumps x (inr m) = enemies g p piece t ts cs jumps.1 x m

pub path_bound : PathIsShort
path_bound g p from ts cs h =
    let side : Side = other h.piece.side in
    let within : (x : ℕ) → Member x cs → Member x (held side 1 p.cells) = λ x m.
    let q = enemies g (placed p from None) h.piece from ts cs h.jumps x m in
    at_held side p x q.1.0 q.0 (stood p from x q.1.0 q.1.1) q.1.2 in
    let few : length cs ≤ count p side = omega (
      arith,
      no_more cs (held side 1 p.cells) h.once within,
      held_count side 1 p.cells,
    ) in
    subst (λ z. length cs ≤ count p (other z)) h.stands.own few
