-- Rays: their squares lie on the board, and a square lies in at most one direction from another.
use Rattle.std.proofs.Common.{◌≡◌, ℕ, ◌+◌, ◌*◌, ◌/◌, ◌<◌, ◌≤◌, zero, suc, refl, sym, ap, subst, inl, inr, arith, Option}
use Rattle.std.proofs.Common.{Some, None, [], ◌∷◌, ◌++◌, true, false, Bool, ◌-◌, ◌∙◌}
use Rattle.dw_board.specs.declared.board.Dir.{Dir}
use Rattle.dw_board.specs.declared.board.Dir.TheVariants.{UpLeft, UpRight, DownLeft, DownRight}
use Rattle.dw_board.specs.declared.piece.Piece.{Piece}
use Rattle.dw_board.specs.Geometry.{Geometry, IsBoard, OnBoard, row, column, step, and_then, moved, is_down, is_right}
use Rattle.dw_board.specs.Placement.{Placement}
use Rattle.dw_moves.specs.Moves.{Jump, ray_of, ray}
use Rattle.dw_board.specs.Lists.{Member}
use Rattle.dw_moves.specs.inner.MemberLemmas.{mem_at, mem_right}
use Rattle.dw_moves.proofs.StepLemmas.{IsNext, step_is, row_low, none_some}
use Rattle.dw_moves.proofs.ExactLemmas.{option_cases}

-- a step leads to a number above 0
low_inner : (g : Geometry) (r : ℕ) (o : Option ℕ) (t : ℕ) → and_then o (λ c. Some (r * g.per_row + c / 2 + 1)) ≡ Some t
    → 1 ≤ t
low_inner g r None t e = absurd (none_some t e)
low_inner g r (Some c) t e = let is : r * g.per_row + c / 2 + 1 ≡ t = cc in omega arith

low_outer : (g : Geometry) (o q : Option ℕ) (t : ℕ)
    → and_then o (λ r. and_then q (λ c. Some (r * g.per_row + c / 2 + 1))) ≡ Some t → 1 ≤ t
low_outer g None q t e = absurd (none_some t e)
low_outer g (Some r) q t e = low_inner g r q t e

pub step_low : (g : Geometry) (s : ℕ) (d : Dir) (t : ℕ) → step g s d ≡ Some t → 1 ≤ t
step_low g s d t e = low_outer g (moved (is_down d) g.rows (row g s)) (moved (is_right d) (2 * g.per_row) (column g s))
    t e

pub ray_of_low : (g : Geometry) (n s : ℕ) (d : Dir) (x : ℕ) → Member x (ray_of g n s d) → 1 ≤ x
ray_of_low g zero s d x m = absurd m
ray_of_low g (suc n) s d x m = elim (option_cases (step g s d)) [
  | inl e ↦ absurd (rw (e, ray_of) at m)
  | inr e ↦ elim (rw (e.1, ray_of) at m) [
    | inl q ↦ subst (λ z. 1 ≤ z) (sym q) (step_low g s d e.0 e.1)
    | inr m' ↦ ray_of_low g n e.0 d x m'
  ]
]

-- what is jumped, and where the jump ends, lie on the ray
pub jumped_on_ray : (g : Geometry) (p : Placement) (piece : Piece) (s c t : ℕ) → (h : Jump g p piece s c t)
    → Member c (ray g s h.dir)
jumped_on_ray g p piece s c t h = subst (Member c) (sym h.on_ray) (mem_at c h.before (h.behind ++ t ∷ h.beyond))

pub landing_on_ray : (g : Geometry) (p : Placement) (piece : Piece) (s c t : ℕ) → (h : Jump g p piece s c t)
    → Member t (ray g s h.dir)
landing_on_ray g p piece s c t h = subst (Member t) (sym h.on_ray)
    (mem_right t h.before (c ∷ (h.behind ++ t ∷ h.beyond)) (inr (mem_at t h.behind h.beyond)))

pub jump_low : (g : Geometry) (p : Placement) (piece : Piece) (s c t : ℕ) → Jump g p piece s c t → 1 ≤ c
jump_low g p piece s c t h = ray_of_low g g.rows s h.dir c (jumped_on_ray g p piece s c t h)

-- a ray does not leave the board
pub ray_of_on : (g : Geometry) → IsBoard g → (n s : ℕ) (d : Dir) (x : ℕ) → OnBoard g s → Member x (ray_of g n s d)
    → OnBoard g x
ray_of_on g b zero s d x on m = absurd m
ray_of_on g b (suc n) s d x on m = elim (option_cases (step g s d)) [
  | inl e ↦ absurd (rw (e, ray_of) at m)
  | inr e ↦ let is = step_is g b s e.0 d on e.1 in elim (rw (e.1, ray_of) at m) [
    | inl q ↦ subst (OnBoard g) (sym q) is.on
    | inr m' ↦ ray_of_on g b n e.0 d x is.on m'
  ]
]

-- how many rows lie ahead in a direction
abbrev ahead : Bool → ℕ → ℕ → ℕ
ahead true rows r = rows - 1 - r
ahead false rows r = r

one_less : (down : Bool) (rows r q : ℕ) → r < rows → q < rows → IsNext down r q → ahead down rows r
    ≡ ahead down rows q + 1
one_less true rows r q h k e = omega arith
one_less false rows r q h k e = e

ahead_high : (down : Bool) (rows r : ℕ) → r < rows → ahead down rows r ≤ rows
ahead_high true rows r h = omega arith
ahead_high false rows r h = omega arith

pub ray_of_none : (g : Geometry) (n s : ℕ) (d : Dir) → step g s d ≡ None → ray_of g n s d ≡ []
ray_of_none g zero s d e = refl
ray_of_none g (suc n) s d e = rw (e, ray_of) refl

at_edge : (g : Geometry) → IsBoard g → (s : ℕ) (d : Dir) → OnBoard g s → ahead (is_down d) g.rows (row g s) ≤ 0
    → step g s d ≡ None
at_edge g b s d on h = elim (option_cases (step g s d)) [
  | inl e ↦ e
  | inr e ↦
      let is = step_is g b s e.0 d on e.1 in
      let less = one_less (is_down d) g.rows (row g s) (row g e.0) (row_low g b s on) (row_low g b e.0 is.on) is.rows in
      absurd (omega arith)
]

-- a ray that is long enough for the board is the whole ray
ray_of_enough : (g : Geometry) → IsBoard g → (n m s : ℕ) (d : Dir) → OnBoard g s → ahead (is_down d) g.rows (row g s)
    ≤ n → ahead (is_down d) g.rows (row g s) ≤ m → ray_of g n s d ≡ ray_of g m s d
ray_of_enough g b zero m s d on h k = sym (ray_of_none g m s d (at_edge g b s d on h))
ray_of_enough g b (suc n) zero s d on h k = ray_of_none g (suc n) s d (at_edge g b s d on k)
ray_of_enough g b (suc n) (suc m) s d on h k = elim (option_cases (step g s d)) [
  | inl e ↦ ray_of_none g (suc n) s d e ∙ sym (ray_of_none g (suc m) s d e)
  | inr e ↦
      let is = step_is g b s e.0 d on e.1 in
      let less = one_less (is_down d) g.rows (row g s) (row g e.0) (row_low g b s on) (row_low g b e.0 is.on) is.rows in
      let same : ray_of g n e.0 d ≡ ray_of g m e.0 d = ray_of_enough g b n m e.0 d is.on (omega arith) (omega arith) in
      rw (e.1, ray_of) (ap (λ z. e.0 ∷ z) same)
]

-- a ray is the next square and its ray
pub ray_some : (g : Geometry) → IsBoard g → (s t : ℕ) (d : Dir) → OnBoard g s → step g s d ≡ Some t
    → ray g s d ≡ t ∷ ray g t d
ray_some g b s t d on e =
    let far = ahead_high (is_down d) g.rows (row g s) (row_low g b s on) in
    let next : ray_of g (suc g.rows) s d ≡ t ∷ ray g t d = rw (e, ray_of) refl in
    ray_of_enough g b g.rows (suc g.rows) s d on far (omega arith) ∙ next

pub ray_none : (g : Geometry) (s : ℕ) (d : Dir) → step g s d ≡ None → ray g s d ≡ []
ray_none g s d e = ray_of_none g g.rows s d e

-- t lies from s in this direction
abbrev pub Toward : Geometry → Dir → ℕ → ℕ → Type 0
Toward g UpLeft s t = (row g t < row g s) × (column g t < column g s)
Toward g UpRight s t = (row g t < row g s) × (column g s < column g t)
Toward g DownLeft s t = (row g s < row g t) × (column g t < column g s)
Toward g DownRight s t = (row g s < row g t) × (column g s < column g t)

next_toward : (g : Geometry) (d : Dir) (s t : ℕ) → IsNext (is_down d) (row g s) (row g t)
    × IsNext (is_right d) (column g s) (column g t) → Toward g d s t
next_toward g UpLeft s t h = (omega (arith, h.0), omega (arith, h.1))
next_toward g UpRight s t h = (omega (arith, h.0), omega (arith, h.1))
next_toward g DownLeft s t h = (omega (arith, h.0), omega (arith, h.1))
next_toward g DownRight s t h = (omega (arith, h.0), omega (arith, h.1))

toward_trans : (g : Geometry) (d : Dir) (s t u : ℕ) → Toward g d s t → Toward g d t u → Toward g d s u
toward_trans g UpLeft s t u h k = (omega (arith, h.0, k.0), omega (arith, h.1, k.1))
toward_trans g UpRight s t u h k = (omega (arith, h.0, k.0), omega (arith, h.1, k.1))
toward_trans g DownLeft s t u h k = (omega (arith, h.0, k.0), omega (arith, h.1, k.1))
toward_trans g DownRight s t u h k = (omega (arith, h.0, k.0), omega (arith, h.1, k.1))

pub ray_of_toward : (g : Geometry) → IsBoard g → (n : ℕ) (d : Dir) (s x : ℕ) → OnBoard g s → Member x (ray_of g n s d)
    → Toward g d s x
ray_of_toward g b zero d s x on m = absurd m
ray_of_toward g b (suc n) d s x on m = elim (option_cases (step g s d)) [
  | inl e ↦ absurd (rw (e, ray_of) at m)
  | inr e ↦
      let is = step_is g b s e.0 d on e.1 in
      let here = next_toward g d s e.0 (is.rows, is.columns) in
      elim (rw (e.1, ray_of) at m) [
        | inl q ↦ subst (Toward g d s) (sym q) here
        | inr m' ↦ toward_trans g d s e.0 x here (ray_of_toward g b n d e.0 x is.on m')
      ]
]

pub ray_toward : (g : Geometry) → IsBoard g → (d : Dir) (s x : ℕ) → OnBoard g s → Member x (ray g s d) → Toward g d s x
ray_toward g b d s x on m = ray_of_toward g b g.rows d s x on m

pub one_dir : (g : Geometry) (s x : ℕ) (d e : Dir) → Toward g d s x → Toward g e s x → d ≡ e
one_dir g s x UpLeft UpLeft h k = refl
one_dir g s x UpLeft UpRight h k = absurd (omega (arith, h.1, k.1))
one_dir g s x UpLeft DownLeft h k = absurd (omega (arith, h.0, k.0))
one_dir g s x UpLeft DownRight h k = absurd (omega (arith, h.0, k.0))
one_dir g s x UpRight UpLeft h k = absurd (omega (arith, h.1, k.1))
one_dir g s x UpRight UpRight h k = refl
one_dir g s x UpRight DownLeft h k = absurd (omega (arith, h.0, k.0))
one_dir g s x UpRight DownRight h k = absurd (omega (arith, h.0, k.0))
one_dir g s x DownLeft UpLeft h k = absurd (omega (arith, h.0, k.0))
one_dir g s x DownLeft UpRight h k = absurd (omega (arith, h.0, k.0))
one_dir g s x DownLeft DownLeft h k = refl
one_dir g s x DownLeft DownRight h k = absurd (omega (arith, h.1, k.1))
one_dir g s x DownRight UpLeft h k = absurd (omega (arith, h.0, k.0))
one_dir g s x DownRight UpRight h k = absurd (omega (arith, h.0, k.0))
one_dir g s x DownRight DownLeft h k = absurd (omega (arith, h.1, k.1))
one_dir g s x DownRight DownRight h k = refl
