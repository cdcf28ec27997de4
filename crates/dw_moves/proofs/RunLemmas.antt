-- Squares met one after another on a ray.
use Rattle.std.proofs.Common.{◌≡◌, ℕ, ◌<◌, suc, List, [], ◌∷◌, length, refl, sym, ap, ◌∙◌, inl, inr, arith, Option}
use Rattle.std.proofs.Common.{Some, None}
use Rattle.dw_board.specs.declared.piece.Kind.{Kind}
use Rattle.dw_board.specs.declared.piece.Kind.TheVariants.{Man, King}
use Rattle.dw_board.specs.declared.board.Dir.{Dir}
use Rattle.dw_board.specs.Geometry.{Geometry, IsBoard, OnBoard, step}
use Rattle.dw_board.specs.Placement.{Placement, at}
use Rattle.dw_moves.specs.Moves.{ray}
use Rattle.dw_moves.specs.inner.Plain.{free_front, free_next, landings_for, free_if, free_step}
use Rattle.dw_moves.proofs.StepLemmas.{step_is, none_some, some_inj}
use Rattle.dw_moves.proofs.ExactLemmas.{option_cases}
use Rattle.dw_moves.proofs.RayLemmas.{ray_some, ray_none}

-- the next square is t, and empty
pub record Freed (g : Geometry) (p : Placement) (s : ℕ) (d : Dir) (t : ℕ) : Type 0 where
  pub steps : step g s d ≡ Some t
  pub on : OnBoard g t
  pub ray_is : ray g s d ≡ t ∷ ray g t d
  pub free : at p t ≡ None

free_if_some : (p : Placement) (o : Option ℕ) (t : ℕ) → free_if p o ≡ Some t → (o ≡ Some t) × (at p t ≡ None)
free_if_some p None t e = absurd (none_some t e)
free_if_some p (Some u) t e = elim (option_cases (at p u)) [
  | inl h ↦ let same : u ≡ t = some_inj (rw (h, free_if) at e) in (ap Some same, ap (at p) (sym same) ∙ h)
  | inr h ↦ absurd (none_some t (rw (h.1, free_if) at e))
]

pub freed : (g : Geometry) → IsBoard g → (p : Placement) (s : ℕ) (d : Dir) (t : ℕ) → OnBoard g s → free_step g p s d
    ≡ Some t → Freed g p s d t
freed g b p s d t on e =
    let h = free_if_some p (step g s d) t e in
    record { steps = h.0; on = (step_is g b s t d on h.0).on; ray_is = ray_some g b s t d on h.0; free = h.1 }

-- a king goes on from there, a man does not
pub king_run : {g : Geometry} {p : Placement} {s : ℕ} {d : Dir} {t : ℕ} → Freed g p s d t
    → landings_for King p (ray g s d) ≡ t ∷ landings_for King p (ray g t d)
king_run {p = p} f = ap (landings_for King p) f.ray_is ∙ rw (f.free, free_front) refl

pub man_run : {g : Geometry} {p : Placement} {s : ℕ} {d : Dir} {t : ℕ} → Freed g p s d t
    → landings_for Man p (ray g s d) ≡ t ∷ []
man_run {p = p} f = ap (landings_for Man p) f.ray_is ∙ rw (f.free, free_next) refl

run_blocked : (k : Kind) (p : Placement) (t : ℕ) (ts : List ℕ) → (at p t ≡ None → ⊥) → landings_for k p (t ∷ ts) ≡ []
run_blocked Man p t ts ne = elim (option_cases (at p t)) [ inl e ↦ absurd (ne e) | inr e ↦ rw (e.1, free_next) refl ]
run_blocked King p t ts ne = elim (option_cases (at p t)) [ inl e ↦ absurd (ne e) | inr e ↦ rw (e.1, free_front) refl ]

run_empty : (k : Kind) (p : Placement) → landings_for k p [] ≡ []
run_empty Man p = refl
run_empty King p = refl

pub run_stop : (g : Geometry) → IsBoard g → (k : Kind) (p : Placement) (s : ℕ) (d : Dir) → OnBoard g s
    → free_step g p s d ≡ None → landings_for k p (ray g s d) ≡ []
run_stop g b k p s d on e = elim (option_cases (step g s d)) [
  | inl h ↦ ap (landings_for k p) (ray_none g s d h) ∙ run_empty k p
  | inr h ↦ ap (landings_for k p) (ray_some g b s h.0 d on h.1) ∙ run_blocked k p h.0 (ray g h.0 d) (λ free.
      let is : free_step g p s d ≡ Some h.0 = ap (free_if p) h.1 ∙ rw (free, free_if) refl in none_some h.0 (sym e
      ∙ is))
]

pub ray_falls : (g : Geometry) (p : Placement) (s : ℕ) (d : Dir) (t : ℕ) → Freed g p s d t
    → length (ray g t d) < length (ray g s d)
ray_falls g p s d t h = let l : length (ray g s d) ≡ suc (length (ray g t d)) = ap length h.ray_is in omega arith

-- what is left of a ray after a step is shorter
pub ray_shorter : (g : Geometry) → IsBoard g → (s : ℕ) (d : Dir) (t : ℕ) → OnBoard g s → step g s d ≡ Some t
    → length (ray g t d) < length (ray g s d)
ray_shorter g b s d t on steps = let l : length (ray g s d) ≡ suc (length (ray g t d)) = ap length
    (ray_some g b s t d on steps) in omega arith
