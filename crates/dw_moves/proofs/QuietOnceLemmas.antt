-- The plain list of quiet moves has each once, and is counted square by square.
use Rattle.std.proofs.Common.{◌≡◌, ℕ, zero, suc, List, [], ◌∷◌, ◌++◌, map, refl, sym, subst, inl, inr, arith}
use Rattle.std.specs.List.{flat_map}
use Rattle.std.proofs.lemmas.Bool.{cases_Bool}
use Rattle.dw_board.specs.declared.piece.Kind.{Kind}
use Rattle.dw_board.specs.declared.piece.Kind.TheVariants.{Man, King}
use Rattle.dw_board.specs.declared.piece.Side.{Side}
use Rattle.dw_board.specs.declared.board.Dir.{Dir}
use Rattle.dw_board.specs.declared.board.Dir.TheVariants.{UpLeft, UpRight, DownLeft, DownRight}
use Rattle.dw_board.specs.Geometry.{Geometry, IsBoard, OnBoard, step}
use Rattle.dw_board.specs.Placement.{Placement, at}
use Rattle.dw_moves.specs.Moves.{ray_of, ray}
use Rattle.dw_board.specs.Lists.{Member, NoRepeat}
use Rattle.dw_moves.specs.inner.Plain.{dirs, free_front, free_next, landings_for, may_go, goes, quiet_for}
use Rattle.dw_moves.specs.inner.MemberLemmas.{mem_cases, mem_map_back, mem_flat_back, mem_at}
use Rattle.dw_moves.proofs.ExactLemmas.{option_cases}
use Rattle.dw_moves.proofs.StepLemmas.{step_is}
use Rattle.dw_moves.proofs.RayLemmas.{Toward, ray_of_toward, ray_of_none, ray_toward, one_dir}
use Rattle.dw_moves.proofs.LegalMoveLemmas.{goes_from}

pub once_append : {X : Type 0} → (xs ys : List X) → NoRepeat xs → NoRepeat ys → ((x : X) → Member x xs → Member x ys
    → ⊥) → NoRepeat (xs ++ ys)
once_append [] ys n m apart = m
once_append (x ∷ xs) ys n m apart = (
  (λ h. elim (mem_cases x xs ys h) [ inl l ↦ n.0 l | inr r ↦ apart x (inl refl) r ]),
  once_append xs ys n.1 m (λ y l r. apart y (inr l) r),
)

pub once_map : {X Y : Type 0} (f : X → Y) → ((x y : X) → f x ≡ f y → x ≡ y) → (xs : List X) → NoRepeat xs
    → NoRepeat (map f xs)
once_map f same [] n = tt
once_map f same (x ∷ xs) n = (
  (λ h. let k = mem_map_back f (f x) xs h in n.0 (subst (λ z. Member z xs) (sym (same x k.0 k.2)) k.1)),
  once_map f same xs n.1,
)

-- lists without repeats that share nothing make one without repeats
pub once_flat : {X Y : Type 0} (f : X → List Y) → (xs : List X) → NoRepeat xs → ((x : X) → Member x xs → NoRepeat (f x))
    → ((x z : X) (y : Y) → Member x xs → Member z xs → Member y (f x) → Member y (f z) → x ≡ z)
    → NoRepeat (flat_map f xs)
once_flat f [] n each apart = tt
once_flat f (x ∷ xs) n each apart =
    once_append (f x) (flat_map f xs) (each x (inl refl)) (once_flat f xs n.1 (λ z m. each z (inr m))
    (λ a b y m k. apart a b y (inr m) (inr k)))
    (λ y l r. let k = mem_flat_back f y xs r in
    n.0 (subst (λ z. Member z xs) (sym (apart x k.0 y (inl refl) (inr k.1) l k.2)) k.1))

pub dirs_once : NoRepeat dirs
dirs_once = (
  (λ h. elim h [ inl e ↦ cc | inr (inl e) ↦ cc | inr (inr (inl e)) ↦ cc | inr (inr (inr e)) ↦ e ]),
  (
    (λ h. elim h [ inl e ↦ cc | inr (inl e) ↦ cc | inr (inr e) ↦ e ]),
    (
      (λ h. elim h [ inl e ↦ cc | inr e ↦ e ]),
      ((λ h. h), tt),
    ),
  ),
)

pub not_toward : (g : Geometry) (d : Dir) (s : ℕ) → Toward g d s s → ⊥
not_toward g UpLeft s h = absurd (omega (arith, h.0))
not_toward g UpRight s h = absurd (omega (arith, h.0))
not_toward g DownLeft s h = absurd (omega (arith, h.0))
not_toward g DownRight s h = absurd (omega (arith, h.0))

ray_once : (g : Geometry) → IsBoard g → (n s : ℕ) (d : Dir) → OnBoard g s → NoRepeat (ray_of g n s d)
ray_once g b zero s d on = tt
ray_once g b (suc n) s d on = elim (option_cases (step g s d)) [
  | inl e ↦ rw (ray_of_none g (suc n) s d e) tt
  | inr e ↦
      let next = (step_is g b s e.0 d on e.1).on in
      rw (e.1, ray_of) ((λ h. not_toward g d e.0 (ray_of_toward g b n d e.0 e.0 next h)), ray_once g b n e.0 d next)
]

front_mem : (p : Placement) (xs : List ℕ) (t : ℕ) → Member t (free_front p xs) → Member t xs
front_mem p [] t m = m
front_mem p (x ∷ xs) t m = elim (option_cases (at p x)) [
  | inl e ↦ elim (rw (e, free_front) at m) [ inl q ↦ inl q | inr r ↦ inr (front_mem p xs t r) ]
  | inr e ↦ absurd (rw (e.1, free_front) at m)
]

front_once : (p : Placement) (xs : List ℕ) → NoRepeat xs → NoRepeat (free_front p xs)
front_once p [] n = tt
front_once p (x ∷ xs) n = elim (option_cases (at p x)) [
  | inl e ↦ rw (e, free_front) ((λ h. n.0 (front_mem p xs x h)), front_once p xs n.1)
  | inr e ↦ rw (e.1, free_front) tt
]

next_once : (p : Placement) (xs : List ℕ) → NoRepeat (free_next p xs)
next_once p [] = tt
next_once p (x ∷ xs) = elim (option_cases (at p x)) [
  | inl e ↦ rw (e, free_next) ((λ h. h), tt)
  | inr e ↦ rw (e.1, free_next) tt
]

landings_once : (k : Kind) (p : Placement) (xs : List ℕ) → NoRepeat xs → NoRepeat (landings_for k p xs)
landings_once Man p xs n = next_once p xs
landings_once King p xs n = front_once p xs n

goes_once : (k : Kind) (g : Geometry) → IsBoard g → (p : Placement) (side : Side) (s : ℕ) (d : Dir) → OnBoard g s
    → NoRepeat (goes k g p side s d)
goes_once k g b p side s d on = elim (cases_Bool (may_go k side d)) [
  | inl e ↦ rw e (landings_once k p (ray g s d) (ray_once g b g.rows s d on))
  | inr e ↦ rw e tt
]

-- where a piece goes tells the direction
goes_toward : (k : Kind) (g : Geometry) → IsBoard g → (p : Placement) (side : Side) (s t : ℕ) (d : Dir) → OnBoard g s
    → Member t (goes k g p side s d) → Toward g d s t
goes_toward k g b p side s t d on m =
    let h = (goes_from k g p side s t d m).lands in
    ray_toward g b d s t on (subst (Member t) (sym h.is) (mem_at t h.before h.beyond))

pub quiet_for_once : (k : Kind) (g : Geometry) → IsBoard g → (p : Placement) (side : Side) (s : ℕ) → OnBoard g s
    → NoRepeat (quiet_for k g p side s)
quiet_for_once k g b p side s on = once_flat (goes k g p side s) dirs dirs_once (λ d m. goes_once k g b p side s d on)
    (λ d e t md me hd he. one_dir g s t d e (goes_toward k g b p side s t d on hd) (goes_toward k g b p side s t e on
    he))
