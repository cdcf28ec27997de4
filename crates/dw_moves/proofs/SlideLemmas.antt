-- What a slide leads over on a board, and along which ray.
use Rattle.std.proofs.Common.{◌≡◌, ℕ, ◌+◌, ◌≤◌, ◌<◌, Bool, true, false, zero, suc, List, [], ◌∷◌, ◌++◌, length, refl}
use Rattle.std.proofs.Common.{sym, ap, ◌∙◌, subst, inl, inr, ◌↔◌, arith, Some, None, length-append, append_assoc}
use Rattle.dw_board.specs.declared.board.Dir.{Dir}
use Rattle.dw_board.specs.declared.piece.Piece.{Piece}
use Rattle.dw_board.specs.Geometry.{Geometry, IsBoard, OnBoard, step, row, is_down, Squares}
use Rattle.dw_board.specs.Lists.{Member}
use Rattle.dw_board.specs.Placement.{Placement, at}
use Rattle.dw_board.specs.Slides.{SlidesTo}
use Rattle.dw_moves.specs.Moves.{AllEmpty, ray, In}
use Rattle.dw_moves.proofs.ExactLemmas.{option_cases}
use Rattle.dw_moves.proofs.RayLemmas.{ray_some, ray_none}
use Rattle.dw_moves.proofs.StepLemmas.{IsNext, none_some, step_is, row_low}

-- the squares on which anything stands
abbrev pub AreAll : Geometry → Placement → Squares → Type 0
AreAll g p v = (s : ℕ) → In s v ↔ (OnBoard g s × ((q : Piece) × (at p s ≡ Some q)))

pub is_free : (g : Geometry) (p : Placement) (occupied : Squares) (t : ℕ) → AreAll g p occupied → OnBoard g t
    → (In t occupied → ⊥) → at p t ≡ None
is_free g p occupied t all on out = elim (option_cases (at p t)) [
  | inl e ↦ e
  | inr q ↦ absurd (out ((all t).1 (on, q)))
]

pub is_out : (g : Geometry) (p : Placement) (occupied : Squares) (t : ℕ) → AreAll g p occupied → at p t ≡ None
    → In t occupied → ⊥
is_out g p occupied t all e h = let q = (all t).0 h in none_some q.1.0 (sym e ∙ q.1.1)

pub empty_append : (p : Placement) (xs ys : List ℕ) → AllEmpty p xs → AllEmpty p ys → AllEmpty p (xs ++ ys)
empty_append p [] ys h k = k
empty_append p (x ∷ xs) ys h k = (h.0, empty_append p xs ys h.1 k)

-- a ray that begins with x
pub ray_head : (g : Geometry) → IsBoard g → (s x : ℕ) (xs : List ℕ) (d : Dir) → OnBoard g s → ray g s d ≡ x ∷ xs
    → (step g s d ≡ Some x) × (ray g x d ≡ xs)
ray_head g b s x xs d on e = elim (option_cases (step g s d)) [
  | inl none ↦ let no : [] ≡ x ∷ xs = sym (ray_none g s d none) ∙ e in cc
  | inr some ↦
      let same : some.0 ∷ ray g some.0 d ≡ x ∷ xs = sym (ray_some g b s some.0 d on some.1) ∙ e in
      let head : some.0 ≡ x = cc in
      let tail : ray g some.0 d ≡ xs = cc in
      (some.1 ∙ ap Some head, ap (λ z. ray g z d) (sym head) ∙ tail)
]

-- the empty squares that a run led over
pub record Run (g : Geometry) (p : Placement) (from : Squares) (d : Dir) (n t : ℕ) : Type 0 where
  pub start : ℕ
  pub begins : In start from
  pub before : List ℕ
  pub on_ray : ray g start d ≡ before ++ ray g t d
  pub clear : AllEmpty p before
  pub steps : length before ≡ n
  pub on : OnBoard g t

pub run_of : (g : Geometry) → IsBoard g → (p : Placement) (occupied : Squares) → AreAll g p occupied
    → (from : Squares) (d : Dir) → ((s : ℕ) → In s from → OnBoard g s) → (n t : ℕ) → SlidesTo g from occupied d n t
    → Run g p from d n t
run_of g b p occupied all from d on zero t r = record {
  start = t;
  begins = r;
  before = [];
  on_ray = refl;
  clear = tt;
  steps = refl;
  on = on t r;
}
run_of g b p occupied all from d on (suc n) t r =
    let h = run_of g b p occupied all from d on n r.0 r.1 in
    let next : OnBoard g t = (step_is g b r.0 t d h.on r.2).on in
    record {
      start = h.start;
      begins = h.begins;
      before = h.before ++ t ∷ [];
      on_ray = h.on_ray ∙ (ap (λ z. h.before ++ z) (ray_some g b r.0 t d h.on r.2)
          ∙ sym (append_assoc h.before (t ∷ []) (ray g t d)));
      clear = empty_append p h.before (t ∷ []) h.clear (is_free g p occupied t all next r.3, tt);
      steps = omega (arith, length-append h.before (t ∷ []), h.steps);
      on = next;
    }

-- where a run ends that leads up to c, and what follows c on the ray
pub record Walked (g : Geometry) (from occupied : Squares) (d : Dir) (n c : ℕ) (rest : List ℕ) : Type 0 where
  pub last : ℕ
  pub runs : SlidesTo g from occupied d n last
  pub steps : step g last d ≡ Some c
  pub on : OnBoard g c
  pub ray_is : ray g c d ≡ rest

-- a run over the empty squares of a ray
pub walk : (g : Geometry) → IsBoard g → (from occupied : Squares) (d : Dir) (before : List ℕ) (n m s c : ℕ)
    (rest : List ℕ) → m ≡ n + length before → SlidesTo g from occupied d n s → OnBoard g s
    → ray g s d ≡ before ++ c ∷ rest
    → ((x : ℕ) → Member x before → In x occupied → ⊥) → Walked g from occupied d m c rest
walk g b from occupied d [] n m s c rest e r on is free =
    let h = ray_head g b s c rest d on is in
    let same : n ≡ m = omega arith in
    record {
      last = s;
      runs = subst (λ k. SlidesTo g from occupied d k s) same r;
      steps = h.0;
      on =
          (step_is g b s c d on h.0).on;
      ray_is = h.1;
    }
walk g b from occupied d (x ∷ before) n m s c rest e r on is free =
    let h = ray_head g b s x (before ++ c ∷ rest) d on is in
    walk g b from occupied d before (suc n) m x c rest (omega arith) (s, r, h.0, free x (inl refl))
    (step_is g b s x d on h.0).on h.1 (λ y i. free y (inr i))

-- a slide has gone as many rows as it has steps
abbrev HasGone : Bool → ℕ → ℕ → ℕ → Type 0
HasGone true n r rows = n ≤ r
HasGone false n r rows = n + r < rows

none_gone : (down : Bool) (r rows : ℕ) → r < rows → HasGone down 0 r rows
none_gone true r rows low = omega arith
none_gone false r rows low = omega (arith, low)

one_gone : (down : Bool) (n r q rows : ℕ) → HasGone down n r rows → IsNext down r q → HasGone down (suc n) q rows
one_gone true n r q rows h k = omega (arith, h, k)
one_gone false n r q rows h k = omega (arith, h, k)

few_gone : (down : Bool) (n r rows : ℕ) → HasGone down (suc (suc n)) r rows → r < rows → rows ≤ 10 → n < 8
few_gone true n r rows h low high = omega (arith, h, low, high)
few_gone false n r rows h low high = omega (arith, h, low, high)

slid_rows : (g : Geometry) → IsBoard g → (from barred : Squares) (d : Dir) → ((s : ℕ) → In s from → OnBoard g s)
    → (n t : ℕ) → SlidesTo g from barred d n t → OnBoard g t × HasGone (is_down d) n (row g t) g.rows
slid_rows g b from barred d on zero t r = (on t r, none_gone (is_down d) (row g t) g.rows (row_low g b t (on t r)))
slid_rows g b from barred d on (suc n) t r =
    let h = slid_rows g b from barred d on n r.0 r.1 in
    let s = step_is g b r.0 t d h.0 r.2 in
    (s.on, one_gone (is_down d) n (row g r.0) (row g t) g.rows h.1 s.rows)

-- with room for two steps more it has seven at most
pub room_behind : (g : Geometry) → IsBoard g → (from barred : Squares) (d : Dir) → ((s : ℕ) → In s from → OnBoard g s)
    → (n s c t : ℕ) → SlidesTo g from barred d n s → step g s d ≡ Some c → step g c d ≡ Some t → n < 8
room_behind g b from barred d on n s c t r to further =
    let h = slid_rows g b from barred d on n s r in
    let one = step_is g b s c d h.0 to in
    let two = step_is g b c t d one.on further in
    few_gone (is_down d) n (row g t) g.rows (one_gone (is_down d) (suc n) (row g c) (row g t) g.rows
    (one_gone (is_down d) n (row g s) (row g c) g.rows h.1 one.rows) two.rows) (row_low g b t two.on)
    (omega (arith, b.even, b.high))
