-- A legal move leads to a position, and a path takes no more than the other side has.
use Rattle.std.proofs.Common.{◌≡◌, ◌≢◌, ℕ, ◌+◌, ◌-◌, ◌≤◌, ◌<◌, ◌&&◌, zero, suc, List, [], ◌∷◌, length, refl, sym, ap}
use Rattle.std.proofs.Common.{◌∙◌, subst, ◌⊎◌, inl, inr, arith, Bool, true, false, Option, Some, None, get_or}
use Rattle.std.proofs.Common.{length-set, get_or-set_same, get_or-set_other, cond, set, count_by}
use Rattle.std.proofs.lemmas.List.{get_or_past}
use Rattle.std.proofs.lemmas.List.Sums.{sum_by-set, sum_by-cons}
use Rattle.std.proofs.lemmas.List.FromFn.{get_or-map-range_with_len}
use Rattle.std.proofs.lemmas.Bool.{cases_Bool, cases_lt, cases_eq, eq-eqb, or_left}
use Rattle.std.specs.FinSet as fin
use Rattle.std.specs.Cmp.{nat_cmp_total, unsigned_tied}
use Rattle.std.specs.Ordering.{nat_cmp, eq_by_cmp}
use Rattle.dw_board.specs.Geometry.{Squares, Geometry, IsBoard, OnBoard, squares}
use Rattle.dw_board.specs.declared.piece.Side.{Side}
use Rattle.dw_board.specs.declared.piece.Side.TheVariants.{White, Black}
use Rattle.dw_board.specs.declared.piece.Piece.{Piece}
use Rattle.dw_board.specs.Placement.{Placement, at, placed, left, without, is_of, is_man, is_stuck, on_last_row}
use Rattle.dw_board.specs.Placement.{crowned, landed}
use Rattle.dw_moves.specs.Moves.{Move, Jumps, Stands, Legal, LegalAt, play, last_of}
use Rattle.dw_board.specs.Lists.{Member}
use Rattle.dw_moves.specs.Laws.{PlayStays}
use Rattle.dw_moves.specs.inner.MemberLemmas.{mem_at}
use Rattle.dw_moves.proofs.RayLemmas.{ray_of_on, landing_on_ray}

one_less : (f : Option Piece → Bool) → f None ≡ false → (x y : Option Piece) → (x ≡ None) ⊎ (x ≡ y)
    → cond (f x) 1 0 ≤ cond (f y) 1 0
one_less f none x y (inl e) = subst (λ z. cond (f z) 1 0 ≤ cond (f y) 1 0) (sym e)
    (subst (λ b. cond b 1 0 ≤ cond (f y) 1 0) (sym none) (omega arith))
one_less f none x y (inr e) = subst (λ z. cond (f x) 1 0 ≤ cond (f z) 1 0) e (omega arith)

-- each square holds what it held or nothing, so no side has more
pub fewer : (f : Option Piece → Bool) → f None ≡ false → (xs ys : List (Option Piece)) → length xs ≡ length ys
    → ((i : ℕ) → (get_or xs i None ≡ None) ⊎ (get_or xs i None ≡ get_or ys i None)) → count_by f xs ≤ count_by f ys
fewer f none [] [] len each = omega arith
fewer f none [] (y ∷ ys) len each = omega arith
fewer f none (x ∷ xs) [] len each = absurd (omega arith)
fewer f none (x ∷ xs) (y ∷ ys) len each =
    let rest : count_by f xs ≤ count_by f ys = fewer f none xs ys (omega arith) (λ i. each (suc i)) in
    let here : cond (f x) 1 0 ≤ cond (f y) 1 0 = one_less f none x y (each zero) in
    omega (arith, sum_by-cons (λ z. cond (f z) 1 0) x xs, sum_by-cons (λ z. cond (f z) 1 0) y ys)

-- what is left on a square when some are emptied
pub without_at : (p : Placement) (ss : Squares) (i : ℕ) → i < 50 → get_or (without p ss).cells i None
    ≡ left p ss (i + 1)
without_at p ss i low = get_or-map-range_with_len (left p ss) 1 50 i (i + 1) None low (omega arith)

pub without_length : (p : Placement) (ss : Squares) → length (without p ss).cells ≡ 50
without_length p ss = refl

-- emptied, or as before
left_cases : (p : Placement) (ss : Squares) (s : ℕ) → (left p ss s ≡ None) ⊎ (left p ss s ≡ at p s)
left_cases p ss s = elim (cases_Bool (fin.contains ss s)) [ inl e ↦ inl (rw e refl) | inr e ↦ inr (rw e refl) ]

-- the squares that a move empties
abbrev pub emptied : Move → Squares
emptied m = fin.insert m.taken m.from

pub left_origin : (p : Placement) (m : Move) → left p (emptied m) m.from ≡ None
left_origin p m =
    let e : fin.contains (emptied m) m.from ≡ true = fin.contains-insert nat_cmp_total m.taken m.from m.from
    ∙ or_left (eq_by_cmp nat_cmp m.from m.from) (fin.contains m.taken m.from) (unsigned_tied m.from m.from
    ∙ eq-eqb m.from m.from refl) in
    rw e refl

without_cases : (p : Placement) (ss : Squares) → length p.cells ≡ 50 → (i : ℕ)
    → (get_or (without p ss).cells i None ≡ None) ⊎ (get_or (without p ss).cells i None ≡ get_or p.cells i None)
without_cases p ss len i = elim (cases_lt i 50) [
  | inl low ↦ let e = without_at p ss i low in elim (left_cases p ss (i + 1)) [
    | inl h ↦ inl (e ∙ h)
    | inr h ↦ let same : i + 1 - 1 ≡ i = omega arith in inr (e ∙ h ∙ ap (λ k. get_or p.cells k None) same)
  ]
  | inr high ↦ inl (get_or_past (without p ss).cells i None high)
]

-- the same, beside the cells without the piece on the origin
without_cases_origin : (p : Placement) (m : Move) → length p.cells ≡ 50 → 1 ≤ m.from → (i : ℕ)
    → (get_or (without p (emptied m)).cells i None ≡ None) ⊎ (get_or (without p (emptied m)).cells i None
    ≡ get_or (set p.cells (m.from - 1) None) i None)
without_cases_origin p m len low i = elim (cases_eq i (m.from - 1)) [
  | inl e ↦ elim (cases_lt i 50) [
    | inl below ↦ let s : i + 1 ≡ m.from = omega arith in inl (without_at p (emptied m) i below
        ∙ ap (left p (emptied m)) s ∙ left_origin p m)
    | inr high ↦ inl (get_or_past (without p (emptied m)).cells i None high)
  ]
  | inr ne ↦ elim (without_cases p (emptied m) len i) [
    | inl h ↦ inl h
    | inr h ↦ inr (h ∙ sym (get_or-set_other p.cells (m.from - 1) i None None ne))
  ]
]

abbrev pub one_of : Side → Option Piece → ℕ
one_of side o = cond (is_of side o) 1 0

-- what the move empties counts at least the mover's piece
pub without_count : (p : Placement) (m : Move) (side : Side) → length p.cells ≡ 50 → 1 ≤ m.from → m.from ≤ 50
    → count_by (is_of side) (without p (emptied m)).cells + one_of side (at p m.from) ≤ count_by (is_of side) p.cells
without_count p m side len low high =
    let now = fewer (is_of side) refl (without p (emptied m)).cells (set p.cells (m.from - 1) None)
    (sym (length-set p.cells (m.from - 1) None ∙ len)) (without_cases_origin p m len low) in
    omega (arith, sum_by-set (one_of side) p.cells (m.from - 1) None None (omega arith))

-- a crowned piece is no man on its last row
and_off : (b : Bool) → (b && false) ≡ false
and_off true = refl
and_off false = refl

pub crowned_fits : (g : Geometry) (s : ℕ) (piece : Piece) → is_stuck g s (Some (crowned g s piece)) ≡ false
crowned_fits g s piece = elim (cases_Bool (on_last_row g piece.side s)) [
  | inl e ↦ rw e refl
  | inr e ↦ rw e (and_off (is_man piece.kind))
]

-- where jumps from a square of the board end
pub jumps_end : (g : Geometry) → IsBoard g → (p : Placement) (piece : Piece) (s : ℕ) (ts cs : List ℕ) → OnBoard g s
    → Jumps g p piece s ts cs → OnBoard g (last_of s ts)
jumps_end g b p piece s [] [] on h = on
jumps_end g b p piece s [] (c ∷ cs) on h = absurd h
jumps_end g b p piece s (t ∷ ts) [] on h = absurd h
jumps_end g b p piece s (t ∷ ts) (c ∷ cs) on h =
    jumps_end g b p piece t ts cs (ray_of_on g b g.rows s h.0.dir t on (landing_on_ray g p piece s c t h.0)) h.1

pub legal_ends : (g : Geometry) → IsBoard g → (p : Placement) (m : Move) → Legal g p m → OnBoard g m.to
legal_ends g b p m legal = ends_at legal.0 legal.2 where
  ends_at : (k : ℕ) → LegalAt g p k m → OnBoard g m.to
  ends_at zero h = ray_of_on g b g.rows m.from h.0.dir m.to h.0.stands.on_board (subst (Member m.to) (sym h.0.on_ray)
      (mem_at m.to h.0.between h.0.beyond))
  ends_at (suc k) h = subst (OnBoard g) h.1.ends (jumps_end g b (placed p m.from None) h.1.path.piece m.from h.0
      h.1.over h.1.path.stands.on_board h.1.path.jumps)

-- the mover's piece stands on the origin
pub legal_stands : (g : Geometry) (p : Placement) (m : Move) → Legal g p m → (piece : Piece) × Stands g p m.from piece
legal_stands g p m legal = at_k legal.0 legal.2 where
  at_k : (k : ℕ) → LegalAt g p k m → (piece : Piece) × Stands g p m.from piece
  at_k zero h = (h.0.piece, h.0.stands)
  at_k (suc k) h = (h.1.path.piece, h.1.path.stands)

side_stays : (g : Geometry) (p : Placement) (m : Move) (side : Side) (piece : Piece) → length p.cells ≡ 50
    → OnBoard g m.from → squares g ≤ 50 → OnBoard g m.to → at p m.from ≡ Some piece
    → count_by (is_of side) (play g p m).cells ≤ count_by (is_of side) p.cells
side_stays g p m side piece len from fifty to there =
    let o : Option Piece = landed g m.to (at p m.from) in
    let same : one_of side o ≡ one_of side (at p m.from) = rw there refl in
    omega (
      arith,
      without_count p m side len from.0 (omega arith),
      sum_by-set (one_of side)
          (without p (emptied m)).cells (m.to - 1) o None (omega (arith, without_length p (emptied m))),
    )

left_stuck : (g : Geometry) (p : Placement) (m : Move) (s : ℕ) → is_stuck g s (at p s) ≡ false
    → is_stuck g s (left p (emptied m) s) ≡ false
left_stuck g p m s e = elim (left_cases p (emptied m) s) [ inl h ↦ rw h refl | inr h ↦ rw h e ]

-- a square of the placement after a move: the last square, or what is left
pub play_at : (g : Geometry) (p : Placement) (m : Move) (s : ℕ) → 1 ≤ s → s ≤ 50 → (s ≡ m.to → ⊥) → 1 ≤ m.to
    → at (play g p m) s ≡ left p (emptied m) s
play_at g p m s low high ne to_low =
    let apart : s - 1 ≢ m.to - 1 = λ e. ne (omega arith) in
    let same : s - 1 + 1 ≡ s = omega arith in
    get_or-set_other (without p (emptied m)).cells (m.to - 1) (s - 1) (landed g m.to (at p m.from)) None apart
    ∙ (without_at p (emptied m) (s - 1) (omega arith) ∙ ap (left p (emptied m)) same)

pub play_to : (g : Geometry) (p : Placement) (m : Move) → 1 ≤ m.to → m.to ≤ 50 → at (play g p m) m.to
    ≡ landed g m.to (at p m.from)
play_to g p m low high = get_or-set_same (without p (emptied m)).cells (m.to - 1) (landed g m.to (at p m.from)) None
    (omega (arith, without_length p (emptied m)))

pub past_none : (p : Placement) (ss : Squares) (s : ℕ) → at p s ≡ None → left p ss s ≡ None
past_none p ss s e = elim (left_cases p ss s) [ inl h ↦ h | inr h ↦ h ∙ e ]

-- numbers, as they are compared here
fits_still : (a b n : ℕ) → a ≤ b → b ≤ n → a ≤ n
fits_still a b n h k = omega (arith, h, k)

past_apart : (n s t : ℕ) → n < t → s ≤ n → t ≡ s → ⊥
past_apart n s t past within e = absurd (omega (arith, past, within, e))

past_low : (n t : ℕ) → n < t → 1 ≤ t
past_low n t past = omega (arith, past)

-- nothing stands past the squares
cells_past : (p : Placement) (t : ℕ) → length p.cells ≡ 50 → 50 < t → at p t ≡ None
cells_past p t len past = get_or_past p.cells (t - 1) None (omega (arith, len, past))

pub play_stays : PlayStays
play_stays g b p m pos legal =
    let s = legal_stands g p m legal in
    let piece : Piece = s.0 in
    let from : OnBoard g m.from = s.1.on_board in
    let to : OnBoard g m.to = legal_ends g b p m legal in
    let fifty : squares g ≤ 50 = b.squares_high in
    let to_fifty : m.to ≤ 50 = fits_still m.to (squares g) 50 to.1 fifty in
    let q : Placement = play g p m in
    let o : Option Piece = landed g m.to (at p m.from) in
    let o_is : o ≡ Some (crowned g m.to piece) = ap (landed g m.to) s.1.there in
    let len : length q.cells ≡ 50 = length-set (without p (emptied m)).cells (m.to - 1) o
    ∙ without_length p (emptied m) in
    record {
      fifty = len;
      on_board = λ t past. elim (cases_lt 50 t) [
        | inl beyond ↦ cells_past q t len beyond
        | inr within ↦
            play_at g p m t (past_low (squares g) t past) within (past_apart (squares g) m.to t past to.1) to.0
            ∙ past_none p (emptied m) t (pos.on_board t past)
      ];
      white_fits = fits_still (count_by (is_of White) q.cells) (count_by (is_of White) p.cells) g.side
          (side_stays g p m White piece pos.fifty from fifty to s.1.there) pos.white_fits;
      black_fits = fits_still (count_by (is_of Black) q.cells) (count_by (is_of Black) p.cells) g.side
          (side_stays g p m Black piece pos.fifty from fifty to s.1.there) pos.black_fits;
      no_stuck_man = λ t low. elim (cases_eq t m.to) [
        | inl e ↦ subst (λ z. is_stuck g z (at q z) ≡ false) (sym e)
            (ap (is_stuck g m.to) (play_to g p m to.0 to_fifty ∙ o_is) ∙ crowned_fits g m.to piece)
        | inr ne ↦ elim (cases_lt 50 t) [
          | inl beyond ↦ ap (is_stuck g t) (cells_past q t len beyond)
          | inr within ↦ ap (is_stuck g t) (play_at g p m t low within ne to.0)
              ∙ left_stuck g p m t (pos.no_stuck_man t low)
        ]
      ];
    }
