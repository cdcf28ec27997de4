-- The pieces of a position, put one after another on the empty board, give the position again.
use Rattle.std.proofs.Common.{◌≡◌, ℕ, suc, zero, ◌+◌, ◌-◌, ◌≤◌, ◌<◌, ◌≢◌, Bool, true, false, ◌||◌, ◌&&◌, cond, leb, ltb}
use Rattle.std.proofs.Common.{List, [], ◌∷◌, ◌++◌, length, get_or, map, filter, replicate, count_by, Option, Some, None}
use Rattle.std.proofs.Common.{is_some, refl, sym, ap, ◌∙◌, subst, arith, inl, inr, get_or-set_other, get_or-set_same}
use Rattle.std.proofs.Common.{length-set}
use Rattle.std.specs.List.{range_with_len}
use Rattle.std.proofs.lemmas.Bool.{cases_Bool, cases_eq, cases_lt, lt-ltb, le-ltb, lt-leb, true≢false}
use Rattle.std.proofs.lemmas.List.{same_lists, get_or_past, get_or-replicate, length-replicate, get_or_default}
use Rattle.std.proofs.lemmas.List.Sums.{sum_by-set, sum_by-append}
use Rattle.dw_board.specs.Geometry.{Geometry, IsBoard, squares}
use Rattle.dw_board.specs.Placement.{Placement, IsPosition, empty, at, placed, put_fault, is_of, is_stuck, count}
use Rattle.dw_board.specs.Placement.{same_side}
use Rattle.dw_board.specs.FenGrammar.{Sets}
use Rattle.dw_board.specs.declared.piece.Side.{Side}
use Rattle.dw_board.specs.declared.piece.Side.TheVariants.{White, Black}
use Rattle.dw_board.specs.declared.piece.Kind.{Kind}
use Rattle.dw_board.specs.declared.piece.Kind.TheVariants.{Man}
use Rattle.dw_board.specs.declared.piece.Piece.{Piece}
use Rattle.dw_board.proofs.FenSoundLemmas.{Sets-append}

-- ---- counts of lists of cells
abbrev one_if : Bool → ℕ
one_if b = cond b 1 0

one_le : (b c : Bool) (m n : ℕ) → (b ≡ true → c ≡ true) → m ≤ n → cond b 1 0 + m ≤ cond c 1 0 + n
one_le true true m n h le = omega arith
one_le true false m n h le = let bad : false ≡ true = h refl in absurd (true≢false (sym bad))
one_le false true m n h le = omega arith
one_le false false m n h le = omega arith

-- where each cell of a side is one in the other list too, there are no more of them
count-le : (side : Side) (xs ys : List (Option Piece)) → length xs ≡ length ys
    → ((i : ℕ) → is_of side (get_or xs i None) ≡ true → is_of side (get_or ys i None) ≡ true)
    → count_by (is_of side) xs ≤ count_by (is_of side) ys
count-le side [] ys len h = omega arith
count-le side (x ∷ xs) [] len h = absurd (omega arith)
count-le side (x ∷ xs) (y ∷ ys) len h =
    omega (
      arith,
      one_le (is_of side x) (is_of side y) _ _ (h 0) (count-le side xs ys (omega arith) (λ i. h (suc i))),
      sum_by-append (λ z. one_if (is_of side z)) (x ∷ []) xs,
      sum_by-append (λ z. one_if (is_of side z)) (y ∷ []) ys,
    )

same_side-refl : (side : Side) → same_side side side ≡ true
same_side-refl White = refl
same_side-refl Black = refl

is_of-some : (side : Side) (o : Option Piece) → is_of side o ≡ true → (piece : Piece) × (o ≡ Some piece)
    × (piece.side ≡ side)
is_of-some side None h = absurd (true≢false (sym h))
is_of-some side (Some piece) h = (piece, refl, same_sides piece.side side h) where
  same_sides : (a b : Side) → same_side a b ≡ true → a ≡ b
  same_sides White White e = refl
  same_sides White Black e = cc
  same_sides Black White e = cc
  same_sides Black Black e = refl

-- ---- a part of a position
pub record IsPart (keep : ℕ → Bool) (q p : Placement) : Type 0 where
  pub turn : p.turn ≡ q.turn
  pub fifty : length p.cells ≡ 50
  pub cells : (t : ℕ) → 1 ≤ t → at p t ≡ cond (keep t) (at q t) None

-- what is kept: some squares, and those of a side before a square
abbrev pub upto : Side → Placement → (ℕ → Bool) → ℕ → ℕ → Bool
upto side q base a t = base t || (is_of side (at q t) && ltb t a)

part-same : (keep other : ℕ → Bool) (q p : Placement)
    → ((t : ℕ) → 1 ≤ t → cond (keep t) (at q t) None ≡ cond (other t) (at q t) None) → IsPart keep q p
    → IsPart other q p
part-same keep other q p h part = record {
  turn = part.turn;
  fifty = part.fifty;
  cells = λ t low. part.cells t low ∙ h t low;
}

-- the piece of a side on a square
abbrev pub kind_at : Option Piece → Kind
kind_at None = Man
kind_at (Some piece) = piece.kind

abbrev pub piece_on : Side → Placement → ℕ → Piece
piece_on side q s = record { side = side; kind = kind_at (at q s) }

is_of-piece : (side : Side) (o : Option Piece) → is_of side o ≡ true
    → o ≡ Some (record { side = side; kind = kind_at o })
is_of-piece side None h = absurd (true≢false (sym h))
is_of-piece side (Some piece) h = let x = is_of-some side (Some piece) h in
    ap (λ z. Some (record { side = z; kind = piece.kind })) (same_piece x) where
      same_piece : (x : (p : Piece) × (Some piece ≡ Some p) × (p.side ≡ side)) → piece.side ≡ side
      same_piece x = let e : piece ≡ x.0 = cc in ap (λ z. z.side) e ∙ x.2

-- the squares of a side among some, each with its piece
abbrev pub pieces_of : Side → Placement → List ℕ → List (ℕ × Piece)
pieces_of side q ss = map (λ s. (s, piece_on side q s)) (filter (λ s. is_of side (at q s)) ss)

is_of-other : (o : Option Piece) (a b : Side) → a ≢ b → is_of a o ≡ true → is_of b o ≡ false
is_of-other o a b ne h = elim (cases_Bool (is_of b o)) [
  | inl k ↦
      let x = is_of-some a o h in
      let y = is_of-some b o k in
      let same : x.0 ≡ y.0 = cc in
      absurd (ne (sym x.2 ∙ (ap (λ z. z.side) same ∙ y.2)))
  | inr k ↦ k
]

past_here : (side : Side) (q : Placement) (base : ℕ → Bool) (a t : ℕ) → is_of side (at q a) ≡ false
    → upto side q base a t ≡ upto side q base (a + 1) t
past_here side q base a t off = elim (cases_eq t a) [
  | inl e ↦ let o : is_of side (at q t) ≡ false = ap (λ x. is_of side (at q x)) e ∙ off in rw o refl
  | inr ne ↦ elim (cases_lt t a) [
    | inl low ↦ let l : ltb t a ≡ true = lt-ltb t a low in let m : ltb t (a + 1)
        ≡ true = lt-ltb t (a + 1) (omega arith) in rw (l, m) refl
    | inr high ↦ let l : ltb t a ≡ false = le-ltb t a high in let m : ltb t (a + 1)
        ≡ false = le-ltb t (a + 1) (omega arith) in rw (l, m) refl
  ]
]

other_square : (side : Side) (q : Placement) (base : ℕ → Bool) (a t : ℕ) → t ≢ a → upto side q base a t
    ≡ upto side q base (a + 1) t
other_square side q base a t ne = elim (cases_lt t a) [
  | inl low ↦ let l : ltb t a ≡ true = lt-ltb t a low in let m : ltb t (a + 1)
      ≡ true = lt-ltb t (a + 1) (omega arith) in rw (l, m) refl
  | inr high ↦ let l : ltb t a ≡ false = le-ltb t a high in let m : ltb t (a + 1)
      ≡ false = le-ltb t (a + 1) (omega arith) in rw (l, m) refl
]

is_part-count : (side : Side) (keep : ℕ → Bool) (q p : Placement) → IsPart keep q p → length q.cells ≡ 50
    → count p side ≤ count q side
is_part-count side keep q p part len = count-le side p.cells q.cells (part.fifty ∙ sym len)
    (λ i h. from_cond side (keep (suc i)) (get_or q.cells i None)
    (ap (is_of side) (sym (cell i)) ∙ h)) where
      cell : (i : ℕ) → get_or p.cells i None ≡ cond (keep (suc i)) (get_or q.cells i None) None
      cell i = let e : suc i - 1 ≡ i = omega arith in
          ap (λ k. get_or p.cells k None) (sym e) ∙ (part.cells (suc i) (omega arith)
          ∙ ap (λ k. cond (keep (suc i)) (get_or q.cells k None) None) e)

      from_cond : (side : Side) (b : Bool) (o : Option Piece) → is_of side (cond b o None) ≡ true → is_of side o ≡ true
      from_cond side true o h = h
      from_cond side false o h = absurd (true≢false (sym h))

-- one piece more
module _ (g : Geometry) (on : IsBoard g) (q : Placement) (pos : IsPosition g q.cells) (side : Side) (base : ℕ
    → Bool) (free : (t : ℕ) → is_of side (at q t) ≡ true → base t ≡ false) where
  bound : g.side ≤ g.side
  bound = omega arith

  side_bound : count q side ≤ g.side
  side_bound = elim side as (λ s. count q s ≤ g.side) [ White ↦ pos.white_fits | Black ↦ pos.black_fits ]

  here_empty : (a : ℕ) (p : Placement) → 1 ≤ a → is_of side (at q a) ≡ true → IsPart (upto side q base a) q p
      → at p a ≡ None
  here_empty a p low held part =
      let l : ltb a a ≡ false = le-ltb a a (omega arith) in
      part.cells a low ∙ rw (free a held, held, l) refl

  next_part : (a : ℕ) (p : Placement) → 1 ≤ a → a ≤ squares g → is_of side (at q a) ≡ true
      → IsPart (upto side q base a) q p
      → IsPart (upto side q base (a + 1)) q (placed p a (Some (piece_on side q a)))
  next_part a p low high held part = record {
    turn = part.turn;
    fifty = length-set p.cells (a - 1) (Some (piece_on side q a)) ∙ part.fifty;
    cells = λ t t_low. elim (cases_eq t a) [
      | inl e ↦
          let room : a - 1 < length p.cells = omega (arith, part.fifty, on.squares_high) in
          let l : ltb a (a + 1) ≡ true = lt-ltb a (a + 1) (omega arith) in
          rw e (get_or-set_same p.cells (a - 1) (Some (piece_on side q a)) None room
          ∙ (sym (is_of-piece side (at q a) held) ∙ sym (rw (free a held, held, l) refl)))
      | inr ne ↦
          let apart : t - 1 ≢ a - 1 = (λ x. ne (omega arith)) in
          get_or-set_other p.cells (a - 1) (t - 1) (Some (piece_on side q a)) None apart
          ∙ (part.cells t t_low ∙ ap (λ b. cond b (at q t) None) (other_square side q base a t ne))
    ];
  }

  may_put : (a : ℕ) (p : Placement) → 1 ≤ a → a ≤ squares g → is_of side (at q a) ≡ true
      → IsPart (upto side q base a) q p → put_fault g p a (piece_on side q a) ≡ None
  may_put a p low high held part =
      let none = here_empty a p low held part in
      let there : is_some (at p a) ≡ false = ap is_some none in
      let stuck : is_stuck g a (Some (piece_on side q a))
      ≡ false = ap (is_stuck g a) (sym (is_of-piece side (at q a) held)) ∙ pos.no_stuck_man a low in
      let room : a - 1 < length p.cells = omega (arith, part.fifty, on.squares_high) in
      let all = is_part-count side (upto side q base (a + 1)) q (placed p a (Some (piece_on side q a)))
      (next_part a p low high held part) pos.fifty in
      let one = sum_by-set (λ x. cond (is_of side x) 1 0) p.cells (a - 1) (Some (piece_on side q a)) None room in
      let gain : one_if (is_of side (Some (piece_on side q a))) ≡ 1 = ap one_if (same_side-refl side) in
      let lost : one_if (is_of side (get_or p.cells (a - 1) None)) ≡ 0 = ap (λ o. one_if (is_of side o)) none in
      let few : count p side < g.side = omega (arith, all, one, gain, lost, side_bound) in
      let fits : leb g.side (count p side) ≡ false = lt-leb g.side (count p side) few in
      rw (there, stuck, fits) refl

  pub fill : (n a : ℕ) (p : Placement) → 1 ≤ a → a + n ≡ squares g + 1 → IsPart (upto side q base a) q p
      → (r : Placement) × Sets g p (pieces_of side q (range_with_len a n)) r
      × IsPart (upto side q base (squares g + 1)) q r
  fill zero a p low sum part = (
    p,
    refl,
    (let e : a ≡ squares g + 1 = omega arith in
        subst (λ k. IsPart (upto side q base k) q p) e part),
  )
  fill (suc n) a p low sum part = elim (cases_Bool (is_of side (at q a))) [
    | inl held ↦
        let next = fill n (a + 1) (placed p a (Some (piece_on side q a))) (omega arith) (omega arith)
        (next_part a p low (omega arith) held part) in
        (next.0, rw held (may_put a p low (omega arith) held part, next.1), next.2)
    | inr off ↦
        let next = fill n (a + 1) p (omega arith) (omega arith)
        (part-same (upto side q base a) (upto side q base (a + 1)) q p (λ t t_low. ap (λ b. cond b (at q t) None)
        (past_here side q base a t off)) part) in
        (next.0, rw off next.1, next.2)
  ]

-- ---- both sides
nothing_kept : (a b : Bool) (o : Option Piece) → b ≡ false → cond (false || (a && b)) o None ≡ None
nothing_kept true b o h = rw h refl
nothing_kept false b o h = refl

nothing_more : (x a b : Bool) → b ≡ false → x ≡ (x || (a && b))
nothing_more true a b h = refl
nothing_more false true b h = sym h
nothing_more false false b h = refl

all_kept : (q : Placement) (none : ℕ → Bool) (t : ℕ) (piece : Piece) (end : ℕ) → at q t ≡ Some piece → ltb t end ≡ true
    → upto Black q (upto White q none end) end t ≡ true
all_kept q none t piece end e low = kept_side (none t) piece.side (is_of White (at q t)) (is_of Black (at q t))
    (ltb t end) (ap (is_of White) e) (ap (is_of Black) e) low where
      kept_side : (x : Bool) (side : Side) (a b l : Bool) → a ≡ same_side side White → b ≡ same_side side Black
          → l ≡ true
          → ((x || (a && l)) || (b && l)) ≡ true
      kept_side true side a b l h k low = refl
      kept_side false White a b l h k low = rw (h, low) refl
      kept_side false Black a b l h k low = rw (h, k, low) refl

part_whole : (g : Geometry) (q p : Placement) → IsPosition g q.cells → (keep : ℕ → Bool)
    → ((t : ℕ) → 1 ≤ t → t ≤ squares g → (piece : Piece) → at q t ≡ Some piece → keep t ≡ true) → IsPart keep q p
    → p ≡ q
part_whole g q p pos keep all part = λ i. record { cells = same i; turn = part.turn i } where
  kept : (b : Bool) (o : Option Piece) → ((piece : Piece) → o ≡ Some piece → b ≡ true) → cond b o None ≡ o
  kept true o h = refl
  kept false None h = refl
  kept false (Some piece) h = absurd (true≢false (sym (h piece refl)))

  on_squares : (t : ℕ) → 1 ≤ t → at p t ≡ at q t
  on_squares t low = part.cells t low ∙ (elim (cases_lt (squares g) t) [
    | inl past ↦ ap (λ o. cond (keep t) o None) (pos.on_board t past) ∙ (none (keep t) ∙ sym (pos.on_board t past))
    | inr high ↦ kept (keep t) (at q t) (all t low high)
  ]) where
    none : (b : Bool) → cond {A = Option Piece} b None None ≡ None
    none true = refl
    none false = refl

  same : p.cells ≡ q.cells
  same = same_lists p.cells q.cells (part.fifty ∙ sym pos.fifty) (λ k d h.
      let e : suc k - 1 ≡ k = omega arith in
      let low : k < length q.cells = omega (arith, part.fifty, pos.fifty) in
      sym (get_or_default p.cells k None d h) ∙ (ap (λ n. get_or p.cells n None) (sym e)
      ∙ (on_squares (suc k) (omega arith) ∙ (ap (λ n. get_or q.cells n None) e
      ∙ get_or_default q.cells k None d low))))

empty_at : (n i : ℕ) → get_or {A = Option Piece} (replicate n None) i None ≡ None
empty_at n i = elim (cases_lt i n) [
  | inl h ↦ get_or-replicate n i None None h
  | inr h ↦ get_or_past (replicate n None) i None (rw length-replicate h)
]

white_black : White ≢ Black
white_black e = cc

-- White's pieces and then Black's, ascending, put on the empty board, give the position
pub sets_all : (g : Geometry) → IsBoard g → (q : Placement) → IsPosition g q.cells
    → Sets g (empty q.turn) (pieces_of White q (range_with_len 1 (squares g))
    ++ pieces_of Black q (range_with_len 1 (squares g))) q
sets_all g on q pos =
    let none : ℕ → Bool = λ t. false in
    let start : IsPart (upto White q none 1) q (empty q.turn) = record {
      turn = refl;
      fifty = length-replicate {A = Option Piece} 50 None;
      cells = λ t low. let l : ltb t 1 ≡ false = le-ltb t 1 low in empty_at 50 (t - 1)
          ∙ sym (nothing_kept (is_of White (at q t)) (ltb t 1) (at q t) l);
    } in
    let sum : 1 + squares g ≡ squares g + 1 = omega arith in
    let whites = fill g on q pos White none (λ t h. refl) (squares g) 1 (empty q.turn) (omega arith) sum start in
    let base : ℕ → Bool = upto White q none (squares g + 1) in
    let begun : IsPart (upto Black q base 1) q whites.0 =
    part-same base (upto Black q base 1) q whites.0 (λ t low. let l : ltb t 1
    ≡ false = le-ltb t 1 low in ap (λ b. cond b (at q t) None) (nothing_more (base t) (is_of Black (at q t))
    (ltb t 1) l)) whites.2 in
    let free : (t : ℕ) → is_of Black (at q t) ≡ true
    → base t ≡ false = λ t h. rw (is_of-other (at q t) Black White (λ e. white_black (sym e)) h) refl in
    let blacks = fill g on q pos Black base free (squares g) 1 whites.0 (omega arith) sum begun in
    let whole = part_whole g q blacks.0 pos (upto Black q base (squares g + 1)) (λ t low high piece e. all_kept q none t
    piece (squares g + 1) e (lt-ltb t (squares g + 1) (omega arith))) blacks.2 in
    Sets-append g (empty q.turn) whites.0 q _ _ whites.1
    (subst (Sets g whites.0 (pieces_of Black q (range_with_len 1 (squares g)))) whole blacks.1)
