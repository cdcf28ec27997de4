-- A position stays one where a piece is carried to another square.
use Rattle.std.proofs.Common.{◌≡◌, ◌∙◌, ℕ, ◌+◌, ◌-◌, ◌≤◌, ◌<◌, ◌≢◌, Bool, true, false, cond, not, ◌&&◌, ◌||◌, leb}
use Rattle.std.proofs.Common.{List, Option, Some, None, length}
use Rattle.std.proofs.Common.{get_or, set as put_at, count_by, refl, sym, ap, subst, arith, get_or-set_other}
use Rattle.std.proofs.Common.{get_or-set_same, length-set, inl, inr}
use Rattle.std.specs.FinSet as set
use Rattle.std.proofs.lemmas.Bool.{cases_Bool, cases_eq, eq-eqb, or_left, and_from, le-leb}
use Rattle.std.proofs.lemmas.List.{ext_get_or, set-set}
use Rattle.std.proofs.lemmas.List.Sums.{sum_by-set}
use Rattle.std.proofs.lemmas.List.FromFn.{length-map-range_with_len, get_or-map-range_with_len}
use Rattle.dw_board.specs.declared.piece.Side.{Side}
use Rattle.dw_board.specs.declared.piece.Side.TheVariants.{White, Black}
use Rattle.dw_board.specs.declared.piece.Kind.{Kind}
use Rattle.dw_board.specs.declared.piece.Kind.TheVariants.{Man, King}
use Rattle.dw_board.specs.declared.piece.Piece.{Piece}
use Rattle.dw_board.specs.Geometry.{Geometry, IsBoard, OnBoard, Squares}
use Rattle.dw_board.specs.inner.SquareSetLemmas.{contains-insert, and-false}
use Rattle.dw_board.specs.Placement.{Placement, is_of, is_man, is_stuck, same_side, on_last_row, at, left, placed}
use Rattle.dw_board.specs.Placement.{without, crowned, landed, carried}
use Rattle.dw_board.specs.PieceSets.{IsKept, is_that, same_kind}
use Rattle.dw_board.specs.inner.Held.{arrives, entered}
use Rattle.dw_board.specs.inner.PieceSetLemmas.{contains-standing}
use Rattle.dw_board.proofs.ClearedLemmas.{few_left, kept-without}
use Rattle.dw_board.proofs.PieceSetLemmas.{count-fits, kept-entered, kept-left}

-- ---- the number of pieces
same_side-self : (side : Side) → same_side side side ≡ true
same_side-self White = refl
same_side-self Black = refl

-- one piece less
one_less : (p : Placement) (s limit : ℕ) (piece : Piece) → s - 1 < length p.cells → at p s ≡ Some piece
    → count_by (is_of piece.side) p.cells ≤ limit → count_by (is_of piece.side) (placed p s None).cells + 1 ≤ limit
one_less p s limit piece low there fits =
    let one : cond {A = ℕ} (is_of piece.side (get_or p.cells (s - 1) None)) 1 0 ≡ 1 =
    ap (λ o. cond {A = ℕ} (is_of piece.side o) 1 0) there ∙ ap (λ b. cond {A = ℕ} b 1 0) (same_side-self piece.side) in
    let h = sum_by-set (λ x. cond (is_of piece.side x) 1 0) p.cells (s - 1) None None low in
    omega arith

-- a square that is emptied anyway may be emptied before
left_before : (p : Placement) (emptied : Squares) (from s : ℕ) → set.contains emptied from ≡ true → 1 ≤ from → 1 ≤ s
    → left (placed p from None) emptied s ≡ left p emptied s
left_before p emptied from s gone from_low low = elim (cases_eq s from) [
  | inl e ↦ let here : set.contains emptied s ≡ true = ap (set.contains emptied) e ∙ gone in rw here refl
  | inr ne ↦ let apart : s - 1 ≢ from - 1 = (λ q. ne (omega arith)) in
      ap (λ o. cond (set.contains emptied s) None o) (get_or-set_other p.cells (from - 1) (s - 1) None None apart)
]

cells_before : (p : Placement) (emptied : Squares) (from : ℕ) → set.contains emptied from ≡ true → 1 ≤ from
    → (without (placed p from None) emptied).cells ≡ (without p emptied).cells
cells_before p emptied from gone low =
    let before = placed p from None in
    ext_get_or None _ _ (length-map-range_with_len (left before emptied) 1 50
    ∙ sym (length-map-range_with_len (left p emptied) 1 50)) (λ i short.
    let few : i < 50 = omega (arith, length-map-range_with_len (left before emptied) 1 50) in
    get_or-map-range_with_len (left before emptied) 1 50 i (i + 1) None few (omega arith)
    ∙ (left_before p emptied from (i + 1) gone low (omega arith)
    ∙ sym (get_or-map-range_with_len (left p emptied) 1 50 i (i + 1) None few (omega arith))))

-- what is emptied is one piece at least
room : (p : Placement) (emptied : Squares) (from limit : ℕ) (piece : Piece) → length p.cells ≡ 50
    → set.contains emptied from ≡ true
    → 1 ≤ from → from ≤ 50 → at p from ≡ Some piece → count_by (is_of piece.side) p.cells ≤ limit
    → count_by (is_of piece.side) (without p emptied).cells + 1 ≤ limit
room p emptied from limit piece fifty gone low high there fits =
    let less = one_less p from limit piece (omega arith) there fits in
    let few = few_left piece.side (placed p from None) emptied (limit - 1) (length-set p.cells (from - 1) None ∙ fifty)
    (omega arith) in
    let same = ap (count_by (is_of piece.side)) (cells_before p emptied from gone low) in
    omega arith

emptied_too : (cells : List (Option Piece)) (s limit : ℕ) (side : Side) → s - 1 < length cells
    → count_by (is_of side) cells + 1 ≤ limit
    → count_by (is_of side) (put_at cells (s - 1) None) < limit
emptied_too cells s limit side low few =
    let h = sum_by-set (λ x. cond (is_of side x) 1 0) cells (s - 1) None None low in omega arith

-- ---- the piece
crowned_fits : (g : Geometry) (s : ℕ) (piece : Piece) → is_stuck g s (Some (crowned g s piece)) ≡ false
crowned_fits g s piece = elim (cases_Bool (on_last_row g piece.side s)) [
  | inl e ↦ rw e refl
  | inr e ↦ rw e (and-false (is_man piece.kind))
]

origin_goes : (taken : Squares) (from : ℕ) → set.contains (set.insert taken from) from ≡ true
origin_goes taken from = contains-insert taken from from ∙ or_left _ _ (eq-eqb from from refl)

-- ---- the sets
kept-carried : (g : Geometry) → IsBoard g → (p : Placement) (sets low now : Side → Kind
    → Squares) (from to : ℕ) (taken : Squares) (piece : Piece)
    → IsKept g p.cells sets → OnBoard g from → OnBoard g to → at p from ≡ Some piece
    → ((side : Side) (k : Kind) → low side k ≡ set.remove (set.difference (sets side k) (set.insert taken from)) to)
    → ((side : Side) (k : Kind) → now side k ≡ entered side k (low side k) to (crowned g to piece))
    → IsKept g (carried g p from to taken).cells now
kept-carried g b p sets low now from to taken piece is from_on to_on there goes comes =
    let emptied = set.insert taken from in
    let fifty = is.position.fifty in
    let few_squares = b.squares_high in
    let bare = (without p emptied).cells in
    let mid : Side → Kind → Squares = λ side k. set.difference (sets side k) emptied in
    let bare_kept = kept-without g p sets mid emptied is (λ side k. refl) in
    let low_kept = kept-left g b bare mid low to bare_kept to_on goes in
    let short : to - 1 < length bare = omega (arith, to_on.0, to_on.1, bare_kept.position.fifty) in
    let free = get_or-set_same bare (to - 1) None None short in
    let few = emptied_too bare to g.side piece.side short
    (room p emptied from g.side piece fifty (origin_goes taken from) from_on.0 (omega (arith, from_on.1)) there
    (count-fits g p.cells is.position piece.side)) in
    let kept = kept-entered g b (put_at bare (to - 1) None) low now to (crowned g to piece) low_kept to_on free
    (crowned_fits g to piece) few comes in
    let same : put_at (put_at bare (to - 1) None) (to - 1) (Some (crowned g to piece))
    ≡ (carried g p from to taken).cells =
    set-set bare (to - 1) None (Some (crowned g to piece)) ∙ ap (λ o. put_at bare (to - 1) (landed g to o))
    (sym there) in
    subst (λ cells. IsKept g cells now) same kept

-- nothing stood there
kept-none : (g : Geometry) → IsBoard g → (p : Placement) (sets low : Side → Kind
    → Squares) (from to : ℕ) (taken : Squares)
    → IsKept g p.cells sets → OnBoard g to → at p from ≡ None
    → ((side : Side) (k : Kind) → low side k ≡ set.remove (set.difference (sets side k) (set.insert taken from)) to)
    → IsKept g (carried g p from to taken).cells low
kept-none g b p sets low from to taken is to_on there goes =
    let emptied = set.insert taken from in
    let bare = (without p emptied).cells in
    let mid : Side → Kind → Squares = λ side k. set.difference (sets side k) emptied in
    let kept = kept-left g b bare mid low to (kept-without g p sets mid emptied is (λ side k. refl)) to_on goes in
    subst (λ cells. IsKept g cells low) (ap (λ o. put_at bare (to - 1) (landed g to o)) (sym there)) kept

-- ---- what the sets have tells which piece comes
man_comes : (s side : Side) (k : Kind) (last : Side → Bool) → ((same_side s side && same_kind k Man) && not (last side))
    ≡ (same_side s side && same_kind (cond (last s) King k) Man)
man_comes White White Man last = elim (last White) as (λ b. not b ≡ same_kind (cond b King Man) Man)
    [ true ↦ refl | false ↦ refl ]
man_comes White White King last = elim (last White) as (λ b. false ≡ same_kind (cond b King King) Man)
    [ true ↦ refl | false ↦ refl ]
man_comes White Black k last = refl
man_comes Black White k last = refl
man_comes Black Black Man last = elim (last Black) as (λ b. not b ≡ same_kind (cond b King Man) Man)
    [ true ↦ refl | false ↦ refl ]
man_comes Black Black King last = elim (last Black) as (λ b. false ≡ same_kind (cond b King King) Man)
    [ true ↦ refl | false ↦ refl ]

king_comes : (s side : Side) (k : Kind) (last : Side → Bool)
    → ((same_side s side && same_kind k King) || ((same_side s side && same_kind k Man) && last side))
    ≡ (same_side s side && same_kind (cond (last s) King k) King)
king_comes White White Man last = elim (last White) as (λ b. b ≡ same_kind (cond b King Man) King)
    [ true ↦ refl | false ↦ refl ]
king_comes White White King last = elim (last White) as (λ b. true ≡ same_kind (cond b King King) King)
    [ true ↦ refl | false ↦ refl ]
king_comes White Black k last = refl
king_comes Black White k last = refl
king_comes Black Black Man last = elim (last Black) as (λ b. b ≡ same_kind (cond b King Man) King)
    [ true ↦ refl | false ↦ refl ]
king_comes Black Black King last = elim (last Black) as (λ b. true ≡ same_kind (cond b King King) King)
    [ true ↦ refl | false ↦ refl ]

arrives-is : (g : Geometry) (sets : Side → Kind → Squares) (from to : ℕ) (o : Option Piece)
    → ((side : Side) (k : Kind) → set.contains (sets side k) from ≡ is_that side k o)
    → (side : Side) (k : Kind) → arrives g sets from to side k ≡ is_that side k (landed g to o)
arrives-is g sets from to None has side Man = rw (has side Man) refl
arrives-is g sets from to None has side King = rw (has side Man, has side King) refl
arrives-is g sets from to (Some piece) has side Man =
    rw (has side Man) (man_comes piece.side side piece.kind (λ s. on_last_row g s to))
arrives-is g sets from to (Some piece) has side King =
    rw (has side Man, has side King) (king_comes piece.side side piece.kind (λ s. on_last_row g s to))

has_piece : (g : Geometry) → IsBoard g → (p : Placement) (sets : Side → Kind → Squares) (from : ℕ)
    → IsKept g p.cells sets → OnBoard g from
    → (side : Side) (k : Kind) → set.contains (sets side k) from ≡ is_that side k (at p from)
has_piece g b p sets from is on side k =
    let few = b.squares_high in
    let fits : (leb 1 from && leb from 50) ≡ true = and_from _ _ (le-leb _ _ on.0) (le-leb _ _ (omega (arith, on.1))) in
    ap (λ v. set.contains v from) (sym (is.standing_is side k)) ∙ (contains-standing p.cells side k from
    ∙ ap (λ z. z && is_that side k (at p from)) fits)

-- the sets after a piece was carried
pub kept-moved : (g : Geometry) → IsBoard g → (p : Placement) (sets low now : Side → Kind
    → Squares) (from to : ℕ) (taken : Squares)
    → IsKept g p.cells sets → OnBoard g from → OnBoard g to
    → ((side : Side) (k : Kind) → low side k ≡ set.remove (set.difference (sets side k) (set.insert taken from)) to)
    → ((side : Side) (k : Kind) → now side k
    ≡ cond (arrives g sets from to side k) (set.insert (low side k) to) (low side k))
    → IsKept g (carried g p from to taken).cells now
kept-moved g b p sets low now from to taken is from_on to_on goes comes = by_piece (at p from) refl where
  arrived : (o : Option Piece) → at p from ≡ o → (side : Side) (k : Kind)
      → now side k ≡ cond (is_that side k (landed g to o)) (set.insert (low side k) to) (low side k)
  arrived o e side k = comes side k ∙ ap (λ z. cond z (set.insert (low side k) to) (low side k))
      (arrives-is g sets from to o (λ s j. has_piece g b p sets from is from_on s j ∙ ap (is_that s j) e) side k)

  by_piece : (o : Option Piece) → at p from ≡ o → IsKept g (carried g p from to taken).cells now
  by_piece None e = kept-none g b p sets now from to taken is to_on e (λ side k. arrived None e side k ∙ goes side k)
  by_piece (Some piece) e = kept-carried g b p sets low now from to taken piece is from_on to_on e goes
      (arrived (Some piece) e)
