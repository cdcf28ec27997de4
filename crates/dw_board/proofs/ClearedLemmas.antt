-- A position stays one where some squares are emptied, and its sets lose these squares.
use Rattle.std.proofs.Common.{◌≡◌, ◌∙◌, ℕ, ◌+◌, ◌-◌, ◌≤◌, ◌<◌, Bool, true, false, cond, not, ◌&&◌, leb, List, [], ◌∷◌}
use Rattle.std.proofs.Common.{Option, None, length, get_or, map, count_by, refl, sym, ap, subst, arith, inl, inr}
use Rattle.std.specs.List.{range_with_len}
use Rattle.std.specs.FinSet as set
use Rattle.std.specs.Cmp.{nat_cmp_total}
use Rattle.std.proofs.lemmas.Bool.{cases_Bool, cases_lt, and_parts, leb-true}
use Rattle.std.proofs.lemmas.List.{ext_get_or, get_or_past}
use Rattle.std.proofs.lemmas.List.Sums.{sum_by-cons}
use Rattle.std.proofs.lemmas.List.FromFn.{length-map-range_with_len, get_or-map-range_with_len}
use Rattle.dw_board.specs.declared.piece.Side.{Side}
use Rattle.dw_board.specs.declared.piece.Side.TheVariants.{White, Black}
use Rattle.dw_board.specs.declared.piece.Kind.{Kind}
use Rattle.dw_board.specs.declared.piece.Piece.{Piece}
use Rattle.dw_board.specs.Geometry.{Geometry, Squares}
use Rattle.dw_board.specs.inner.SquareSetLemmas.{and-false, and-true}
use Rattle.dw_board.specs.Placement.{Placement, IsPosition, is_of, is_stuck, at, left, without}
use Rattle.dw_board.specs.PieceSets.{is_that, standing, IsKept}
use Rattle.dw_board.specs.inner.PieceSetLemmas.{contains-standing}

-- ---- each square
here : (p : Placement) (emptied : Squares) (s : ℕ) → 1 ≤ s → s ≤ 50 → get_or (without p emptied).cells (s - 1) None
    ≡ left p emptied s
here p emptied s low high = get_or-map-range_with_len (left p emptied) 1 50 (s - 1) s None (omega arith) (omega arith)

past : (p : Placement) (emptied : Squares) (s : ℕ) → 50 < s → get_or (without p emptied).cells (s - 1) None ≡ None
past p emptied s high = get_or_past (without p emptied).cells (s - 1) None
    (omega (arith, length-map-range_with_len (left p emptied) 1 50))

either : (P : Option Piece → Type 0) (b : Bool) (o : Option Piece) → P None → P o → P (cond b None o)
either P true o none some = none
either P false o none some = some

-- what holds of an empty square and of the square before, holds of the square after
holds : (P : Option Piece → Type 0) (p : Placement) (emptied : Squares) (s : ℕ) → 1 ≤ s → P None → P (at p s)
    → P (get_or (without p emptied).cells (s - 1) None)
holds P p emptied s low none before = elim (cases_lt 50 s) [
  | inl high ↦ subst P (sym (past p emptied s high)) none
  | inr fits ↦ subst P (sym (here p emptied s low fits)) (either P (set.contains emptied s) (at p s) none before)
]

-- ---- the number of pieces
fewer_here : (side : Side) (b : Bool) (o : Option Piece) → cond (is_of side (cond b None o)) 1 0
    ≤ cond (is_of side o) 1 0
fewer_here side true o = omega arith
fewer_here side false o = omega arith

fewer : (side : Side) (p : Placement) (emptied : Squares) (xs : List ℕ)
    → count_by (is_of side) (map (left p emptied) xs) ≤ count_by (is_of side) (map (at p) xs)
fewer side p emptied [] = omega arith
fewer side p emptied (x ∷ xs) =
    let a = fewer_here side (set.contains emptied x) (at p x) in
    let b = fewer side p emptied xs in
    let after = sum_by-cons (λ o. cond (is_of side o) 1 0) (left p emptied x) (map (left p emptied) xs) in
    let before = sum_by-cons (λ o. cond (is_of side o) 1 0) (at p x) (map (at p) xs) in
    omega arith

all_cells : (p : Placement) → length p.cells ≡ 50 → map (at p) (range_with_len 1 50) ≡ p.cells
all_cells p fifty = ext_get_or None _ _ (length-map-range_with_len (at p) 1 50 ∙ sym fifty) (λ i low.
    let few : i < 50 = omega (arith, length-map-range_with_len (at p) 1 50) in
    let behind : i + 1 - 1 ≡ i = omega arith in
    get_or-map-range_with_len (at p) 1 50 i (i + 1) None few (omega arith) ∙ ap (λ k. get_or p.cells k None) behind)

pub few_left : (side : Side) (p : Placement) (emptied : Squares) (limit : ℕ) → length p.cells ≡ 50
    → count_by (is_of side) p.cells ≤ limit → count_by (is_of side) (without p emptied).cells ≤ limit
few_left side p emptied limit fifty fits =
    let a = fewer side p emptied (range_with_len 1 50) in
    let b = ap (count_by (is_of side)) (all_cells p fifty) in
    omega arith

IsPosition-without : (g : Geometry) (p : Placement) (emptied : Squares) → IsPosition g p.cells
    → IsPosition g (without p emptied).cells
IsPosition-without g p emptied is = record {
  fifty = length-map-range_with_len (left p emptied) 1 50;
  on_board = λ s high. holds (λ o. o ≡ None) p emptied s (omega arith) refl (is.on_board s high);
  white_fits = few_left White p emptied g.side is.fifty is.white_fits;
  black_fits = few_left Black p emptied g.side is.fifty is.black_fits;
  no_stuck_man = λ s low. holds (λ o. is_stuck g s o ≡ false) p emptied s low refl (is.no_stuck_man s low);
}

-- ---- the sets
that_left : (side : Side) (k : Kind) (b : Bool) (o : Option Piece) → is_that side k (cond b None o)
    ≡ (is_that side k o && not b)
that_left side k true o = sym (and-false _)
that_left side k false o = sym (and-true _)

standing-without : (p : Placement) (emptied : Squares) (side : Side) (k : Kind)
    → standing (without p emptied).cells side k ≡ set.difference (standing p.cells side k) emptied
standing-without p emptied side k = set.same_set nat_cmp_total set.nat_cmp-IsAntisymmetric _ _ (λ q.
    contains-standing (without p emptied).cells side k q
    ∙ (elim (cases_Bool (leb 1 q && leb q 50)) [
      | inl e ↦
          let r = and_parts _ _ e in
          rw e (ap (is_that side k) (here p emptied q (leb-true _ _ r.0) (leb-true _ _ r.1))
          ∙ that_left side k (set.contains emptied q) (at p q))
      | inr e ↦ rw e refl
    ] ∙ sym (set.contains-difference nat_cmp_total (standing p.cells side k) emptied q
    ∙ ap (λ b. b && not (set.contains emptied q)) (contains-standing p.cells side k q))))

pub kept-without : (g : Geometry) (p : Placement) (sets now : Side → Kind → Squares) (emptied : Squares)
    → IsKept g p.cells sets
    → ((side : Side) (k : Kind) → now side k ≡ set.difference (sets side k) emptied)
    → IsKept g (without p emptied).cells now
kept-without g p sets now emptied is goes = record {
  position = IsPosition-without g p emptied is.position;
  standing_is = λ side k. standing-without p emptied side k
      ∙ (ap (λ v. set.difference v emptied) (is.standing_is side k) ∙ sym (goes side k));
}
