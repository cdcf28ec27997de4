-- A position stays one where a piece is put or taken away, and the empty one is one.
use Rattle.std.proofs.Common.{◌≡◌, ◌∙◌, ℕ, ◌+◌, ◌-◌, ◌≤◌, ◌<◌, ◌≢◌, Bool, true, false, cond, List, Option, Some, None}
use Rattle.std.proofs.Common.{length, get_or, set, replicate, count_by, refl, subst, arith, get_or-set_other}
use Rattle.std.proofs.Common.{get_or-set_same, length-set, inl, inr}
use Rattle.std.proofs.lemmas.Bool.{cases_eq, cases_lt}
use Rattle.std.proofs.lemmas.List.Sums.{sum_by-set}
use Rattle.std.proofs.lemmas.List.{get_or-replicate, get_or_past, length-replicate}
use Rattle.dw_board.specs.declared.piece.Side.{Side}
use Rattle.dw_board.specs.declared.piece.Side.TheVariants.{White, Black}
use Rattle.dw_board.specs.declared.piece.Piece.{Piece}
use Rattle.dw_board.specs.Geometry.{Geometry, squares}
use Rattle.dw_board.specs.Placement.{IsPosition, is_of, is_stuck, same_side}

pub same_side-true : (a b : Side) → same_side a b ≡ true → a ≡ b
same_side-true White White e = refl
same_side-true White Black e = cc
same_side-true Black White e = cc
same_side-true Black Black e = refl

counted : (b : Bool) (was now limit z : ℕ) → now + z ≡ was + cond b 1 0 → z ≡ 0 → was ≤ limit → (b ≡ true → was < limit)
    → now ≤ limit
counted true was now limit z e f fits few = let h = few refl in omega arith
counted false was now limit z e f fits few = omega arith

-- a piece put on an empty cell adds one to its side and nothing to the other
side_fits : (cells : List (Option Piece)) (i : ℕ) (p : Piece) (side : Side) (limit : ℕ) → i < length cells
    → get_or cells i None ≡ None
    → count_by (is_of side) cells ≤ limit → (p.side ≡ side → count_by (is_of side) cells < limit)
    → count_by (is_of side) (set cells i (Some p)) ≤ limit
side_fits cells i p side limit len free fits few =
    counted (same_side p.side side) _ _ limit _ (sum_by-set (λ x. cond (is_of side x) 1 0) cells i (Some p) None len)
    (rw free refl) fits (λ h. few (same_side-true p.side side h))

-- an emptied cell adds nothing to a side
fewer : (cells : List (Option Piece)) (i : ℕ) (side : Side) (limit : ℕ) → i < length cells → count_by (is_of side) cells
    ≤ limit → count_by (is_of side) (set cells i None) ≤ limit
fewer cells i side limit len fits = let h = sum_by-set (λ x. cond (is_of side x) 1 0) cells i None None len in
    omega arith

pub IsPosition-put : (g : Geometry) (cells : List (Option Piece)) (s : ℕ) (p : Piece) → IsPosition g cells → 1 ≤ s
    → s ≤ squares g → s - 1 < length cells
    → get_or cells (s - 1) None ≡ None → is_stuck g s (Some p) ≡ false → count_by (is_of p.side) cells < g.side
    → IsPosition g (set cells (s - 1) (Some p))
IsPosition-put g cells s p h low on len free stuck few = record {
  fifty = length-set cells (s - 1) (Some p) ∙ h.fifty;
  on_board = λ t past. let ne : t - 1 ≢ s - 1 = omega arith in rw get_or-set_other (h.on_board t past);
  white_fits = side_fits cells (s - 1) p White g.side len free h.white_fits
      (λ e. subst (λ side. count_by (is_of side) cells < g.side) e few);
  black_fits = side_fits cells (s - 1) p Black g.side len free h.black_fits
      (λ e. subst (λ side. count_by (is_of side) cells < g.side) e few);
  no_stuck_man = λ t at. elim (cases_eq t s) [
    | inl e ↦ rw (e, get_or-set_same) stuck
    | inr ne ↦ let ne2 : t - 1 ≢ s - 1 = (λ q. ne (omega arith)) in rw get_or-set_other (h.no_stuck_man t at)
  ];
}

pub IsPosition-clear : (g : Geometry) (cells : List (Option Piece)) (s : ℕ) → IsPosition g cells → s - 1 < length cells
    → 1 ≤ s → IsPosition g (set cells (s - 1) None)
IsPosition-clear g cells s h len low = record {
  fifty = length-set cells (s - 1) None ∙ h.fifty;
  on_board = λ t past. elim (cases_eq (t - 1) (s - 1)) [
    | inl e ↦ rw (e, get_or-set_same) refl
    | inr ne ↦ rw get_or-set_other (h.on_board t past)
  ];
  white_fits = fewer cells (s - 1) White g.side len h.white_fits;
  black_fits = fewer cells (s - 1) Black g.side len h.black_fits;
  no_stuck_man = λ t at. elim (cases_eq (t - 1) (s - 1)) [
    | inl e ↦ rw (e, get_or-set_same) refl
    | inr ne ↦ rw get_or-set_other (h.no_stuck_man t at)
  ];
}

pub empty_cell : (n i : ℕ) → get_or {A = Option Piece} (replicate n None) i None ≡ None
empty_cell n i = elim (cases_lt i n) [
  | inl h ↦ get_or-replicate n i None None h
  | inr h ↦ get_or_past (replicate n None) i None (rw length-replicate h)
]

pub IsPosition-empty : (g : Geometry) → IsPosition g (replicate 50 None)
IsPosition-empty g = record {
  fifty = refl;
  on_board = λ s past. empty_cell 50 (s - 1);
  white_fits = omega arith;
  black_fits = omega arith;
  no_stuck_man = λ s low. rw (empty_cell 50 (s - 1)) refl;
}
