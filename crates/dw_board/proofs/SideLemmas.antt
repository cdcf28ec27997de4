-- The squares on which a side's pieces stand, and those on which any stands.
use Rattle.std.proofs.Common.{◌≡◌, ◌∙◌, ℕ, ◌-◌, ◌↔◌, true, List, Option, Some, None, is_some, get_or, refl, sym, ap}
use Rattle.std.proofs.Common.{◌⊎◌, inl, inr}
use Rattle.std.specs.FinSet as set
use Rattle.std.specs.Cmp.{nat_cmp_total}
use Rattle.std.proofs.lemmas.Bool.{or_cases, or_left, or_right}
use Rattle.dw_board.specs.declared.piece.Side.{Side}
use Rattle.dw_board.specs.declared.piece.Side.TheVariants.{White, Black}
use Rattle.dw_board.specs.declared.piece.Kind.{Kind}
use Rattle.dw_board.specs.declared.piece.Kind.TheVariants.{Man, King}
use Rattle.dw_board.specs.declared.piece.Piece.{Piece}
use Rattle.dw_board.specs.Geometry.{Geometry, IsBoard, OnBoard, Squares}
use Rattle.dw_board.specs.Placement.{is_of, same_side}
use Rattle.dw_board.specs.PieceSets.{IsKept}
use Rattle.dw_board.specs.inner.PieceSetLemmas.{standing-members}
use Rattle.dw_board.proofs.PlacedLemmas.{same_side-true}

abbrev Cells : Type 0
Cells = List (Option Piece)

own_side : (side : Side) → same_side side side ≡ true
own_side White = refl
own_side Black = refl

-- a side's piece is a man or a king
pub piece_of : (side : Side) (o : Option Piece) → is_of side o ≡ true → (k : Kind)
    × (o ≡ Some (record { side = side; kind = k }))
piece_of side None e = cc
piece_of side (Some p) e = let a = same_side-true p.side side e in
    (p.kind, λ i. Some (record { side = a i; kind = p.kind }))

abbrev both_kinds : (Side → Kind → Squares) → Side → Squares
both_kinds sets side = set.union (sets side Man) (sets side King)

kind_in : (side : Side) (k : Kind) (sets : Side → Kind → Squares) (s : ℕ) → set.contains (sets side k) s ≡ true
    → set.contains (both_kinds sets side) s ≡ true
kind_in side Man sets s e = set.contains-union nat_cmp_total (sets side Man) (sets side King) s ∙ or_left _ _ e
kind_in side King sets s e = set.contains-union nat_cmp_total (sets side Man) (sets side King) s ∙ or_right _ _ e

kind_of : (side : Side) (sets : Side → Kind → Squares) (s : ℕ) → set.contains (both_kinds sets side) s ≡ true
    → (k : Kind) × (set.contains (sets side k) s ≡ true)
kind_of side sets s e = elim (or_cases _ _ (sym (set.contains-union nat_cmp_total (sets side Man) (sets side King) s)
    ∙ e)) [ inl h ↦ (Man, h) | inr h ↦ (King, h) ]

pub side-members : (g : Geometry) → IsBoard g → (cells : Cells) (sets : Side → Kind → Squares) → IsKept g cells sets
    → (side : Side) (s : ℕ)
    → (set.contains (both_kinds sets side) s ≡ true) ↔ (OnBoard g s × (is_of side (get_or cells (s - 1) None) ≡ true))
side-members g b cells sets is side s = (
  (λ e.
      let k = kind_of side sets s e in
      let h = (standing-members g b cells is.position side k.0 s).0
      (ap (λ v. set.contains v s) (is.standing_is side k.0) ∙ k.1) in
      (h.0, ap (is_of side) h.1 ∙ own_side side)),
  (λ h.
      let p = piece_of side _ h.1 in
      kind_in side p.0 sets s (ap (λ v. set.contains v s) (sym (is.standing_is side p.0))
      ∙ (standing-members g b cells is.position side p.0 s).1 (h.0, p.1))),
)

some_piece : (side : Side) (o : Option Piece) → is_of side o ≡ true → is_some o ≡ true
some_piece side None e = cc
some_piece side (Some p) e = refl

white_or_black : (side : Side) (kind : Kind) → (is_of White (Some (record { side = side; kind = kind })) ≡ true)
    ⊎ (is_of Black (Some (record { side = side; kind = kind })) ≡ true)
white_or_black White _ = inl refl
white_or_black Black _ = inr refl

some_side : (o : Option Piece) → is_some o ≡ true → (is_of White o ≡ true) ⊎ (is_of Black o ≡ true)
some_side None e = cc
some_side (Some p) e = white_or_black p.side p.kind

pub occupied-members : (g : Geometry) → IsBoard g → (cells : Cells) (sets : Side → Kind → Squares) → IsKept g cells sets
    → (s : ℕ)
    → (set.contains (set.union (both_kinds sets White) (both_kinds sets Black)) s ≡ true)
    ↔ (OnBoard g s × (is_some (get_or cells (s - 1) None) ≡ true))
occupied-members g b cells sets is s =
    let either = set.contains-union nat_cmp_total (both_kinds sets White) (both_kinds sets Black) s in
    let white = side-members g b cells sets is White s in
    let black = side-members g b cells sets is Black s in (
      (λ e. elim (or_cases _ _ (sym either ∙ e)) [
        | inl h ↦ let p = white.0 h in (p.0, some_piece White _ p.1)
        | inr h ↦ let p = black.0 h in (p.0, some_piece Black _ p.1)
      ]),
      (λ h. either ∙ (elim (some_side _ h.1) [
        | inl e ↦ or_left _ _ (white.1 (h.0, e))
        | inr e ↦ or_right _ _ (black.1 (h.0, e))
      ])),
    )
