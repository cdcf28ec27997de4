-- Where a man begins a jump, found on sets from what it jumps over.
use Rattle.std.proofs.Common.{◌≡◌, ℕ, Some, None, ◌∷◌, ◌++◌, sym, ap, ◌∙◌, subst, is_some}
use Rattle.std.proofs.lemmas.Bool.{true≢false}
use Rattle.dw_board.specs.declared.board.Dir.{Dir}
use Rattle.dw_board.specs.declared.piece.Kind.TheVariants.{Man}
use Rattle.dw_board.specs.declared.piece.Piece.{Piece}
use Rattle.dw_board.specs.Geometry.{Geometry, IsBoard, OnBoard, step, back, Squares}
use Rattle.dw_board.specs.Placement.{Placement, at}
use Rattle.dw_moves.specs.Moves.{Jump, In, ray}
use Rattle.dw_moves.specs.inner.Glance.{IsOccupied}
use Rattle.dw_moves.proofs.StepLemmas.{step_is}
use Rattle.dw_moves.proofs.StepBackLemmas.{step_back}
use Rattle.dw_moves.proofs.SlideLemmas.{ray_head}
use Rattle.dw_moves.proofs.GlanceRunLemmas.{IsShifted}

-- a man jumps over the next square, onto the one behind it
pub man_jump : (g : Geometry) → IsBoard g → (p : Placement) (piece : Piece) (s c t : ℕ) (j : Jump g p piece s c t)
    → piece.kind ≡ Man → OnBoard g s → (step g s j.dir ≡ Some c) × OnBoard g c × (step g c j.dir ≡ Some t)
man_jump g b p piece s c t j man on =
    let first : ray g s j.dir ≡ c ∷ (t ∷ j.beyond) = j.on_ray
    ∙ (ap (λ z. z ++ c ∷ (j.behind ++ t ∷ j.beyond)) (j.man man).0
    ∙ ap (λ z. c ∷ (z ++ t ∷ j.beyond)) (j.man man).1) in
    let to = ray_head g b s c (t ∷ j.beyond) j.dir on first in
    let c_on : OnBoard g c = (step_is g b s c j.dir on to.0).on in
    (to.0, c_on, (ray_head g b c t j.beyond j.dir c_on to.1).0)

-- these are the pieces that have an empty square behind them
abbrev pub IsOpenBehind : Geometry → (left occupied : Squares) → Dir → Squares → Type 0
IsOpenBehind g left occupied d opened = (c t : ℕ) → In c left → step g c d ≡ Some t → OnBoard g c
    → (In t occupied → ⊥) → In c opened

-- where nothing stands is no occupied square
pub not_in : (g : Geometry) (p : Placement) (occupied : Squares) (t : ℕ) → IsOccupied g p occupied → at p t ≡ None
    → In t occupied → ⊥
not_in g p occupied t are free i = true≢false (sym ((are t).0 i).1 ∙ ap is_some free)

-- a man begins next to what it jumps over
pub man_starts : (g : Geometry) → IsBoard g → (p : Placement) (piece : Piece) (s c t : ℕ)
    (left occupied opened all : Squares) (d e : Dir) → e ≡ back d → piece.kind ≡ Man → OnBoard g s
    → IsOccupied g p occupied → In c left → IsOpenBehind g left occupied d opened → IsShifted g opened e all
    → (j : Jump g p piece s c t) → j.dir ≡ d → In s all
man_starts g b p piece s c t left occupied opened all d e back_is man on are there opens shifts j dir =
    let m = man_jump g b p piece s c t j man on in
    let to : step g s d ≡ Some c = subst (λ z. step g s z ≡ Some c) dir m.0 in
    let further : step g c d ≡ Some t = subst (λ z. step g c z ≡ Some t) dir m.2 in
    (shifts s).1 (
      c,
      (
        opens c t there further m.1 (not_in g p occupied t are j.free),
        subst (λ z. step g c z ≡ Some s) (sym back_is) (step_back g b s c d on to),
      ),
    )
