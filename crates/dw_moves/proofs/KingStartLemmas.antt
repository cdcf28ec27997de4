-- Where a king begins a jump, found on sets from what it jumps over.
use Rattle.std.proofs.Common.{◌≡◌, ◌↔◌, ℕ, suc, List, [], ◌∷◌, ◌++◌, Some, refl, sym, ◌∙◌, subst, inl, inr}
use Rattle.dw_board.specs.declared.board.Dir.{Dir}
use Rattle.dw_board.specs.declared.board.Dir.TheVariants.{UpLeft, UpRight, DownLeft, DownRight}
use Rattle.dw_board.specs.declared.piece.Piece.{Piece}
use Rattle.dw_board.specs.Geometry.{Geometry, IsBoard, OnBoard, step, back, Squares}
use Rattle.dw_board.specs.Placement.{Placement}
use Rattle.dw_board.specs.Slides.{SlidesTo}
use Rattle.std.specs.FinSet as fin
use Rattle.dw_moves.specs.Moves.{AllEmpty, Jump, In, ray}
use Rattle.dw_moves.specs.inner.Glance.{IsOccupied}
use Rattle.dw_moves.proofs.StepLemmas.{step_is}
use Rattle.dw_moves.proofs.StepBackLemmas.{step_back}
use Rattle.dw_moves.proofs.RayLemmas.{jumped_on_ray, ray_of_on}
use Rattle.dw_moves.proofs.SlideLemmas.{ray_head}
use Rattle.dw_moves.proofs.SquareSetLemmas.{in_minus, in_or}
use Rattle.dw_moves.proofs.FirstJumpLemmas.{head_free}
use Rattle.dw_moves.proofs.GlanceRunLemmas.{IsShifted}
use Rattle.dw_moves.proofs.ManJumpLemmas.{IsOpenBehind, not_in}

-- what is behind a square of a ray
behind_on_ray : (g : Geometry) → IsBoard g → (s c : ℕ) (d : Dir) (before rest : List ℕ) → OnBoard g s
    → ray g s d ≡ before ++ c ∷ rest → ray g c d ≡ rest
behind_on_ray g b s c d [] rest on is = (ray_head g b s c rest d on is).1
behind_on_ray g b s c d (x ∷ before) rest on is =
    let h = ray_head g b s x (before ++ c ∷ rest) d on is in
    behind_on_ray g b x c d before rest (step_is g b s x d on h.0).on h.1

module _ (g : Geometry) (b : IsBoard g) (p : Placement) (occupied near : Squares) (d e : Dir) (c : ℕ)
    (back_is : e ≡ back d) (are : IsOccupied g p occupied)
    (next : (u : ℕ) → OnBoard g u → (In u occupied → ⊥) → step g u d ≡ Some c → In u near) where
  -- over empty squares a slide leads back to where a ray begins
  slides_back : (s : ℕ) (before rest : List ℕ) → OnBoard g s → (In s occupied → ⊥)
      → ray g s d ≡ before ++ c ∷ rest → AllEmpty p before → (n : ℕ) × SlidesTo g near occupied e n s
  slides_back s [] rest on free is clear = (0, next s on free (ray_head g b s c rest d on is).0)
  slides_back s (x ∷ before) rest on free is clear =
      let h = ray_head g b s x (before ++ c ∷ rest) d on is in
      let x_on = (step_is g b s x d on h.0).on in
      let r = slides_back x before rest x_on (not_in g p occupied x are clear.0) h.1 clear.1 in (
        suc r.0,
        (x, r.1, subst (λ z. step g x z ≡ Some s) (sym back_is) (step_back g b s x d on h.0), free),
      )

-- a king begins on an empty way to what it jumps over
pub king_starts : (g : Geometry) → IsBoard g → (p : Placement) (piece : Piece) (s c t : ℕ)
    (left occupied opened next near all : Squares) (d e : Dir) → e ≡ back d → OnBoard g s → (In s occupied → ⊥)
    → IsOccupied g p occupied → In c left → IsOpenBehind g left occupied d opened → IsShifted g opened e next
    → near ≡ fin.difference next occupied
    → ((t : ℕ) → In t all ↔ ((n : ℕ) × SlidesTo g near occupied e n t))
    → (j : Jump g p piece s c t) → j.dir ≡ d → In s all
king_starts g b p piece s c t left occupied opened next near all d e back_is on free are there opens shifts near_is
    slides j dir =
    let on_ray : ray g s d ≡ j.before ++ c ∷ (j.behind ++ t ∷ j.beyond) =
    subst (λ z. ray g s z ≡ j.before ++ c ∷ (j.behind ++ t ∷ j.beyond)) dir j.on_ray in
    let c_on : OnBoard g c = ray_of_on g b g.rows s j.dir c on (jumped_on_ray g p piece s c t j) in
    let h = head_free p j.behind t j.beyond j.clear_behind j.free in
    let further = (ray_head g b c h.0 h.1 d c_on
    (behind_on_ray g b s c d j.before (j.behind ++ t ∷ j.beyond) on on_ray ∙ h.2)).0 in
    let is_open : In c opened = opens c h.0 there further c_on (not_in g p occupied h.0 are h.3) in
    (slides s).1 (slides_back g b p occupied near d e c back_is are (λ u u_on u_free leads.
    (in_minus next occupied near u near_is).1 (
      (shifts u).1 (c, (is_open, subst (λ z. step g c z ≡ Some u) (sym back_is) (step_back g b u c d u_on leads))),
      u_free,
    )) s j.before (j.behind ++ t ∷ j.beyond) on free on_ray j.clear)

-- a square that is found in one direction is among those of all four
pub in_some : (s : ℕ) (ul ur dl dr up down all : Squares) → up ≡ fin.union ul ur → down ≡ fin.union dl dr
    → all ≡ fin.union up down → (d : Dir) → (d ≡ UpLeft → In s ul) → (d ≡ UpRight → In s ur) → (d ≡ DownLeft → In s dl)
    → (d ≡ DownRight → In s dr) → In s all
in_some s ul ur dl dr up down all up_is down_is all_is UpLeft a b c d =
    (in_or up down all s all_is).1 (inl ((in_or ul ur up s up_is).1 (inl (a refl))))
in_some s ul ur dl dr up down all up_is down_is all_is UpRight a b c d =
    (in_or up down all s all_is).1 (inl ((in_or ul ur up s up_is).1 (inr (b refl))))
in_some s ul ur dl dr up down all up_is down_is all_is DownLeft a b c d =
    (in_or up down all s all_is).1 (inr ((in_or dl dr down s down_is).1 (inl (c refl))))
in_some s ul ur dl dr up down all up_is down_is all_is DownRight a b c d =
    (in_or up down all s all_is).1 (inr ((in_or dl dr down s down_is).1 (inr (d refl))))
