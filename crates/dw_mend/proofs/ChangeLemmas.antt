-- What may not be put on a square would be no position there.
use Rattle.std.proofs.Common.{◌≡◌, ◌∙◌, ℕ, ◌+◌, ◌-◌, ◌≤◌, ◌<◌, true, false, cond, List, Option, Some, None, length}
use Rattle.std.proofs.Common.{is_some, get_or, count_by, refl, sym, ap, arith, get_or-set_same, inl, inr}
use Rattle.std.specs.Prelude.{nat_le}
use Rattle.std.proofs.lemmas.Bool.{leb-true}
use Rattle.std.specs.Prelude.{MatchOption}
use Rattle.std.proofs.lemmas.Bool.{cases_Bool, true≢false}
use Rattle.std.proofs.lemmas.List.Sums.{sum_by-set}
use Rattle.std.proofs.lemmas.List.{set-set}
use Rattle.std.proofs.Common.{get_or-set_other}
use Rattle.dw_board.specs.declared.piece.Kind.{Kind}
use Rattle.dw_mend.specs.Changes.{with_piece, made, set, IsNeighbour}
use Rattle.dw_board.specs.Geometry.{Geometry}
use Rattle.dw_board.specs.declared.piece.Side.{Side}
use Rattle.dw_board.specs.declared.piece.Side.TheVariants.{White, Black}
use Rattle.dw_board.specs.declared.piece.Piece.{Piece}
use Rattle.dw_board.specs.Placement.{Placement, is_of, is_stuck, same_side, at, placed, count, put_fault, IsPosition}

same_side-self : (side : Side) → same_side side side ≡ true
same_side-self White = refl
same_side-self Black = refl

-- one piece more
one_more_piece : (p : Placement) (s : ℕ) (piece : Piece) → s - 1 < length p.cells → at p s ≡ None
    → count (placed p s (Some piece)) piece.side ≡ count p piece.side + 1
one_more_piece p s piece low free =
    let none : cond {A = ℕ} (is_of piece.side (get_or p.cells (s - 1) None)) 1 0 ≡ 0 =
    ap (λ o. cond {A = ℕ} (is_of piece.side o) 1 0) free in
    let one : cond {A = ℕ} (is_of piece.side (Some piece)) 1 0 ≡ 1 =
    ap (λ b. cond {A = ℕ} b 1 0) (same_side-self piece.side) in
    let h = sum_by-set (λ x. cond (is_of piece.side x) 1 0) p.cells (s - 1) (Some piece) None low in
    omega arith

few_of : (g : Geometry) (cells : List (Option Piece)) (side : Side) → IsPosition g cells
    → count_by (is_of side) cells ≤ g.side
few_of g cells White h = h.white_fits
few_of g cells Black h = h.black_fits

some_injective : {x y : Piece} → Some x ≡ Some y → x ≡ y
some_injective e = cc

unrefused : (g : Geometry) (p : Placement) (s : ℕ) (piece : Piece) → is_some (at p s) ≡ false
    → is_stuck g s (Some piece) ≡ false → nat_le g.side (count p piece.side) ≡ false → put_fault g p s piece ≡ None
unrefused g p s piece free loose room = rw free (rw loose (rw room refl))

pub no_position : (g : Geometry) (p : Placement) (s : ℕ) (piece : Piece) → length p.cells ≡ 50 → 1 ≤ s → s ≤ 50
    → at p s ≡ None → is_some (put_fault g p s piece) ≡ true → IsPosition g (placed p s (Some piece)).cells → ⊥
no_position g p s piece fifty low high free refused position =
    let within : s - 1 < length p.cells = omega arith in
    let not_taken : is_some (at p s) ≡ false = ap (λ o. is_some o) free in
    let stands : at (placed p s (Some piece)) s ≡ Some piece = get_or-set_same p.cells (s - 1) (Some piece) None within
    in
    let not_stuck : is_stuck g s (Some piece) ≡ false = sym (ap (is_stuck g s) stands) ∙ position.no_stuck_man s low in
    elim (cases_Bool (nat_le g.side (count p piece.side))) [
      | inl full ↦
          let fits : count (placed p s (Some piece)) piece.side ≤ g.side =
          few_of g (placed p s (Some piece)).cells piece.side position in
          let more = one_more_piece p s piece within free in
          let least : g.side ≤ count p piece.side = leb-true _ _ full in
          omega (arith, fits, more, least)
      | inr room ↦
          absurd (true≢false (sym refused ∙ ap (λ o. is_some o) (unrefused g p s piece not_taken not_stuck room)))
    ]

pub is_free : (o : Option Piece) → is_some o ≡ false → o ≡ None
is_free None e = refl
is_free (Some piece) e = absurd (true≢false e)

-- what stood on a square does not matter if something else is put there
put_twice : (p : Placement) (s : ℕ) (o : Option Piece) → placed (placed p s None) s o ≡ placed p s o
put_twice p s o = ap (λ z. record p { cells = z }) (set-set p.cells (s - 1) None o)

emptied : (p : Placement) (s : ℕ) → length p.cells ≡ 50 → 1 ≤ s → s ≤ 50 → at (placed p s None) s ≡ None
emptied p s fifty low high = get_or-set_same p.cells (s - 1) None None (omega arith)

-- a piece is set on a square that is empty: it stays empty if another square is emptied
still_free : (p : Placement) (s t : ℕ) (piece : Piece) → 1 ≤ s → 1 ≤ t → at p s ≡ Some piece → at p t ≡ None
    → at (placed p s None) t ≡ None
still_free p s t piece low low' there free =
    get_or-set_other p.cells (s - 1) (t - 1) None None (λ e. let same : t ≡ s = omega arith in
    true≢false (ap (λ o. is_some o) (sym there ∙ (ap (at p) (sym same) ∙ free)))) ∙ free

pub made_so : (g : Geometry) (p : Placement) (s : ℕ) (kind : Kind) (piece : Piece) (r : Option Placement)
    → length p.cells ≡ 50 → 1 ≤ s → s ≤ 50 → at p s ≡ Some piece → (piece.kind ≡ kind → ⊥)
    → MatchOption r ((q : Placement) → IsNeighbour g (placed p s None)
    (with_piece s (record { side = piece.side; kind = kind })) q → ⊥)
    (λ q. IsNeighbour g (placed p s None) (with_piece s (record { side = piece.side; kind = kind })) q)
    → MatchOption r ((q : Placement) → IsNeighbour g p (made s kind) q → ⊥) (λ q. IsNeighbour g p (made s kind) q)
made_so g p s kind piece None fifty low high there differs h = λ q is.
    let same : is.0.0 ≡ piece = some_injective (sym is.0.1 ∙ there) in
    h q (
      (
        emptied p s fifty low high,
        is.0.3
            ∙ (ap (λ (z : Piece). placed p s (Some (record { side = z.side; kind = kind }))) same
            ∙ sym (put_twice p s (Some (record { side = piece.side; kind = kind })))),
      ),
      is.1,
    )
made_so g p s kind piece (Some q) fifty low high there differs h =
    ((piece, there, differs, h.0.1 ∙ put_twice p s (Some (record { side = piece.side; kind = kind }))), h.1)

pub set_so : (g : Geometry) (p : Placement) (s t : ℕ) (piece : Piece) (r : Option Placement)
    → 1 ≤ s → 1 ≤ t → at p s ≡ Some piece → at p t ≡ None
    → MatchOption r ((q : Placement) → IsNeighbour g (placed p s None) (with_piece t piece) q → ⊥)
    (λ q. IsNeighbour g (placed p s None) (with_piece t piece) q)
    → MatchOption r ((q : Placement) → IsNeighbour g p (set s t) q → ⊥) (λ q. IsNeighbour g p (set s t) q)
set_so g p s t piece None low low' there free h = λ q is.
    h q ((still_free p s t piece low low' there free, is.0.2 ∙ ap (placed (placed p s None) t) there), is.1)
set_so g p s t piece (Some q) low low' there free h =
    ((ap (λ o. is_some o) there, free, h.0.1 ∙ ap (placed (placed p s None) t) (sym there)), h.1)
