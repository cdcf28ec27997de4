-- Equality of positions is equality of what contracts see.
use Rattle.std.proofs.Common.{◌≡◌, ℕ, suc, zero, Bool, true, List, [], ◌∷◌, map, Option, Some, None, refl, sym, ap, ◌∙◌}
use Rattle.std.proofs.Common.{◌↔◌, eqb}
use Rattle.std.specs.Cmp.Lexicographic.{pointwise, bytes_decides}
use Rattle.std.specs.Ordering.{on, eq_of_both}
use Rattle.std.proofs.lemmas.Bool.{and_parts, and_from, eqb-true, eq-eqb}
use Rattle.dw_board.specs.declared.piece.Side.{Side}
use Rattle.dw_board.specs.declared.piece.Side.TheVariants.{White, Black}
use Rattle.dw_board.specs.declared.piece.Kind.{Kind}
use Rattle.dw_board.specs.declared.piece.Kind.TheVariants.{Man, King}
use Rattle.dw_board.specs.declared.piece.Piece.{Piece}
use Rattle.dw_board.specs.Placement.{Placement, side_code, cell_code, cell_codes}

abbrev cell_at : ℕ → Option Piece
cell_at zero = None
cell_at (suc zero) = Some (record { side = White; kind = Man })
cell_at (suc (suc zero)) = Some (record { side = White; kind = King })
cell_at (suc (suc (suc zero))) = Some (record { side = Black; kind = Man })
cell_at (suc (suc (suc (suc n)))) = Some (record { side = Black; kind = King })

piece_back : (s : Side) (k : Kind) → cell_at (cell_code (Some (record { side = s; kind = k })))
    ≡ Some (record { side = s; kind = k })
piece_back White Man = refl
piece_back White King = refl
piece_back Black Man = refl
piece_back Black King = refl

cell_back : (o : Option Piece) → cell_at (cell_code o) ≡ o
cell_back None = refl
cell_back (Some p) = piece_back p.side p.kind

cells_back : (xs : List (Option Piece)) → map cell_at (map cell_code xs) ≡ xs
cells_back [] = refl
cells_back (x ∷ xs) = λ i. cell_back x i ∷ cells_back xs i

pub side_back : (a b : Side) → side_code a ≡ side_code b → a ≡ b
side_back White White e = refl
side_back White Black e = cc
side_back Black White e = cc
side_back Black Black e = refl

abbrev pub same : Placement → Placement → Bool
same = eq_of_both (on (λ p. side_code p.turn) eqb) (on cell_codes (pointwise eqb))

pub same-is : (a b : Placement) → (same a b ≡ true) ↔ (a ≡ b)
same-is a b = (
  (λ e. let h = and_parts _ _ e in
      let c = sym (cells_back a.cells) ∙ (ap (map cell_at) ((bytes_decides (cell_codes a) (cell_codes b)).0 h.1)
      ∙ cells_back b.cells) in
      let t = side_back a.turn b.turn (eqb-true _ _ h.0) in
      λ i. record { cells = c i; turn = t i }),
  (λ e. and_from _ _ (eq-eqb _ _ (ap (λ p. side_code p.turn) e))
      ((bytes_decides (cell_codes a) (cell_codes b)).1 (ap cell_codes e))),
)
