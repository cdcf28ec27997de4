-- Chains of jumps, and their jumps in each direction.
use Rattle.std.proofs.Common.{◌≡◌, ℕ, List, [], ◌∷◌, ap, ◌∙◌, subst, inl, inr, refl, false}
use Rattle.std.specs.FinSet as fin
use Rattle.dw_board.specs.declared.piece.Piece.{Piece}
use Rattle.dw_board.specs.Geometry.{Geometry, Squares}
use Rattle.dw_board.specs.Placement.{Placement}
use Rattle.dw_board.specs.Lists.{Member}
use Rattle.dw_moves.specs.Moves.{Jump}
use Rattle.dw_moves.specs.inner.Walks.{Chain}
use Rattle.dw_moves.proofs.SquareSetLemmas.{not_in, out_of}

pub chain_none : (g : Geometry) (p : Placement) (piece : Piece) (s : ℕ) (taken : Squares)
    → Chain g p piece s taken [] []
chain_none g p piece s taken = record { jumps = tt; once = tt; fresh = λ c m. absurd m }

-- one more jump before a chain
pub chain_more : (g : Geometry) (p : Placement) (piece : Piece) (s c t : ℕ) (taken : Squares) (ts cs : List ℕ)
    → Jump g p piece s c t → fin.contains taken c ≡ false → Chain g p piece t (fin.insert taken c) ts cs
    → Chain g p piece s taken (t ∷ ts) (c ∷ cs)
chain_more g p piece s c t taken ts cs j e h = record {
  jumps = (j, h.jumps);
  once = ((λ m. (not_in taken c c (h.fresh c m)).0 refl), h.once);
  fresh = λ x m. elim m [ inl same ↦ ap (fin.contains taken) same ∙ e | inr m' ↦ (not_in taken c x (h.fresh x m')).1 ];
}

-- a chain without its first jump
pub chain_tail : (g : Geometry) (p : Placement) (piece : Piece) (s c t : ℕ) (taken : Squares) (ts cs : List ℕ)
    → Chain g p piece s taken (t ∷ ts) (c ∷ cs) → Chain g p piece t (fin.insert taken c) ts cs
chain_tail g p piece s c t taken ts cs h = record {
  jumps = h.jumps.1;
  once = h.once.1;
  fresh = λ x m. out_of taken c x (λ same. h.once.0 (subst (λ z. Member z cs) same m)) (h.fresh x (inr m));
}

abbrev pub over_of : ℕ × ℕ → ℕ
over_of j = j.0

abbrev pub landing_of : ℕ × ℕ → ℕ
landing_of j = j.1
