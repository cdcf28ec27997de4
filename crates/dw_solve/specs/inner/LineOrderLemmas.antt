-- The order of lines: never both ways.
use Rattle.std.proofs.Common.{◌≡◌, List, [], ◌∷◌, sym, subst, inl, inr}
use Rattle.dw_board.specs.Geometry.{Geometry}
use Rattle.dw_board.specs.Placement.{Placement}
use Rattle.dw_moves.specs.Moves.{Move, play}
use Rattle.dw_moves.specs.Order.{LexLess, Precedes}
use Rattle.dw_moves.specs.Laws.{MovesHaveKeys}
use Rattle.dw_solve.specs.Lines.{Before}
use Rattle.dw_moves.specs.inner.LexLemmas.{lex_asym}

pub precedes_asym : MovesHaveKeys → (g : Geometry) (p : Placement) (m n : Move) → Precedes g p m n
    → Precedes g p n m → ⊥
precedes_asym keys g p m n h k =
    let one : h.0 ≡ k.1 = keys.one g p m h.0 k.1 h.2 k.3 in
    let two : h.1 ≡ k.0 = keys.one g p n h.1 k.0 h.3 k.2 in
    lex_asym h.0 h.1 h.4 (subst (λ z. LexLess z h.0) (sym two) (subst (λ z. LexLess k.0 z) (sym one) k.4))

pub before_asym : MovesHaveKeys → (g : Geometry) (p : Placement) (l k : List Move) → Before g p l k → Before g p k l → ⊥
before_asym keys g p [] [] h k = h
before_asym keys g p [] (n ∷ ns) h k = k
before_asym keys g p (m ∷ ms) [] h k = h
before_asym keys g p (m ∷ ms) (n ∷ ns) (inl h) (inl k) = precedes_asym keys g p m n h k
before_asym keys g p (m ∷ ms) (n ∷ ns) (inl h) (inr k) = let r = subst (Precedes g p m) k.0 h in
    precedes_asym keys g p m m r r
before_asym keys g p (m ∷ ms) (n ∷ ns) (inr h) (inl k) = let r = subst (λ z. Precedes g p z m) (sym h.0) k in
    precedes_asym keys g p m m r r
before_asym keys g p (m ∷ ms) (n ∷ ns) (inr h) (inr k) =
    before_asym keys g (play g p m) ms ns h.1 (subst (λ z. Before g (play g p z) ns ms) (sym h.0) k.1)
