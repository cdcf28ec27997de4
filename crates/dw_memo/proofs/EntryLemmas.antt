-- Entries and their positions.
use Rattle.std.proofs.Common.{◌≡◌, [], ◌∷◌, sym, ap, ◌∙◌, subst, inl, inr}
use Rattle.dw_board.specs.Placement.{Placement}
use Rattle.dw_memo.specs.declared.bounds.Bounds.{Bounds}
use Rattle.dw_memo.specs.Content.{Entry, entry, Content, positions, IsMap}
use Rattle.dw_board.specs.Lists.{Member}

-- an entry's position is held
pub position_held : (e : Entry) (c : Content) → Member e c → Member e.position (positions c)
position_held e [] m = m
position_held e (d ∷ c) (inl q) = inl (ap (λ (x : Entry). x.position) q)
position_held e (d ∷ c) (inr m) = inr (position_held e c m)

-- a position that is held has bounds
pub bounds_held : (p : Placement) (c : Content) → Member p (positions c) → (b : Bounds) × Member (entry p b) c
bounds_held p [] m = absurd m
bounds_held p (d ∷ c) (inl q) = (d.bounds, inl (λ i. entry (q i) d.bounds))
bounds_held p (d ∷ c) (inr m) = let on = bounds_held p c m in (on.0, inr on.1)

-- a position has one entry in a map
pub one_entry : (c : Content) → IsMap c → (a b : Entry) → Member a c → Member b c → a.position ≡ b.position → a ≡ b
one_entry [] map a b m n q = absurd m
one_entry (d ∷ c) map a b (inl e) (inl f) q = e ∙ sym f
one_entry (d ∷ c) map a b (inl e) (inr n) q =
    absurd (map.0 (subst (λ p. Member p (positions c)) (sym q ∙ ap (λ (x : Entry). x.position) e)
    (position_held b c n)))
one_entry (d ∷ c) map a b (inr m) (inl f) q =
    absurd (map.0 (subst (λ p. Member p (positions c)) (q ∙ ap (λ (x : Entry). x.position) f) (position_held a c m)))
one_entry (d ∷ c) map a b (inr m) (inr n) q = one_entry c map.1 a b m n q
