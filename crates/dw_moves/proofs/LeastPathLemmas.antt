-- What the walks found is all legal moves with their least paths.
use Rattle.std.proofs.Common.{◌≡◌, ℕ, ◌<◌, zero, suc, List, [], ◌∷◌, ◌++◌, map, refl, sym, ap, ◌∙◌, subst, inl, inr}
use Rattle.std.proofs.Common.{arith}
use Rattle.std.specs.FinSet as fin
use Rattle.std.specs.Ordering.{nat_cmp}
use Rattle.dw_board.specs.Geometry.{Geometry}
use Rattle.dw_board.specs.Placement.{Placement}
use Rattle.dw_moves.specs.Moves.{IsBest, CanCapture, Move, Quiet, IsPathOf, Legal, LegalAt}
use Rattle.dw_board.specs.Lists.{Member, NoRepeat}
use Rattle.dw_moves.specs.inner.MemberLemmas.{mem_map, mem_map_back}
use Rattle.dw_moves.specs.Order.{LexLess, LandsAt, IsLeastPath, Listed, HasLeastPath}
use Rattle.dw_moves.specs.inner.Plain.{Adds}
use Rattle.dw_moves.specs.inner.Walks.{Captures, HasAll, IsMost, PathsHeld, number, quietly_listed, steps_of}
use Rattle.dw_moves.proofs.FilledLemmas.{best_none, best_of, captured, legal_count, legal_from_capture, legal_path}
use Rattle.dw_moves.proofs.FilledLemmas.{path_captures, quiet_from_legal}
use Rattle.dw_moves.proofs.LegalMoveLemmas.{best_only}
use Rattle.dw_moves.specs.inner.LexLemmas.{lex_irrefl}
use Rattle.dw_moves.proofs.AddingLemmas.{AreQuiet, are_quiet, move_to}

-- a move stands once, and so with one path
once_same : (list : List Listed) → NoRepeat (steps_of list) → (l r : Listed) → Member l list → Member r list
    → l.step ≡ r.step → l ≡ r
once_same [] once l r hl hr e = absurd hl
once_same (x ∷ list) once l r (inl hl) (inl hr) e = hl ∙ sym hr
once_same (x ∷ list) once l r (inl hl) (inr hr) e =
    absurd (once.0 (subst (λ z. Member z (steps_of list)) (sym e ∙ ap (λ (z : Listed). z.step) hl)
    (mem_map (λ (z : Listed). z.step) r list hr)))
once_same (x ∷ list) once l r (inr hl) (inl hr) e =
    absurd (once.0 (subst (λ z. Member z (steps_of list)) (e ∙ ap (λ (z : Listed). z.step) hr)
    (mem_map (λ (z : Listed). z.step) l list hl)))
once_same (x ∷ list) once l r (inr hl) (inr hr) e = once_same list once.1 l r hl hr e

lands_by : (g : Geometry) (p : Placement) (m : Move) (k : ℕ) (ts : List ℕ) → 0 < k → IsPathOf g p m k ts
    → LandsAt g p m k ts
lands_by g p m zero ts some h = absurd (omega arith)
lands_by g p m (suc k) ts some h = h

path_by : (g : Geometry) (p : Placement) (m : Move) (k : ℕ) (ts : List ℕ) → 0 < k → LandsAt g p m k ts
    → IsPathOf g p m k ts
path_by g p m zero ts some h = absurd (omega arith)
path_by g p m (suc k) ts some h = h

-- what is kept of the captures of the greatest number is the least of a move's paths
pub kept_least : (g : Geometry) (p : Placement) (k : ℕ) (kept : List Listed) → 0 < k → IsBest g p k
    → NoRepeat (steps_of kept) → PathsHeld (Captures g p) k kept → (l : Listed) → Member l kept
    → Captures g p l → number l ≡ k → HasLeastPath g p l
kept_least g p k kept some best once h l m c count =
    let leads : IsPathOf g p l.step k c.landings = subst (λ z. IsPathOf g p l.step z c.landings) count c.leads in (
      c.landings,
      record {
        leads = (k, best, lands_by g p l.step k c.landings some leads);
        least = λ others o less.
            let path : IsPathOf g p l.step k others = path_by g p l.step k others some
            (subst (λ z. LandsAt g p l.step z others) (best_only g p o.0 k o.1 best) o.2) in
            let other : Listed = record { step = l.step; path = l.step.from ∷ others } in
            let r = h.kept.least other (path_captures g p k l.step others some path) in
            let same : l ≡ r.0 = once_same kept once l r.0 m r.1 (sym r.2) in
            r.3 (subst (LexLess (l.step.from ∷ others)) (sym c.path ∙ ap (λ (z : Listed). z.path) same)
            (inr (refl, less)));
      },
      c.path,
    )

-- something can be taken
pub captures_all : (g : Geometry) (p : Placement) (k : ℕ) (kept : List Listed) → 0 < k
    → PathsHeld (Captures g p) k kept → HasAll g p kept
captures_all g p k kept some h =
    let best : IsBest g p k = best_of g p k h.most in
    record {
      legal = λ l m. let f = h.kept.from l m in
          legal_from_capture g p k l.step best (f.0, f.1, f.2, ap (λ (z : Listed). z.step) f.3);
      paths = λ l m. let f = h.kept.from l m in
          kept_least g p k kept some best h.kept.once h l m (subst (Captures g p) f.3 f.1) (ap number (sym f.3) ∙ f.2);
      all = λ m legal.
          let way = legal_path g p k m some best legal in
          let this : Listed = record { step = m; path = m.from ∷ way.0 } in
          let r = h.kept.least this (path_captures g p k m way.0 some way.1) in
          subst (λ z. Member z (steps_of kept)) r.2 (mem_map (λ (z : Listed). z.step) r.0 kept r.1);
      once = h.kept.once;
    }

-- the only path of a quiet move
quiet_least : (g : Geometry) (p : Placement) (m : Move) → Legal g p m → fin.len m.taken ≡ 0
    → IsLeastPath g p m (m.to ∷ [])
quiet_least g p m legal none = at_k legal.0 (legal_count g p legal.0 m legal.1 legal) legal.1 legal.2 where
  only : (j : ℕ) → j ≡ 0 → (others : List ℕ) → LandsAt g p m j others → LexLess others (m.to ∷ []) → ⊥
  only zero e others lands less = lex_irrefl (m.to ∷ []) (subst (λ z. LexLess z (m.to ∷ [])) lands.2 less)
  only (suc j) e others lands less = omega arith

  at_k : (k : ℕ) → fin.len m.taken ≡ k → IsBest g p k → LegalAt g p k m → IsLeastPath g p m (m.to ∷ [])
  at_k zero count best h = record {
    leads = (0, best, (h.0, h.1, refl));
    least = λ others o less. only o.0 (best_only g p o.0 0 o.1 best) others o.2 less;
  }
  at_k (suc k) count best h = absurd (omega (arith, none, count))

-- a quiet move with its path
abbrev with_ends : Move → Listed
with_ends m = record { step = m; path = m.from ∷ m.to ∷ [] }

steps_with_ends : (ms : List Move) → steps_of (map with_ends ms) ≡ ms
steps_with_ends [] = refl
steps_with_ends (m ∷ ms) = ap (λ z. m ∷ z) (steps_with_ends ms)

quiet_listing : (g : Geometry) (p : Placement) (moves : List Move) → AreQuiet g p moves → IsBest g p 0
    → HasAll g p (map with_ends moves)
quiet_listing g p moves quiet best =
    let steps = steps_with_ends moves in
    let legal : (m : Move) → Member m moves → Legal g p m = λ m h. (0, best, (quiet.exactly m).0 h) in
    record {
      legal = λ l m. let f = mem_map_back with_ends l moves m in subst (λ (z : Listed). Legal g p z.step) (sym f.2)
          (legal f.0 f.1);
      paths = λ l m.
          let f = mem_map_back with_ends l moves m in
          let none : fin.len f.0.taken ≡ 0 = ap fin.len ((quiet.exactly f.0).0 f.1).1 ∙ fin.len-empty nat_cmp in
          subst (HasLeastPath g p) (sym f.2) (f.0.to ∷ [], quiet_least g p f.0 (legal f.0 f.1) none, refl);
      all = λ m l. subst (Member m) (sym steps) ((quiet.exactly m).1 (quiet_from_legal g p m best l));
      once = subst NoRepeat (sym steps) quiet.once;
    }

made_of_moves : (pairs : List (ℕ × ℕ)) → map (λ (q : ℕ × ℕ). quietly_listed q.0 q.1) pairs
    ≡ map with_ends (map move_to pairs)
made_of_moves [] = refl
made_of_moves (q ∷ pairs) = ap (λ z. quietly_listed q.0 q.1 ∷ z) (made_of_moves pairs)

-- with something to take a capture is found
pub some_led : (g : Geometry) (p : Placement) (k : ℕ) → CanCapture g p → IsMost (Captures g p) k → 0 < k
some_led g p k can h = let c = captured g p can.0 can.1 can.2 can.3 can.4 in
    omega (arith, c.1.some, h.most c.0 c.1)

-- nothing can be taken, and the quiet moves were added
pub quiet_all_listed : (g : Geometry) (p : Placement) (old now : List Listed) → (CanCapture g p → ⊥) → old ≡ []
    → Adds quietly_listed (Quiet g p) old now → HasAll g p now
quiet_all_listed g p old now none e added =
    let best : IsBest g p 0 = best_none g p none in
    let whole : now ≡ map with_ends (map move_to added.pairs) = added.are
    ∙ (ap (λ z. z ++ map (λ (q : ℕ × ℕ). quietly_listed q.0 q.1) added.pairs) e ∙ made_of_moves added.pairs) in
    subst (HasAll g p) (sym whole)
    (quiet_listing g p (map move_to added.pairs) (are_quiet g p added.pairs added.those) best)
