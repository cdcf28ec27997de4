-- The capture that was found along given squares.
use Rattle.std.proofs.Common.{◌≡◌, ℕ, ◌<◌, zero, suc, List, ◌∷◌, refl, sym, ap, ◌∙◌, subst, arith, Option, Some, None}
use Rattle.std.proofs.Common.{◌↔◌}
use Rattle.std.specs.Prelude.{IfSome, IsSome}
use Rattle.std.specs.FinSet as fin
use Rattle.dw_board.specs.Geometry.{Geometry, IsBoard}
use Rattle.dw_board.specs.Placement.{Placement}
use Rattle.dw_moves.specs.Moves.{Move, IsPathOf, Legal, LegalAt, Path, last_of}
use Rattle.dw_moves.specs.Order.{IsPathFor}
use Rattle.dw_moves.specs.inner.MoveLemmas.{same_move}
use Rattle.dw_moves.specs.inner.Walks.{Along, Captures, Held, OneKept}
use Rattle.dw_moves.proofs.FilledLemmas.{best_of, path_captures}
use Rattle.dw_moves.proofs.LegalMoveLemmas.{best_only}
use Rattle.dw_moves.proofs.PathTellsLemmas.{path_tells}

cons_parts : (x y : ℕ) (xs ys : List ℕ) → x ∷ xs ≡ y ∷ ys → (x ≡ y) × (xs ≡ ys)
cons_parts x y xs ys e = (cc, cc)

-- squares are the path of one capture at most
one_path : (g : Geometry) → IsBoard g → (p : Placement) (m n : Move) (squares : List ℕ) → IsPathFor g p m squares
    → IsPathFor g p n squares → m ≡ n
one_path g b p m n squares h k =
    let same = cons_parts m.from n.from h.landings k.landings (sym h.are ∙ k.are) in
    let path : Path g p n.from k.landings h.leads.over = subst (λ z. Path g p n.from z h.leads.over) same.1
    (subst (λ z. Path g p z h.landings h.leads.over) same.0 h.leads.path) in
    let over : h.leads.over ≡ k.leads.over = path_tells g b p n.from k.landings h.leads.over k.leads.over path
    k.leads.path in
    same_move m n same.0
    (sym h.leads.ends ∙ (ap (λ z. last_of z h.landings) same.0 ∙ (ap (last_of n.from) same.1 ∙ k.leads.ends)))
    (h.leads.takes ∙ (ap (λ z. fin.from_list z) over ∙ sym k.leads.takes))

-- what a list of squares is a path of, is a legal move
path_legal : (g : Geometry) (p : Placement) (m : Move) (squares : List ℕ) → IsPathFor g p m squares → Legal g p m
path_legal g p m squares h = (h.most, h.best, at_most h.most h.some h.leads) where
  at_most : (k : ℕ) → 0 < k → IsPathOf g p m k h.landings → LegalAt g p k m
  at_most zero some leads = absurd (omega arith)
  at_most (suc k) some leads = (h.landings, leads)

-- what was found is the capture along these squares, and legal
pub followed : {g : Geometry} → IsBoard g → {p : Placement} {squares : List ℕ} {k : ℕ} {found : Option Move}
    → Held (Captures g p) k (OneKept (Captures g p) (Along squares) k found)
    → ((m : Move) → (found ≡ Some m) ↔ IsPathFor g p m squares) × IfSome found (Legal g p)
followed {g} b {p} {squares} {k} {found} h = ((λ m. (found_path m, path_found m)), legal found refl) where
  found_path : (m : Move) → found ≡ Some m → IsPathFor g p m squares
  found_path m e =
      let f = h.kept.is m e in
      let c = f.1 in
      record {
        most = k;
        best = best_of g p k h.most;
        some = omega (arith, c.some, f.2);
        landings = c.landings;
        leads = subst (λ z. IsPathOf g p z k c.landings) f.3.0
            (subst (λ z. IsPathOf g p f.0.step z c.landings) f.2 c.leads);
        are = sym f.3.1 ∙ (c.path ∙ ap (λ (z : Move). z.from ∷ c.landings) f.3.0);
      }

  path_found : (m : Move) → IsPathFor g p m squares → found ≡ Some m
  path_found m f =
      let same : f.most ≡ k = best_only g p f.most k f.best (best_of g p k h.most) in
      let leads : IsPathOf g p m k f.landings = subst (λ z. IsPathOf g p m z f.landings) same f.leads in
      let some : 0 < k = omega (arith, f.some, same) in
      let c = path_captures g p k m f.landings some leads in
      let one = is_some_has found (h.kept.some (c.0, c.1, c.2, ap (λ z. z.path) c.3 ∙ sym f.are)) in
      one.1 ∙ ap Some (one_path g b p one.0 m squares (found_path one.0 one.1) f) where
        is_some_has : (o : Option Move) → IsSome o → (n : Move) × (o ≡ Some n)
        is_some_has None e = cc
        is_some_has (Some n) e = (n, refl)

  legal : (o : Option Move) → found ≡ o → IfSome o (Legal g p)
  legal None e = tt
  legal (Some m) e = path_legal g p m squares (found_path m e)
