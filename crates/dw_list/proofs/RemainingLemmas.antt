-- What the steps of a stack do to the lines still to come.
use Rattle.std.proofs.Common.{◌≡◌, ℕ, Bool, true, Some, None, Option, List, [], ◌∷◌, refl, sym, ap, ◌∙◌, subst, ◌⊎◌}
use Rattle.std.proofs.Common.{inl, inr}
use mathlib.Core.List.{reverse_aux}
use Rattle.std.specs.Prelude.{not}
use Rattle.dw_board.specs.Geometry.{Geometry}
use Rattle.dw_board.specs.Placement.{Placement}
use Rattle.dw_moves.specs.Moves.{Move, play}
use Rattle.dw_moves.specs.Order.{Precedes}
use Rattle.dw_solve.specs.Lines.{Line, Before}
use Rattle.dw_list.specs.inner.Ways.{GoesOn, left_after}
use Rattle.dw_list.specs.LineStack.{Level, IsAhead, IsBehind, Remains}
use Rattle.dw_list.specs.inner.Levels.{AreBehind, Leads}
use Rattle.dw_list.proofs.WayLemmas.{goes_to, goes_from}
use Rattle.dw_solve.specs.inner.ListLemmas.{ascending_parts}

-- how a line goes on at a level is how it goes on at the next one, behind the move
pub goes_next : (g : Geometry) (f : Level) (m : Move) (a : Bool) (q : Placement) (k : ℕ) (t : List Move)
    → a ≡ not f.attacks → q ≡ play g f.position m → k ≡ left_after f.attacks f.left
    → GoesOn g f.attacks f.position f.left (m ∷ t) → GoesOn g a q k t
goes_next g f m a q k t ea eq ek h =
    subst (λ z. GoesOn g z q k t) (sym ea) (subst (λ z. GoesOn g (not f.attacks) z k t) (sym eq)
    (subst (λ z. GoesOn g (not f.attacks) (play g f.position m) z t) (sym ek)
    (goes_from g f.attacks f.position f.left m t h).1))

-- if what lines do at the last level gives something else there, it gives the same of the lines
pub remains_as : (g : Geometry) (p : Placement) (n : ℕ) (outer : List Level) (line : List Move) (a : Bool)
    (q : Placement) (k : ℕ) → Leads g p n outer line a q k → (P Q : List Move → Type 0)
    → ((t : List Move) → GoesOn g a q k t → P t → Q t) → (l : List Move) → Line g p n l → Remains outer line P l
    → Remains outer line Q l
remains_as g p n [] [] a q k h P Q to l here r =
    to l (subst (λ z. GoesOn g z q k l) (sym h.0) (subst (λ z. GoesOn g true z k l) (sym h.1)
    (subst (λ z. GoesOn g true p z l) (sym h.2) here))) r
remains_as g p n [] (m ∷ line) a q k h P Q to l here r = absurd h
remains_as g p n (f ∷ outer) [] a q k h P Q to l here r = absurd h
remains_as g p n (f ∷ outer) (m ∷ line) a q k h P Q to l here r =
    remains_as g p n outer line f.attacks f.position f.left h.0 (IsBehind f.ahead m P) (IsBehind f.ahead m Q)
    (λ t on b. elim b [
      | inl ahead ↦ inl ahead
      | inr s ↦ inr (
        s.0,
        s.1,
        to s.0 (goes_next g f m a q k s.0 h.3 h.4 h.5 (subst (GoesOn g f.attacks f.position f.left) s.1 on)) s.2,
      )
    ]) l here r

-- or it is one line, or gives something else
pub remains_or : (g : Geometry) (p : Placement) (n : ℕ) (outer : List Level) (line : List Move) (a : Bool)
    (q : Placement) (k : ℕ) → Leads g p n outer line a q k → (s : List Move) (P Q : List Move → Type 0)
    → ((t : List Move) → GoesOn g a q k t → P t → (t ≡ s) ⊎ Q t) → (l : List Move) → Line g p n l
    → Remains outer line P l → (l ≡ reverse_aux line s) ⊎ Remains outer line Q l
remains_or g p n [] [] a q k h s P Q to l here r =
    to l (subst (λ z. GoesOn g z q k l) (sym h.0) (subst (λ z. GoesOn g true z k l) (sym h.1)
    (subst (λ z. GoesOn g true p z l) (sym h.2) here))) r
remains_or g p n [] (m ∷ line) a q k h s P Q to l here r = absurd h
remains_or g p n (f ∷ outer) [] a q k h s P Q to l here r = absurd h
remains_or g p n (f ∷ outer) (m ∷ line) a q k h s P Q to l here r =
    remains_or g p n outer line f.attacks f.position f.left h.0 (m ∷ s) (IsBehind f.ahead m P) (IsBehind f.ahead m Q)
    (λ t on b. elim b [
      | inl ahead ↦ inr (inl ahead)
      | inr u ↦ elim (to u.0 (goes_next g f m a q k u.0 h.3 h.4 h.5 (subst (GoesOn g f.attacks f.position f.left) u.1
          on)) u.2) [
            | inl e ↦ inl (u.1 ∙ ap (λ z. m ∷ z) e)
            | inr b' ↦ inr (inr (u.0, u.1, b'))
          ]
    ]) l here r

-- the line along the levels, and on
pub remains_here : (g : Geometry) (p : Placement) (n : ℕ) (outer : List Level) (line : List Move) (a : Bool)
    (q : Placement) (k : ℕ) → Leads g p n outer line a q k → (t : List Move) (P : List Move → Type 0) → P t
    → Remains outer line P (reverse_aux line t)
remains_here g p n [] [] a q k h t P here = here
remains_here g p n [] (m ∷ line) a q k h t P here = absurd h
remains_here g p n (f ∷ outer) [] a q k h t P here = absurd h
remains_here g p n (f ∷ outer) (m ∷ line) a q k h t P here =
    remains_here g p n outer line f.attacks f.position f.left h.0 (m ∷ t) (IsBehind f.ahead m P) (inr (t, refl, here))

pub leads_line : (g : Geometry) (p : Placement) (n : ℕ) (outer : List Level) (line : List Move) (a : Bool)
    (q : Placement) (k : ℕ) → Leads g p n outer line a q k → (t : List Move) → GoesOn g a q k t
    → Line g p n (reverse_aux line t)
leads_line g p n [] [] a q k h t on = subst (λ z. GoesOn g true p z t) h.2 (subst (λ z. GoesOn g true z k t) h.1
    (subst (λ z. GoesOn g z q k t) h.0 on))
leads_line g p n [] (m ∷ line) a q k h t on = absurd h
leads_line g p n (f ∷ outer) [] a q k h t on = absurd h
leads_line g p n (f ∷ outer) (m ∷ line) a q k h t on =
    leads_line g p n outer line f.attacks f.position f.left h.0 (m ∷ t)
    (goes_to g f.attacks f.position f.left m t h.1
    (subst (λ z. GoesOn g (not f.attacks) (play g f.position m) z t) h.5 (subst (λ z. GoesOn g (not f.attacks) z k t)
    h.4 (subst (λ z. GoesOn g z q k t) h.3 on))))

-- what is ahead behind a move comes after it
behind_later : (g : Geometry) (q : Placement) (m : Move) (o : Option (List Move)) → AreBehind g q m o
    → (s t : List Move) → IsAhead o t → Before g q (m ∷ s) t
behind_later g q m None h s t ahead = absurd h
behind_later g q m (Some ms) h s [] ahead = absurd ahead
behind_later g q m (Some ms) h s (r ∷ t) ahead = inl ((ascending_parts (Precedes g q) h.0 (m ∷ ms) h.1.ascending).0.0 r
    ahead)

-- what remains comes after the line along the levels, if it does at the last one
pub remains_later : (g : Geometry) (p : Placement) (n : ℕ) (outer : List Level) (line : List Move) (a : Bool)
    (q : Placement) (k : ℕ) → Leads g p n outer line a q k → (s : List Move) (P : List Move → Type 0)
    → ((t : List Move) → P t → Before g q s t) → (l : List Move) → Remains outer line P l
    → Before g p (reverse_aux line s) l
remains_later g p n [] [] a q k h s P later l r = subst (λ z. Before g z s l) h.1 (later l r)
remains_later g p n [] (m ∷ line) a q k h s P later l r = absurd h
remains_later g p n (f ∷ outer) [] a q k h s P later l r = absurd h
remains_later g p n (f ∷ outer) (m ∷ line) a q k h s P later l r =
    remains_later g p n outer line f.attacks f.position f.left h.0 (m ∷ s) (IsBehind f.ahead m P)
    (λ t b. elim b [
      | inl ahead ↦ behind_later g f.position m f.ahead h.2 s t ahead
      | inr u ↦ subst (Before g f.position (m ∷ s)) (sym u.1)
          (inr (refl, subst (λ z. Before g z s u.0) h.4 (later u.0 u.2)))
    ]) l r
