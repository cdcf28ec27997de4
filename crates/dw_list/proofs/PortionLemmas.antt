-- What one turn of taking lines in portions does.
use Rattle.std.proofs.Common.{ℕ, ◌≤◌, max, refl, ◌≡◌, true, false, List, [], ◌∷◌, ◌++◌, map, reverse, sym, ap, ◌∙◌}
use Rattle.std.proofs.Common.{subst}
use Rattle.std.proofs.lemmas.List.{map-append}
use Rattle.dw_board.specs.Geometry.{Geometry}
use Rattle.dw_moves.specs.Moves.{Move}
use Rattle.dw_solve.specs.Solving.{Solving}
use Rattle.dw_list.specs.Listing.{last_of, LimitIsLast}
use Rattle.dw_list.specs.LineStack.{LineStack, AreToCome}
use Rattle.dw_list.specs.StackWalk.{Gives, SameToCome, GivesFirst}
use Rattle.dw_list.specs.inner.StackWalk.{GivesNext}
use Rattle.dw_list.proofs.StepLemmas.{gives_nothing, gives_then, gives_same, none_stays, none_first}

pub taken_none_yet : (g : Geometry) (s : LineStack) {X : Type 0} (f : X → List Move) (xs : List X) → xs ≡ []
    → Gives g s s (map f xs)
taken_none_yet g s f xs e = subst (λ z. Gives g s s (map f z)) (sym e) (gives_nothing g s)

module _ (g : Geometry) (a b c : LineStack) (same : b ≡ a) where
  pub taken_same : {X : Type 0} (f : X → List Move) (s : LineStack) (xs ys : List X) → ys ≡ xs → SameToCome g b c
      → Gives g s a (map f xs) → Gives g s c (map f ys)
  taken_same f s xs ys e h given =
      subst (Gives g s c) (ap (map f) (sym e)) (gives_same g s a c (map f xs) given (subst (λ z. SameToCome g z c) same
      h))

  pub taken_more : {X : Type 0} (f : X → List Move) (s : LineStack) (xs ys zs : List X) (x : X) (l : List Move) → ys ≡
      xs → zs ≡ ys ++ x ∷ [] → f x ≡ l → l ≡ reverse c.line → GivesNext g true b c → Gives g s a (map f xs)
      → Gives g s c (map f zs)
  taken_more f s xs ys zs x l e is line at h given =
      let all : map f zs ≡ map f xs ++ (reverse c.line ∷ []) =
      ap (map f) (is ∙ ap (λ z. z ++ x ∷ []) e) ∙ map-append f xs (x ∷ []) ∙ ap (λ z. map f xs ++ z ∷ []) (line ∙ at) in
      subst (Gives g s c) (sym all) (gives_then g s a c (map f xs) (reverse c.line ∷ []) given
      (subst (λ z. GivesFirst g z c) same h))

  pub end_same : SameToCome g b c → AreToCome g a [] → AreToCome g c []
  end_same h none = none_stays g b c (subst (λ z. AreToCome g z []) (sym same) none) h

  pub end_more : GivesNext g true b c → AreToCome g a [] → AreToCome g c []
  end_more h none = absurd (none_first g b c (subst (λ z. AreToCome g z []) (sym same) none) h)

  pub taken_none : {X : Type 0} (f : X → List Move) (s : LineStack) (xs ys : List X) → ys ≡ xs → GivesNext g false b c
      → Gives g s a (map f xs) → Gives g s c (map f ys)
  taken_none f s xs ys e h given = taken_same f s xs ys e h.same given

  pub end_none : GivesNext g false b c → AreToCome g c []
  end_none h = none_stays g b c h.none h.same

-- THE LIMIT OF THE LAST TURN

last_push : (first : ℕ) (limits : List ℕ) (x : ℕ) → last_of first (limits ++ x ∷ []) ≡ x
last_push first [] x = refl
last_push first (next ∷ limits) x = last_push next limits x

pub limit_push : {M : Type 0} (limits : List ℕ) (x : ℕ) (old mid new : Solving M) → old.expanded ≤ mid.expanded
    → mid.expanded ≤ new.expanded → new.limit ≡ max (max x 1) mid.expanded → LimitIsLast (limits ++ x ∷ []) old new
limit_push [] x old mid new before after is = (mid.expanded, before, after, is)
limit_push (first ∷ limits) x old mid new before after is = (
  mid.expanded,
  before,
  after,
  is ∙ ap (λ z. max (max z 1) mid.expanded) (sym (last_push first limits x)),
)
