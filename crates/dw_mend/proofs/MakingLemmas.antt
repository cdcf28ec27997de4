-- The neighbours that changes make, one change after another.
use Rattle.std.proofs.Common.{◌≡◌, ◌∙◌, ℕ, ◌+◌, ◌<◌, List, [], ◌∷◌, ◌++◌, length, map, take, get_or, refl, sym, ap}
use Rattle.std.proofs.Common.{subst, inl, inr, Some}
use Rattle.std.proofs.lemmas.List.{map_push}
use Rattle.dw_board.specs.Geometry.{Geometry}
use Rattle.dw_board.specs.declared.piece.Piece.{Piece}
use Rattle.dw_board.specs.Placement.{Placement, placed}
use Rattle.dw_board.specs.Lists.{Member}
use Rattle.dw_mend.specs.Changes.{Change, without, with_piece, set, made, Makes, IsNeighbour, AreMade, changes}
use Rattle.dw_mend.specs.Laws.{OneListOfNeighbours}
use Rattle.dw_mend.proofs.ListLemmas.{one_more}

pub made_more : (g : Geometry) (p : Placement) (cs : List Change) (found : List (Change × Placement)) (c : Change)
    (q : Placement) → AreMade g p cs found → IsNeighbour g p c q → AreMade g p (cs ++ c ∷ []) (found ++ (c, q) ∷ [])
made_more g p [] found c q none is =
    inl (q, [], is, refl, ap (λ (z : List (Change × Placement)). z ++ (c, q) ∷ []) none)
made_more g p (d ∷ cs) found c q (inl (r, rest, here, are, e)) is = inl (
  r,
  rest ++ (c, q) ∷ [],
  here,
  made_more g p cs rest c q are is,
  ap (λ (z : List (Change × Placement)). z ++ (c, q) ∷ []) e,
)
made_more g p (d ∷ cs) found c q (inr (never, are)) is = inr (never, made_more g p cs found c q are is)

pub made_none : (g : Geometry) (p : Placement) (cs : List Change) (found : List (Change × Placement)) (c : Change)
    → AreMade g p cs found → ((q : Placement) → IsNeighbour g p c q → ⊥) → AreMade g p (cs ++ c ∷ []) found
made_none g p [] found c none never = inr (never, none)
made_none g p (d ∷ cs) found c (inl (r, rest, here, are, e)) never =
    inl (r, rest, here, made_none g p cs rest c are never, e)
made_none g p (d ∷ cs) found c (inr (not, are)) never = inr (not, made_none g p cs found c are never)

-- the next one of a list of changes makes a neighbour, or none
pub made_next : {X : Type 0} (f : X → Change) (g : Geometry) (p : Placement) (xs : List X)
    (found more : List (Change × Placement)) (i : ℕ) (x : X) (q : Placement)
    → i < length xs → x ≡ get_or xs i x → AreMade g p (map f (take i xs)) found → IsNeighbour g p (f x) q
    → more ≡ found ++ (f x, q) ∷ [] → AreMade g p (map f (take (i + 1) xs)) more
made_next f g p xs found more i x q low is so_far here pushed =
    subst (AreMade g p (map f (take (i + 1) xs))) (sym pushed)
    (subst (λ z. AreMade g p z (found ++ (f x, q) ∷ [])) (sym (ap (map f) (one_more xs i x low is)
    ∙ map_push f (take i xs) x)) (made_more g p (map f (take i xs)) found (f x) q so_far here))

pub none_next : {X : Type 0} (f : X → Change) (g : Geometry) (p : Placement) (xs : List X)
    (found : List (Change × Placement)) (i : ℕ) (x : X)
    → i < length xs → x ≡ get_or xs i x → AreMade g p (map f (take i xs)) found
    → ((q : Placement) → IsNeighbour g p (f x) q → ⊥) → AreMade g p (map f (take (i + 1) xs)) found
none_next f g p xs found i x low is so_far never =
    subst (λ z. AreMade g p z found) (sym (ap (map f) (one_more xs i x low is) ∙ map_push f (take i xs) x))
    (made_none g p (map f (take i xs)) found (f x) so_far never)

-- ---- one list
some_injective : {x y : Piece} → Some x ≡ Some y → x ≡ y
some_injective e = cc

same_made : (p : Placement) (c : Change) (q r : Placement) → Makes p c q → Makes p c r → q ≡ r
same_made p (without s) q r (some, e) (other, f) = e ∙ sym f
same_made p (with_piece s piece) q r (none, e) (other, f) = e ∙ sym f
same_made p (set s t) q r (some, none, e) (other, others, f) = e ∙ sym f
same_made p (made s kind) q r (one, at_it, differs, e) (two, at_two, differs', f) =
    let same : one ≡ two = some_injective (sym at_it ∙ at_two) in
    e ∙ (ap (λ (z : Piece). placed p s (Some (record { side = z.side; kind = kind }))) same ∙ sym f)

pub only_list : (g : Geometry) (p : Placement) (cs : List Change) (found others : List (Change × Placement))
    → AreMade g p cs found → AreMade g p cs others → found ≡ others
only_list g p [] found others none none' = none ∙ sym none'
only_list g p (c ∷ cs) found others (inl (q, rest, is, are, e)) (inl (r, rest', is', are', f)) =
    let tail = only_list g p cs rest rest' are are' in
    let head = same_made p c q r is.0 is'.0 in
    e ∙ (ap (λ z. (c, z) ∷ rest) head ∙ (ap (λ z. (c, r) ∷ z) tail ∙ sym f))
only_list g p (c ∷ cs) found others (inl (q, rest, is, are, e)) (inr (never, are')) = absurd (never q is)
only_list g p (c ∷ cs) found others (inr (never, are)) (inl (r, rest', is', are', f)) = absurd (never r is')
only_list g p (c ∷ cs) found others (inr (never, are)) (inr (never', are')) = only_list g p cs found others are are'

-- ---- just the neighbours
made_are : (g : Geometry) (p : Placement) (cs : List Change) (found : List (Change × Placement)) → AreMade g p cs found
    → (c : Change) (q : Placement) → Member (c, q) found → Member c cs × IsNeighbour g p c q
made_are g p [] found none c q here = absurd (subst (Member (c, q)) none here)
made_are g p (d ∷ cs) found (inl (r, rest, is, are, e)) c q here = elim (subst (Member (c, q)) e here) [
  | inl same ↦ (
    inl (ap (λ z. z.0) same),
    subst (λ (z : Change × Placement). IsNeighbour g p z.0 z.1) (sym same) is,
  )
  | inr later ↦ let h = made_are g p cs rest are c q later in (inr h.0, h.1)
]
made_are g p (d ∷ cs) found (inr (never, are)) c q here = let h = made_are g p cs found are c q here in (inr h.0, h.1)

all_made : (g : Geometry) (p : Placement) (cs : List Change) (found : List (Change × Placement)) → AreMade g p cs found
    → (c : Change) (q : Placement) → Member c cs → IsNeighbour g p c q → Member (c, q) found
all_made g p [] found none c q here is = absurd here
all_made g p (d ∷ cs) found (inl (r, rest, made_it, are, e)) c q (inl same) is =
    subst (Member (c, q)) (sym e) (inl (λ i. (
      same i,
      same_made p c q r is.0 (subst (λ z. Makes p z r) (sym same) made_it.0) i,
    )))
all_made g p (d ∷ cs) found (inl (r, rest, made_it, are, e)) c q (inr later) is =
    subst (Member (c, q)) (sym e) (inr (all_made g p cs rest are c q later is))
all_made g p (d ∷ cs) found (inr (never, are)) c q (inl same) is =
    absurd (never q (subst (λ z. IsNeighbour g p z q) same is))
all_made g p (d ∷ cs) found (inr (never, are)) c q (inr later) is = all_made g p cs found are c q later is

pub one_list : OneListOfNeighbours
one_list = record {
  only = λ g p all others are are'. only_list g p (changes g) all others are are';
  just = λ g p all are c q. (
    made_are g p (changes g) all are c q,
    λ h. all_made g p (changes g) all are c q h.0 h.1,
  );
}
